-- What straight-line stores at `at`, `at + 1`, `at + 2`, .. leave: one law for records of any width. Assumes nothing.
use mathlib.Core.Path.{◌≡◌, refl, ap, ◌∙◌}
use mathlib.Core.List.{List, [], ◌∷◌, ◌++◌}
use Prim.Native.Nat.{ℕ, suc, ◌+◌, ◌≤◌}
use native.Mathlib.Nat.{add-suc}
use native.Mathlib.Numerals.{add-one}
use lib.ListN.{length, take, drop, set}
use lib.Seq.{sets, sets-eq}

-- the stores of vs from at + k on; on a list that is written out it computes to the stores that the code does
abbrev pub stores : List ℕ → ℕ → ℕ → List ℕ → List ℕ
stores l at k [] = l
stores l at k (v ∷ vs) = stores (set l (at + k) v) at (suc k) vs

stores_sets : (vs l : List ℕ) (at k : ℕ) → stores l at k vs ≡ sets l (at + k) vs
stores_sets [] l at k = refl
stores_sets (v ∷ vs) l at k = stores_sets vs (set l (at + k) v) at (suc k) ∙ ap (λ (i : ℕ). sets (set l (at + k) v) i vs) (add-suc at k)

pub stored : (l : List ℕ) (at a : ℕ) (vs : List ℕ) → at + suc (length vs) ≤ length l
    → stores (set l at a) at 1 vs ≡ take at l ++ (a ∷ vs) ++ drop (at + suc (length vs)) l
stored l at a vs h =
    stores_sets vs (set l at a) at 1 ∙ ap (λ (i : ℕ). sets (set l at a) i vs) (add-one at) ∙ sets-eq (a ∷ vs) l at h
