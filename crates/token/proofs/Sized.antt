-- The decision by length: only the rows whose word is as long as the name can give its kind. Assumes nothing.
use mathlib.Core.Path.{◌≡◌, refl, sym, ap, ◌∙◌}
use mathlib.Core.Bool.{Bool, true, false, cond}
use mathlib.Core.List.{List, [], ◌∷◌}
use Prim.Native.Nat.{ℕ, ◌≤◌, ◌-◌, min}
use native.Mathlib.Nat.{sub-eq-zero_of_le}
use native.Mathlib.Omega.{arith}
use borrow.Author.Tests.{eqb-false, ne_eqb}
use lib.Dec.{eqb}
use lib.ListN.{length, take, drop, length-drop}
use Rattle.std.proofs.lemmas.List.{take_min}
use Rattle.token.specs.Keyword.{same, Entry, lookup, table, keyword_of, part}
use Rattle.token.specs.Page.{keep, sized}
use Rattle.token.proofs.Same.{same_length}

by_length : (w : List ℕ) (ks : List Entry) → lookup w ks ≡ lookup w (sized (length w) ks)
by_length w [] = refl
by_length w (k ∷ ks) = go (eqb (length w) (length k.word)) refl (by_length w ks)
  where
    go : (t : Bool) → eqb (length w) (length k.word) ≡ t → lookup w ks ≡ lookup w (sized (length w) ks)
        → lookup w (k ∷ ks) ≡ lookup w (keep t k (sized (length w) ks))
    go true e ih = ap (λ (n : ℕ). cond (same w k.word) k.kind n) ih
    go false e ih = ap (λ (t : Bool). cond t k.kind (lookup w ks)) (same_length w k.word (eqb-false _ _ e)) ∙ ih

-- a name of n bytes is looked up among the words of n bytes
pub of_length : (w : List ℕ) (n : ℕ) → length w ≡ n → lookup w (sized n table) ≡ keyword_of w
unfolding keyword_of
of_length w n e = sym (by_length w table ∙ ap (λ (i : ℕ). lookup w (sized i table)) e)

-- no keyword has another length than 2, 3, 4, 5, 6 and 8
pub no_length : (w : List ℕ) → (length w ≡ 2 → ⊥) → (length w ≡ 3 → ⊥) → (length w ≡ 4 → ⊥) → (length w ≡ 5 → ⊥) → (length w ≡ 6 → ⊥)
    → (length w ≡ 8 → ⊥) → keyword_of w ≡ 25
no_length w a b c d e f =
    sym (of_length w (length w) refl)
    ∙ simp (ne_eqb _ _ a, ne_eqb _ _ b, ne_eqb _ _ c, ne_eqb _ _ d, ne_eqb _ _ e, ne_eqb _ _ f)

-- ---- a part that the source does not have whole
pub part_none : (a e : ℕ) (s : List ℕ) → e ≤ a → keyword_of (part a e s) ≡ 25
unfolding keyword_of
part_none a e s h = rw (sub-eq-zero_of_le h)

-- what lies past the source is no part of it
pub part_min : (a e : ℕ) (s : List ℕ) → part a (min e (length s)) s ≡ part a e s
part_min a e s =
    let l = length-drop a s in
    let m : min e (length s) - a ≡ min (e - a) (length (drop a s)) = omega arith in
    ap (λ (n : ℕ). take n (drop a s)) m ∙ take_min (e - a) (drop a s)
