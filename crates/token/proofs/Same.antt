-- When two byte strings are the same. Assumes nothing.
use mathlib.Core.Path.{◌≡◌, refl, ap, ◌∙◌}
use mathlib.Core.Bool.{Bool, true, false, ◌&&◌, and-false}
use mathlib.Core.List.{List, [], ◌∷◌}
use Prim.Native.Nat.{ℕ, suc}
use borrow.Author.Tests.{eqb-true}
use lib.Dec.{eqb}
use lib.ListN.{length}
use Rattle.token.specs.Keyword.{same}

-- strings of two lengths differ
pub same_length : (x w : List ℕ) → (length x ≡ length w → ⊥) → same x w ≡ false
same_length [] [] h = absurd (h refl)
same_length [] (b ∷ w) h = refl
same_length (a ∷ x) [] h = refl
same_length (a ∷ x) (b ∷ w) h = ap (λ (t : Bool). eqb a b && t) (same_length x w (λ e. h (ap suc e))) ∙ and-false (eqb a b)

-- the test is right
pub same_true : (x w : List ℕ) → same x w ≡ true → x ≡ w
same_true [] [] e = refl
same_true [] (b ∷ w) e = cc
same_true (a ∷ x) [] e = cc
same_true (a ∷ x) (b ∷ w) e = go (eqb a b) refl e (same_true x w)
  where
    go : (t : Bool) → eqb a b ≡ t → (t && same x w) ≡ true → (same x w ≡ true → x ≡ w) → a ∷ x ≡ b ∷ w
    go true h k ih = rw (eqb-true a b h, ih k)
    go false h k ih = cc
