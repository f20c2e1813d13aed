-- Digits read as a number that is capped at each step: the cap of the whole. Assumes nothing.
use mathlib.Core.Path.{◌≡◌, refl, sym, ap, ◌∙◌, subst}
use mathlib.Core.Logic.{◌⊎◌, inl, inr, ⊎_elim}
use mathlib.Core.Bool.{Bool, true, false, not, cond}
use mathlib.Core.List.{List, [], ◌∷◌, ◌++◌}
use Prim.Native.Nat.{ℕ, ◌+◌, ◌*◌, ◌-◌, ◌^◌, ◌≤◌, ◌<◌}
use native.Mathlib.Numerals.{add-one}
use native.Mathlib.Omega.{arith}
use borrow.Author.Tests.{le-leb, lt-leb}
use lib.Dec.{T, leb, leb→le, nleb→lt}
use lib.ListN.{length, get_or, drop}
use lib.Seq.{drop-cons}
use lib.Ieee.Fits.{and_l, and_r}
use Rattle.spans.specs.Span.{is_digit}
use Rattle.numbers.specs.Number.{front, whole_of, capped}

-- ---- the cap
pub over : (n : ℕ) → 2 ^ 53 < n → capped n ≡ 2 ^ 53 + 1
over n h = simp (lt-leb _ _ h)

pub within : (n : ℕ) → n ≤ 2 ^ 53 → capped n ≡ n
within n h = simp (le-leb _ _ h)

pub side : (n : ℕ) → (n ≤ 2 ^ 53) ⊎ (2 ^ 53 < n)
side n = go (leb n (2 ^ 53)) (leb→le n (2 ^ 53)) (nleb→lt n (2 ^ 53))
  where
    go : (b : Bool) → (T b → n ≤ 2 ^ 53) → (T (not b) → 2 ^ 53 < n) → (n ≤ 2 ^ 53) ⊎ (2 ^ 53 < n)
    go true h k = inl (h tt)
    go false h k = inr (k tt)

pub same : (n : ℕ) → n ≤ 2 ^ 53 + 1 → capped n ≡ n
same n h = ⊎_elim (λ k. within n k) (λ k. let e : 2 ^ 53 + 1 ≡ n = omega arith in over n k ∙ e) (side n)

pub cap_le : (n : ℕ) → capped n ≤ 2 ^ 53 + 1
cap_le n = ⊎_elim (λ k. let e = within n k in omega arith) (λ k. let e = over n k in omega arith) (side n)

digit_more : (m d : ℕ) → capped (10 * capped m + d) ≡ capped (10 * m + d)
digit_more m d =
    ⊎_elim (λ k. ap (λ (x : ℕ). capped (10 * x + d)) (within m k))
    (λ k. let e = over m k in over (10 * capped m + d) (omega arith) ∙ sym (over (10 * m + d) (omega arith))) (side m)

pub cap_whole : (s : List ℕ) (m : ℕ) → capped (whole_of s (capped m)) ≡ capped (whole_of s m)
cap_whole [] m = same (capped m) (cap_le m)
cap_whole (b ∷ s) m = go (is_digit b) (λ n. cap_whole s n)
  where
    go : (t : Bool) → ((n : ℕ) → capped (whole_of s (capped n)) ≡ capped (whole_of s n))
        → capped (whole_of s (cond t (10 * capped m + (b - 48)) (capped m))) ≡ capped (whole_of s (cond t (10 * m + (b - 48)) m))
    go true ih = sym (ih (10 * capped m + (b - 48))) ∙ ap (λ (x : ℕ). capped (whole_of s x)) (digit_more m (b - 48)) ∙ ih (10 * m + (b - 48))
    go false ih = ih m

pub whole_append : (s r : List ℕ) (m : ℕ) → whole_of (s ++ r) m ≡ whole_of r (whole_of s m)
whole_append [] r m = refl
whole_append (b ∷ s) r m = whole_append s r (cond (is_digit b) (10 * m + (b - 48)) m)

-- ---- one byte further
pub digit : (b : ℕ) → is_digit b ≡ true → (48 ≤ b) × (b ≤ 57)
digit b e =
    let t : T (is_digit b) = subst T (sym e) tt in
    (leb→le 48 b (and_l (leb 48 b) (leb b 57) t), leb→le b 57 (and_r (leb 48 b) (leb b 57) t))

front_more : (b : ℕ) (s : List ℕ) → is_digit b ≡ true → front (b ∷ s) ≡ b ∷ front s
front_more b s e = rw e

module _ (s : List ℕ) (j : ℕ) where
  pub whole_more : (n r : ℕ) → j < length s → is_digit (get_or s j 0) ≡ true → r ≡ capped (10 * n + (get_or s j 0 - 48))
      → capped (whole_of (front (drop j s)) n) ≡ capped (whole_of (front (drop (j + 1) s)) r)
  whole_more n r h e f =
      let b = get_or s j 0 in
      let t = drop (j + 1) s in
      let d : drop j s ≡ b ∷ t = rw (add-one, drop-cons s j 0) in
      ap (λ (l : List ℕ). capped (whole_of (front l) n)) d
      ∙ ap (λ (l : List ℕ). capped (whole_of l n)) (front_more b t e)
      ∙ ap (λ (x : Bool). capped (whole_of (front t) (cond x (10 * n + (b - 48)) n))) e
      ∙ sym (cap_whole (front t) (10 * n + (b - 48)))
      ∙ ap (λ (x : ℕ). capped (whole_of (front t) x)) (sym f)
