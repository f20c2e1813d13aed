-- A rounded fraction is as near to the fraction as any float is that is not negative: the distances, with the denominators
-- multiplied out, are in that order. Assumes nothing.
use mathlib.Core.Path.{◌≡◌, refl, sym, ap, ◌∙◌, subst, subst⁻¹, subst₂}
use mathlib.Core.Logic.{◌⊎◌, inl, inr, ⊎_elim}
use mathlib.Core.Bool.{Bool, true, false, not, ◌&&◌}
use Prim.Native.Nat.{ℕ, zero, suc, ◌+◌, ◌-◌, ◌*◌, ◌/◌, ◌%◌, ◌^◌, ◌≤◌, ◌<◌, compare, Ordering}
use native.Mathlib.Nat.{add-zero, add-mul, mul-add, mul-sub, one-mul, zero-mul, mul-one, mul_comm, mul_assoc, mul_left_comm, mul_right_comm, mul-mul-mul_comm, mul-pos, mul-le-mul_left, mul-le-mul_right, le_of_mul-le-mul_left, mod-lt, div-add-mod', le-div_iff_mul-le, le-mul_of_pos_right, add-le-add, one-le-pow, le_trans, le_of_lt, lt_of_le_of_lt, lt_irrefl}
use native.Mathlib.Numerals.{add-one}
use native.Mathlib.Omega.{arith}
use lib.IntN.{ℤ, pos, negsuc}
use lib.Pow.{pow-add, pow_pos, pow_mono, pow-lt, shl_lt}
use lib.Dec.{T, lit<, lit≤, is_le, compare_is_eq, leb, ltb, eqb, ltb→lt, leb→le, nleb→lt, eqb→eq, eqb_refl}
use lib.Arith.{lt_of_le-ne}
use lib.Ieee.{Float, fin, Format, binary64, prec, emax, low, up, down, fits, nearest, round, div}
use lib.Ieee.Digits.{size_reaches, back}
use lib.Ieee.Fits.{and_l, and_r}
use lib.Ieee.Order.{drop, kept}
use lib.Ieee.Scale.{grid, overflow, round_val}
use lib.Ieee.Positive.{num, den, value→cross}
use Rattle.literal.specs.Value.{whole}
use Rattle.literal.proofs.Tens.{ten_of}
use Rattle.literal.proofs.Quotient.{once}
use lib.Ieee.Nearest.{closest}

-- how far two numbers are apart
abbrev pub dist : ℕ → ℕ → ℕ
dist p q = (p - q) + (q - p)

-- ---- the whole number nearest to a fraction is as near as any
abbrev Cmp : Ordering → ℕ → ℕ → Type 0
Cmp Ordering.lt a b = a < b
Cmp Ordering.eq a b = a ≡ b
Cmp Ordering.gt a b = b < a

cmp : (a b : ℕ) → Cmp (compare a b) a b
cmp a b = go (compare a b) (leb→le a b) (nleb→lt a b) (eqb→eq a b) (λ (e : a ≡ b). subst (λ (x : ℕ). T (eqb a x)) e (eqb_refl a))
  where
    go : (o : Ordering) → (T (is_le o) → a ≤ b) → (T (not (is_le o)) → b < a) → (T (compare_is_eq o) → a ≡ b) → (a ≡ b → T (compare_is_eq o)) → Cmp o a b
    go Ordering.lt h k e n = lt_of_le-ne (h tt) n
    go Ordering.eq h k e n = e tt
    go Ordering.gt h k e n = k tt

split : (z q : ℕ) → (z ≤ q) ⊎ (q + 1 ≤ z)
split z q = go (leb z q) (leb→le z q) (nleb→lt z q)
  where
    go : (b : Bool) → (T b → z ≤ q) → (T (not b) → q < z) → (z ≤ q) ⊎ (q + 1 ≤ z)
    go true h k = inl (h tt)
    go false h k = let l = k tt in inr (omega arith)

next : (q b : ℕ) → (q + 1) * b ≡ q * b + b
next q b = add-mul q 1 b ∙ ap (λ (x : ℕ). q * b + x) (one-mul b)

-- z times b lies at or below q times b, or at least b above it
apart : (z q b : ℕ) → (z * b ≤ q * b) ⊎ (q * b + b ≤ z * b)
apart z q b =
    ⊎_elim (λ h. inl (mul-le-mul_right b h))
    (λ h. inr (subst (λ (x : ℕ). x ≤ z * b) (next q b) (mul-le-mul_right b h)))
    (split z q)

-- the chosen number is q or the next, by the remainder
tie : (q u b : ℕ) → u < 2 → ((q + u) * b ≡ q * b) ⊎ ((q + u) * b ≡ q * b + b)
tie q zero b h = inl (rw add-zero)
tie q (suc zero) b h = inr (next q b)
tie q (suc (suc u)) b h = absurd (omega arith)

chosen : (q r b : ℕ) (o : Ordering) → Cmp o (r * 2) b → ((nearest q o * b ≡ q * b) × (r * 2 ≤ b)) ⊎ ((nearest q o * b ≡ q * b + b) × (b ≤ r * 2))
chosen q r b Ordering.lt h = inl (refl, omega arith)
chosen q r b Ordering.gt h = inr (rw (← add-one) (next q b), omega arith)
chosen q r b Ordering.eq h = ⊎_elim (λ t. inl (t, omega arith)) (λ t. inr (t, omega arith)) (tie q (q % 2) b (omega arith))

pub closest_best : (a b z : ℕ) → 0 < b → dist (closest a b * b) a ≤ dist (z * b) a
closest_best a b z h =
    let r : a % b < b = mod-lt a h in
    let e : a / b * b + a % b ≡ a = div-add-mod' a b in
    ⊎_elim
    (λ u. ⊎_elim (λ v. omega arith) (λ v. omega arith) (apart z (a / b) b))
    (λ u. ⊎_elim (λ v. omega arith) (λ v. omega arith) (apart z (a / b) b))
    (chosen (a / b) (a % b) b (compare (a % b * 2) b) (cmp (a % b * 2) b))

-- ---- in units of a format's smallest value, the rounded number is as near as any q * 2 ^ j with q of at most p digits
aligned : (q c j k : ℕ) → k ≤ j → q * 2 ^ (j - k) * (c * 2 ^ k) ≡ q * 2 ^ j * c
aligned q c j k h =
    mul-mul-mul_comm q (2 ^ (j - k)) c (2 ^ k)
    ∙ ap (λ (x : ℕ). q * c * x) (sym (pow-add 2 (j - k) k) ∙ ap (λ (x : ℕ). 2 ^ x) (back j k h))
    ∙ mul_right_comm q c (2 ^ j)

under : (p k j q : ℕ) → 1 ≤ p → j + 1 ≤ k → q < 2 ^ p → q * 2 ^ j ≤ 2 ^ (p - 1 + k)
under p k j q one h l = le_trans (le_of_lt (shl_lt p j l)) (pow_mono (omega arith))

pub kept_best : (p n c q j : ℕ) → 0 < c → 1 ≤ p → q < 2 ^ p → dist (kept p n c * 2 ^ drop p n c * c) n ≤ dist (q * 2 ^ j * c) n
kept_best p n c q j C one l =
    let k = drop p n c in
    let u = c * 2 ^ k in
    let same : kept p n c * 2 ^ k * c ≡ kept p n c * u = mul_assoc (kept p n c) (2 ^ k) c ∙ ap (λ (x : ℕ). kept p n c * x) (mul_comm (2 ^ k) c) in
    subst⁻¹ (λ (x : ℕ). dist x n ≤ dist (q * 2 ^ j * c) n) same
    (⊎_elim
    (λ h. subst (λ (x : ℕ). dist (kept p n c * u) n ≤ dist x n) (aligned q c j k h) (closest_best n u (q * 2 ^ (j - k)) (mul-pos C (pow_pos k))))
    (λ h.
    let b : dist (kept p n c * u) n ≤ dist (2 ^ (p - 1) * u) n = closest_best n u (2 ^ (p - 1)) (mul-pos C (pow_pos k)) in
    let e : 2 ^ (p - 1) * u ≡ 2 ^ (p - 1 + k) * c = mul_left_comm (2 ^ (p - 1)) c (2 ^ k) ∙ mul_comm c (2 ^ (p - 1) * 2 ^ k) ∙ ap (λ (x : ℕ). x * c) (sym (pow-add 2 (p - 1) k)) in
    let reach : 2 ^ (p - 1 + k) * c ≤ n = (le-div_iff_mul-le C).0 (size_reaches (n / c) (p - 1 + k) (omega arith)) in
    let low : q * 2 ^ j * c ≤ 2 ^ (p - 1 + k) * c = mul-le-mul_right c (under p k j q one h l) in
    omega arith)
    (split k j))

-- ---- a float that is not negative, in those units
short : (f : Format) (t : ℕ) → 2 ^ suc t ≤ 2 ^ low f → suc t ≤ low f
short f t h = ⊎_elim (λ k. k) (λ k. absurd (lt_irrefl (2 ^ suc t) (lt_of_le_of_lt h (pow-lt (omega arith))))) (split (suc t) (low f))

-- what `fits` says of a significand and of the lowest digit
parts : (f : Format) (m : ℕ) (e : ℤ) → T (fits f (fin false (suc m) e)) → (suc m < 2 ^ prec f) × (down e ≤ 2 ^ low f)
unfolding fits
parts f m e t =
    let a : Bool = eqb (suc m % 2) 1 in
    let b : Bool = ltb (suc m) (2 ^ prec f) in
    let c : Bool = leb (down e) (2 ^ low f) in
    let d : Bool = ltb (suc m * up e) (2 ^ suc (emax f) * down e) in
    (ltb→lt (suc m) (2 ^ prec f) (and_r a b (and_l (a && b) c (and_l (a && b && c) d t))), leb→le (down e) (2 ^ low f) (and_r (a && b) c (and_l (a && b && c) d t)))

abbrev InUnits : Format → ℕ → ℤ → Type 0
InUnits f m e = (q : ℕ) × (j : ℕ) × (q < 2 ^ prec f) × (m * up e * 2 ^ low f ≡ q * 2 ^ j * down e)

in_units : (f : Format) (m : ℕ) (e : ℤ) → T (fits f (fin false m e)) → InUnits f m e
in_units f zero e t = (0, 0, pow_pos (prec f), simp zero-mul)
in_units f (suc m) (pos k) t = (
  suc m,
  k + low f,
  (parts f m (pos k) t).0,
  mul_assoc (suc m) (2 ^ k) (2 ^ low f) ∙ ap (λ (x : ℕ). suc m * x) (sym (pow-add 2 k (low f))) ∙ sym (mul-one (suc m * 2 ^ (k + low f))),
)
in_units f (suc m) (negsuc k) t =
    let h : suc k ≤ low f = short f k (parts f m (negsuc k) t).1 in (
      suc m,
      low f - suc k,
      (parts f m (negsuc k) t).0,
      ap (λ (x : ℕ). x * 2 ^ low f) (mul-one (suc m))
          ∙ ap (λ (x : ℕ). suc m * x) (sym (ap (λ (x : ℕ). 2 ^ x) (back (low f) (suc k) h)) ∙ pow-add 2 (low f - suc k) (suc k))
          ∙ sym (mul_assoc (suc m) (2 ^ (low f - suc k)) (2 ^ suc k)),
    )

-- ---- from units back to floats
scale : (t p q : ℕ) → dist (t * p) (t * q) ≡ t * dist p q
scale t p q = sym (mul-add t (p - q) (q - p) ∙ ap (λ (x : ℕ). x + t * (q - p)) (mul-sub t p q) ∙ ap (λ (x : ℕ). (t * p - t * q) + x) (mul-sub t q p))

-- x is as near to a / c as any float of the format is that is not negative: |x - a / c| ≤ |y - a / c|, times the denominators
abbrev pub AsNear : Format → Float → ℕ → ℕ → Type 0
AsNear f x a c = (m : ℕ) (e : ℤ) → T (fits f (fin false m e)) → dist (num x * (c * down e)) (a * (den x * down e)) ≤ dist (m * up e * (c * den x)) (a * (den x * down e))

-- the same with the numbers named: X / D is x, Y / E is y, both in units of 1 / l
cancel : (x d y e a c g v l : ℕ) → 0 < l → x * l ≡ g * d → y * l ≡ v * e → dist (g * c) (a * l) ≤ dist (v * c) (a * l)
    → dist (x * (c * e)) (a * (d * e)) ≤ dist (y * (c * d)) (a * (d * e))
cancel x d y e a c g v l p h k b =
    let one : l * (x * (c * e)) ≡ d * e * (g * c) = across x g d (c * e) l h ∙ simp (mul_assoc, mul_comm, mul_left_comm) in
    let two : l * (y * (c * d)) ≡ d * e * (v * c) = across y v e (c * d) l k ∙ simp (mul_assoc, mul_comm, mul_left_comm) in
    let three : l * (a * (d * e)) ≡ d * e * (a * l) = simp (mul_assoc, mul_comm, mul_left_comm) in
    le_of_mul-le-mul_left
    (subst₂ (λ (s t : ℕ). s ≤ t) (both (d * e) l (g * c) (a * l) (x * (c * e)) (a * (d * e)) one three) (both (d * e) l (v * c) (a * l) (y * (c * d)) (a * (d * e)) two three)
    (mul-le-mul_left (d * e) b))
    p
  where
    across : (x g d w l : ℕ) → x * l ≡ g * d → l * (x * w) ≡ g * d * w
    across x g d w l h = mul_left_comm l x w ∙ sym (mul_assoc x l w) ∙ ap (λ (z : ℕ). z * w) h

    both : (t l p q r s : ℕ) → l * r ≡ t * p → l * s ≡ t * q → t * dist p q ≡ l * dist r s
    both t l p q r s e f = sym (scale t p q) ∙ ap (λ (z : ℕ). dist z (t * q)) (sym e) ∙ ap (λ (z : ℕ). dist (l * r) z) (sym f) ∙ scale l r s

-- a fraction up to 2 ^ 53 does not overflow
twice : (w n o : ℕ) → o ≡ 0 → dist w n ≤ dist o n → w ≤ n + n
twice w n o e h = omega arith

small : (a c : ℕ) → 0 < c → a ≤ 2 ^ 53 → grid binary64 a c < overflow binary64
small a c p h =
    let n = a * 2 ^ low binary64 in
    let g = grid binary64 a c in
    let far : g * c ≤ n + n = twice (g * c) n (0 * 2 ^ 0 * c) (zero-mul c) (kept_best 53 n c 0 0 p (lit≤ tt) (pow_pos 53)) in
    let top : n ≤ 2 ^ 53 * 2 ^ 1074 = mul-le-mul_right (2 ^ 1074) h in
    lt_of_le_of_lt (le_trans (le-mul_of_pos_right g p) (le_trans far (add-le-add top top))) (lit< tt)

pub round_near : (a c : ℕ) → 0 < c → a ≤ 2 ^ 53 → AsNear binary64 (round binary64 false a c) a c
round_near a c p h m e t =
    let x = round binary64 false a c in
    let u = in_units binary64 m e t in
    let g = grid binary64 a c in
    cancel (num x) (den x) (m * up e) (down e) a c g (u.0 * 2 ^ u.1) (2 ^ 1074) (pow_pos 1074)
    (value→cross x g (2 ^ 1074) (round_val binary64 a c (small a c p h))) u.3 (kept_best 53 (a * 2 ^ 1074) c u.0 u.1 p (lit≤ tt) u.2)

-- the value of the digits m with k after the point is as near to m / 10 ^ k as any float is that is not negative
pub value_near : (m k : ℕ) → m ≤ 2 ^ 53 → k ≤ 22 → AsNear binary64 (div binary64 (whole m) (ten_of k)) m (10 ^ k)
value_near m k h l = subst⁻¹ (λ (x : Float). AsNear binary64 x m (10 ^ k)) (once m k h l) (round_near m (10 ^ k) (one-le-pow k 10 (lit< tt)) h)
