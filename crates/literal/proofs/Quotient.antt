-- What `value_of` gives is m / 10^k rounded once, to nearest with ties to even: both floats hold their whole number exactly, and `div` rounds the quotient.
-- Assumes nothing.
use mathlib.Core.Path.{◌≡◌, refl, sym, ap, ◌∙◌, subst}
use mathlib.Core.Bool.{Bool, true, false, not, ◌&&◌, true≢false}
use Prim.Native.Nat.{ℕ, zero, suc, ◌+◌, ◌*◌, ◌^◌, ◌≤◌, ◌<◌}
use native.Mathlib.Nat.{add-zero, zero-add, add-suc, suc-add, le_of_suc-le-suc, not-suc-le-zero, mul-one, mul_assoc, mul_comm, mul_left_comm, mul-pos, one-le-pow}
use native.Mathlib.Omega.{arith}
use lib.Dec.{T, lit<, eqb, eqb→eq, not_T}
use lib.Ieee.{Float, nan, inf, fin, Format, binary64, up, down, round, div, of_int}
use lib.Ieee.Fits.{down_pos, and_l, and_r}
use lib.Ieee.Bits.{cond_no}
use lib.Ieee.Exact.{HasValue}
use lib.Ieee.Back.{round_whole}
use lib.Ieee.Scale.{round_same}
use lib.Ieee.Positive.{first_pos}
use Rattle.literal.specs.Value.{whole}
use Rattle.literal.proofs.Tens.{ten_of}

-- ---- the quotient of two floats that hold whole numbers is the whole numbers' quotient, rounded once
cross : (x y a b u v : ℕ) → x * 1 ≡ a * u → y * 1 ≡ b * v → x * v * b ≡ a * (y * u)
cross x y a b u v h k =
    let p : x ≡ a * u = sym (mul-one x) ∙ h in
    let q : y ≡ b * v = sym (mul-one y) ∙ k in
    let r : a * u * v * b ≡ a * (b * v * u) = simp (mul_assoc, mul_comm, mul_left_comm) in
    ap (λ (z : ℕ). z * v * b) p ∙ r ∙ ap (λ (z : ℕ). a * (z * u)) (sym q)

above : (y b v : ℕ) → 0 < b → 0 < v → y * 1 ≡ b * v → 0 < y
above y b v p q k = subst (λ (z : ℕ). 0 < z) (sym k ∙ mul-one y) (mul-pos p q)

some : (n : ℕ) → 0 < n → T (not (eqb n 0))
some n h = not_T (eqb n 0) (λ t. let e : n ≡ 0 = eqb→eq n 0 t in omega arith)

pub div_whole : (f : Format) (x y : Float) (a b : ℕ) → 0 < b → HasValue x false a 1 → HasValue y false b 1 → div f x y ≡ round f false a b
unfolding div
div_whole f nan y a b B h k = absurd h
div_whole f (inf s) y a b B h k = absurd h
div_whole f (fin s m e) nan a b B h k = absurd k
div_whole f (fin s m e) (inf t) a b B h k = absurd k
div_whole f (fin true m e) (fin t n d) a b B h k = absurd (true≢false h.0)
div_whole f (fin false m e) (fin true n d) a b B h k = absurd (true≢false k.0)
div_whole f (fin false m e) (fin false n d) a b B h k =
    let y : 0 < n * up d = above (n * up d) b (down d) B (down_pos d) k.1 in
    cond_no (eqb n 0) _ _ (some n (first_pos n (up d) y))
    ∙ round_same f false (m * up e * down d) (n * up d * down e) a b (mul-pos y (down_pos e)) B
    (cross (m * up e) (n * up d) a b (down e) (down d) h.1 k.1)

-- ---- 10^k is held exactly, up to 22: a test at each
abbrev holds : Float → ℕ → Bool
holds nan n = false
holds (inf s) n = false
holds (fin true m e) n = false
holds (fin false m e) n = eqb (m * up e * 1) (n * down e)

held : (x : Float) (n : ℕ) → T (holds x n) → HasValue x false n 1
held nan n t = absurd t
held (inf s) n t = absurd t
held (fin true m e) n t = absurd t
held (fin false m e) n t = (refl, eqb→eq (m * up e * 1) (n * down e) t)

abbrev every : (ℕ → Bool) → ℕ → ℕ → Bool
every f i zero = true
every f i (suc n) = f i && every f (suc i) n

from : (f : ℕ → Bool) (n i k : ℕ) → T (every f i n) → k < n → T (f (i + k))
from f zero i k t h = absurd (not-suc-le-zero h)
from f (suc n) i zero t h = rw add-zero (and_l (f i) (every f (suc i) n) t)
from f (suc n) i (suc k) t h = subst (λ (j : ℕ). T (f j)) (suc-add i k ∙ sym (add-suc i k)) (from f n (suc i) k (and_r (f i) (every f (suc i) n) t) (le_of_suc-le-suc h))

tenth : ℕ → Bool
tenth k = holds (ten_of k) (10 ^ k)

pub ten_exact : (k : ℕ) → k ≤ 22 → HasValue (ten_of k) false (10 ^ k) 1
unfolding tenth of_int
ten_exact k h = held (ten_of k) (10 ^ k) (subst (λ (j : ℕ). T (tenth j)) (zero-add k) (from tenth 23 0 k tt (omega arith)))

-- ---- the value
pub once : (m k : ℕ) → m ≤ 2 ^ 53 → k ≤ 22 → div binary64 (whole m) (ten_of k) ≡ round binary64 false m (10 ^ k)
unfolding of_int
once m k h l = div_whole binary64 (whole m) (ten_of k) m (10 ^ k) (one-le-pow k 10 (lit< tt)) (round_whole binary64 false m h) (ten_exact k l)
