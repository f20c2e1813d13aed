-- The digits that `io::decimal` writes are those of the definition. Assumes nothing.
use mathlib.Core.Path.{◌≡◌, sym, ap, ◌∙◌}
use mathlib.Core.Bool.{Bool, cond}
use mathlib.Core.List.{List, [], ◌∷◌, ◌++◌}
use Prim.Native.Nat.{ℕ, zero, suc, ◌+◌, ◌/◌, ◌%◌, ◌^◌, ◌≤◌, ◌<◌}
use native.Mathlib.Numerals.{unary_clauses}
use native.Mathlib.Omega.{arith}
use borrow.Author.Tests.{lt-ltb, le-ltb}
use Rattle.io.specs.Digits.{hex_digit_ascii, last_digits, IsDigitCount}
use Rattle.form.specs.Text.{digits_within, decimal}

glyph_is : (d : ℕ) → d < 10 → hex_digit_ascii d ≡ 48 + d
glyph_is d h = ap (λ (b : Bool). cond b (48 + d) (87 + d)) (lt-ltb d 10 h)

one_digit : (f n : ℕ) → n < 10 → last_digits 10 1 n ≡ digits_within (suc f) n
one_digit f n h =
    let e : n % 10 ≡ n = omega arith in
    ap (λ (d : ℕ). d ∷ []) (ap hex_digit_ascii e ∙ glyph_is n h) ∙ ap (λ (b : Bool). cond b ((48 + n) ∷ []) (digits_within f (n / 10) ++ ((48 + n % 10) ∷ []))) (sym (lt-ltb n 10 h))

-- by the number of digits: the last one, and the others of the tenth part
within : (f k n : ℕ) → n < 10 ^ suc f → n < 10 ^ suc k → (1 < suc k → 10 ^ k ≤ n) → last_digits 10 (suc k) n ≡ digits_within (suc f) n
within f zero n a b c = one_digit f n (omega arith)
within zero (suc k) n a b c = let d : 10 ^ suc k ≤ n = c (omega arith) in absurd (omega arith)
within (suc f) (suc k) n a b c =
    let d : 10 ^ suc k ≤ n = c (omega arith) in
    let r : last_digits 10 (suc k) (n / 10) ≡ digits_within (suc f) (n / 10) = within f k (n / 10) (omega arith) (omega arith) (λ z. omega arith) in
    ap (λ (x : List ℕ). x ++ (hex_digit_ascii (n % 10) ∷ [])) r ∙ ap (λ (g : ℕ). digits_within (suc f) (n / 10) ++ (g ∷ [])) (glyph_is (n % 10) (omega arith))
    ∙ ap (λ (z : Bool). cond z ((48 + n) ∷ []) (digits_within (suc f) (n / 10) ++ ((48 + n % 10) ∷ []))) (sym (le-ltb n 10 (omega arith)))

-- a word of 32 bits
pub decimal_is : (k n : ℕ) → n ≤ 4294967295 → IsDigitCount 10 1 n k → last_digits 10 k n ≡ decimal n
unfolding decimal
decimal_is zero n l h = absurd (omega arith)
decimal_is (suc k) n l h = within 9 k n (omega arith) h.1 (simp unary_clauses at h.2)
