-- Numbers (docs/RULES.md, 'Numbers'), lexing's rule 4: a number is digits, then if a point follows, the point and further digits, perhaps none.
use Rattle.std.specs.Prelude.{ℕ, suc, ◌+◌, ◌-◌, ◌*◌, ◌^◌, false, ◌&&◌, cond, List, [], ◌∷◌, leb, ltb, eqb, length, take, drop}
use Rattle.spans.specs.Span.{is_digit, run}
use Rattle.numbers.specs.declared.Numeral.{Numeral}

-- the digits at the front
abbrev pub front : List ℕ → List ℕ
front s = take (run is_digit s) s

-- if a point follows, the point and further digits, perhaps none: how many bytes
abbrev pub point_size : List ℕ → ℕ
point_size [] = 0
point_size (x ∷ u) = cond (eqb x 46) (suc (run is_digit u)) 0

-- the same for what stands after a number's first digit, past the digits that follow it
abbrev pub pointed : List ℕ → ℕ
pointed s = point_size (drop (run is_digit s) s)

-- how many bytes of the number follow its first digit
abbrev pub number_size : List ℕ → ℕ
number_size s = run is_digit s + pointed s

-- m, all the digits read as one whole number; the point is passed over
abbrev pub whole_of : List ℕ → ℕ → ℕ
whole_of [] m = m
whole_of (x ∷ xs) m = whole_of xs (cond (is_digit x) (10 * m + (x - 48)) m)

-- a number over 2^53 is long whatever it is: 2^53 + 1 stands for all of them
abbrev pub capped : ℕ → ℕ
capped n = cond (leb n (2 ^ 53)) n (2 ^ 53 + 1)

-- the number with the first byte b, and s after it: its size; whether it has a point and runs to the last byte; m; and k, the digits after the point
abbrev pub number_of : ℕ → List ℕ → Numeral
number_of b s = record {
  size = suc (number_size s);
  cut = ltb 0 (pointed s) && eqb (number_size s) (length s);
  whole = capped (whole_of (b ∷ take (number_size s) s) 0);
  places = pointed s - 1;
}

-- the number at the front of s
abbrev pub number_at : List ℕ → Numeral
number_at [] = record { size = 0; cut = false; whole = 0; places = 0 }
number_at (b ∷ s) = number_of b s
