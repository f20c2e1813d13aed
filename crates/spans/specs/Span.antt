-- Rules 2, 3 and 4 of docs/RULES.md, 'Lexing': the bytes of names, numbers and comments, and how far a run of them reaches.
use Rattle.std.specs.Prelude.{ℕ, suc, Bool, true, false, not, ◌&&◌, ◌||◌, List, [], ◌∷◌, leb, eqb}
use Rattle.spans.specs.declared.Class.{Class}
use Rattle.spans.specs.declared.Class.TheVariants.{Name, Word, Digit, Comment}

-- letters and _
abbrev pub is_alpha : ℕ → Bool
is_alpha b = (leb 97 b && leb b 122) || ((leb 65 b && leb b 90) || eqb b 95)

-- 0 to 9
abbrev pub is_digit : ℕ → Bool
is_digit b = leb 48 b && leb b 57

-- a comment goes up to the newline
abbrev pub is_inner : ℕ → Bool
is_inner b = not (eqb b 10)

-- whether a byte belongs to the run
abbrev pub in_class : Class → ℕ → Bool
in_class Name b = is_alpha b
in_class Word b = is_alpha b || is_digit b
in_class Digit b = is_digit b
in_class Comment b = is_inner b

-- one more where the byte passes, else none
abbrev pub count : Bool → ℕ → ℕ
count true n = suc n
count false n = 0

-- how many bytes at the front pass
abbrev pub run : (ℕ → Bool) → List ℕ → ℕ
run p [] = 0
run p (x ∷ xs) = count (p x) (run p xs)
