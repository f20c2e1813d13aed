-- A literal's value and its record words (docs/RULES.md, 'Numbers' and 'Records').
use Rattle.std.specs.Prelude.{ℕ, ◌^◌, ◌%◌, ◌/◌, Bool, true, false, ◌&&◌, leb, pos, Float}
use Rattle.std.specs.Float.{binary64}
use Rattle.std.specs.Float.Ieee.{of_int, div, to_bits}
use Rattle.literal.specs.declared.Span.{Span}
use Rattle.literal.specs.declared.Literal.{Literal}
use Rattle.literal.specs.declared.Words.{Words}
use Rattle.literal.specs.declared.Literal.TheVariants.{Text, Number, Long, Truth, Nil}

-- the float that holds the whole number n
abbrev pub whole : ℕ → Float
whole n = of_int binary64 (pos n)

-- the first where the test holds, else the second
abbrev pub pick : Bool → Literal → Literal → Literal
pick true a b = a
pick false a b = b

-- with m all the digits read as one whole number and k the digits after the point, the value is given if m ≤ 2^53 and k ≤ 22: one division; else it is long
abbrev pub value_of : ℕ → ℕ → Span → Literal
value_of m k span = pick (leb m (2 ^ 53) && leb k 22) (Number (div binary64 (whole m) (whole (10 ^ k)))) (Long span)

-- value sort and words: 0 none, 1 text (decoded length, 0), 2 number (low and high half of the f64 bits), 3 long number (0, 0)
abbrev pub words_of : Literal → Words
words_of (Text span n) = record { sort = 1; low = n; high = 0 }
words_of (Number x) = record { sort = 2; low = to_bits binary64 x % 2 ^ 32; high = to_bits binary64 x / 2 ^ 32 }
words_of (Long span) = record { sort = 3; low = 0; high = 0 }
words_of (Truth b) = record { sort = 0; low = 0; high = 0 }
words_of Nil = record { sort = 0; low = 0; high = 0 }
