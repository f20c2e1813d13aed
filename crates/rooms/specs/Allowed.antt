-- What the tokens of a parsing allow of nodes and of errors: it makes no more, but for the error that ends it.
use Rattle.std.specs.Prelude.{ℕ, zero, suc, ◌+◌, ◌*◌, cond, List, eqb}
use Rattle.token.specs.Kind.{class_kind}
use Rattle.parser.specs.Tokens.{kind_at}

-- what is counted: both counts keep to one law, with other numbers
pub data Counted : Type 0 where
  nodes errors : Counted

-- the first of nodes, the second of errors
abbrev pub pick : Counted → ℕ → ℕ → ℕ
pick nodes a b = a
pick errors a b = b

-- what one more node adds to the count
abbrev pub per_node : Counted → ℕ
per_node x = pick x 1 0

-- what one more error adds to it
abbrev pub per_error : Counted → ℕ
per_error x = pick x 0 1

-- what a token of that kind allows: two, and the keyword `class` two errors more, for its name, both its braces and the new line after them can be missing; EOF, which is never passed, nothing
abbrev pub allows : Counted → ℕ → ℕ
allows x zero = 0
allows x (suc k) = cond (eqb (suc k) class_kind) (2 + 2 * per_error x) 2

-- what the first i tokens allow
unfoldable pub allowed : Counted → List ℕ → ℕ → ℕ
allowed x T zero = 0
allowed x T (suc i) = allowed x T i + allows x (kind_at T i)
