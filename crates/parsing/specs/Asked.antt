-- The kinds of tokens that a reader asks for: those of the token type but EOF. A lent table may have others, and they match nothing.
use Rattle.std.specs.Prelude.{ℕ, ◌<◌, ◌≡◌, Bool, ◌&&◌, List, leb}
use Rattle.token.specs.Kind.{eof_kind, newline_kind, catch_kind}
use Rattle.parser.specs.Tokens.{kind_at}

-- 1 to 49
abbrev pub is_asked : ℕ → Bool
is_asked kind = leb newline_kind kind && leb kind catch_kind

-- token e of the table is of a kind over 49, and no EOF comes before it
pub record Foreign (t : List ℕ) (e : ℕ) : Type 0 where
  pub kind : catch_kind < kind_at t e
  pub before : (i : ℕ) → i < e → kind_at t i ≡ eof_kind → ⊥
