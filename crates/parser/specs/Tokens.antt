-- Looking at tokens: kinds, places, and `check`, which passes newlines.
use Rattle.std.specs.Prelude.{ℕ, zero, suc, ◌+◌, ◌-◌, Bool, true, false, List, Option, Some, None, eqb}
use Rattle.token.specs.Kind.{eof_kind, newline_kind}
use Rattle.records.specs.Table.{room, field, token_width, index_width}
use Rattle.parser.specs.declared.Coming.{Coming}
use Rattle.parser.specs.declared.Tokens.{Tokens}

-- how many tokens the table has at the most
abbrev pub count : List ℕ → ℕ
count T = room token_width T

-- the kind of token i; past the end it is EOF's
unfoldable pub kind_at : List ℕ → ℕ → ℕ
kind_at T i = field token_width 0 T i

-- where token i starts in the source
unfoldable pub start_at : List ℕ → ℕ → ℕ
start_at T i = field token_width 1 T i

-- the line of token i
unfoldable pub line_at : List ℕ → ℕ → ℕ
line_at T i = field token_width 3 T i

-- the token after token i; there is none after EOF
unfoldable pub after : List ℕ → ℕ → ℕ
after T i = elim (eqb (kind_at T i) eof_kind) [ true ↦ i | false ↦ i + 1 ]

-- ---- passing newlines
-- a token table, and how far it is from a Newline of it to the first token from there on that is none
pub record View : Type 0 where
  pub tokens : List ℕ
  pub hop : ℕ → ℕ

-- how many of the next n tokens are Newlines, up to the first that is none
unfoldable pub lines_from : ℕ → List ℕ → ℕ → ℕ
lines_from zero t i = 0
lines_from (suc n) t i = elim (eqb (kind_at t i) newline_kind) [ true ↦ suc (lines_from n t (i + 1)) | false ↦ 0 ]

-- the table as `check` of the Rust passes its newlines, one after the other: what a reading means
abbrev pub walked : List ℕ → View
walked t = record { tokens = t; hop = λ i. lines_from (count t - i) t i }

-- the table with an index, a word for each token, as the code passes them: the word of token i is the reference of the first token from there on that is no Newline
abbrev pub indexed : List ℕ → List ℕ → View
indexed t x = record { tokens = t; hop = λ i. field index_width 0 x i - 1 - i }

-- the tokens that a reader of the code is lent
abbrev pub view : Tokens → View
view t = indexed t.table.now t.index.now

-- past the newlines, from token i on
unfoldable pub skip_lines : View → ℕ → ℕ
skip_lines T i = elim (eqb (kind_at T.tokens i) newline_kind) [ true ↦ i + T.hop i | false ↦ i ]

-- the next token that is no Newline: its kind, and the token after it
abbrev pub peek_at : View → ℕ → Coming
peek_at T i = record { kind = kind_at T.tokens (skip_lines T i); past = after T.tokens (skip_lines T i) }

-- found at i where the test holds, else nothing
unfoldable pub seen_if : Bool → ℕ → Option ℕ
seen_if true i = Some i
seen_if false i = None

-- `check`: for any kind but Newline it first passes newlines, and goes back if it fails
unfoldable pub check_at : View → ℕ → ℕ → Option ℕ
check_at T i kind =
    elim (eqb kind newline_kind) [
      | true ↦ seen_if (eqb (kind_at T.tokens i) newline_kind) i
      | false ↦ seen_if (eqb (kind_at T.tokens (skip_lines T i)) kind) (skip_lines T i)
    ]

-- `matches`: the token that `check` finds is passed
unfoldable pub matches_at : View → ℕ → ℕ → Option ℕ
matches_at T i kind = elim (check_at T i kind) [ Some j ↦ Some (after T.tokens j) | None ↦ None ]
