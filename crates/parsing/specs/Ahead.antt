-- Token tables that a reading can't tell apart, with how their newlines are passed, and the outcomes of a parsing.
use Rattle.std.specs.Prelude.{ℕ, ◌≤◌, ◌≡◌, Bool, ◌||◌, eqb}
use Rattle.token.specs.Kind.{eof_kind, newline_kind}
use Rattle.records.specs.Outcomes.{ended, fatal_stop, no_error_room, no_node_room, too_deep}
use Rattle.parser.specs.Tokens.{View, count, kind_at, start_at, line_at, skip_lines}

-- token e is an EOF, and up to it the two tables, with as many tokens at the most, have the same kinds, starts and lines; from each Newline up to it both go as far, and not past it
pub record Agree (e : ℕ) (T T' : View) : Type 0 where
  pub counts : count T.tokens ≡ count T'.tokens
  pub end : kind_at T.tokens e ≡ eof_kind
  pub kinds : (i : ℕ) → i ≤ e → kind_at T.tokens i ≡ kind_at T'.tokens i
  pub starts : (i : ℕ) → i ≤ e → start_at T.tokens i ≡ start_at T'.tokens i
  pub lines : (i : ℕ) → i ≤ e → line_at T.tokens i ≡ line_at T'.tokens i
  pub hops : (i : ℕ) → i ≤ e → kind_at T.tokens i ≡ newline_kind → T.hop i ≡ T'.hop i
  pub within : (i : ℕ) → i ≤ e → skip_lines T i ≤ e

-- the outcomes of a parsing: EOF is reached, a fatal stop, an error or a node finds no room, a level over 128 would open
abbrev pub is_outcome : ℕ → Bool
is_outcome o = eqb o ended || eqb o fatal_stop || eqb o no_error_room || eqb o no_node_room || eqb o too_deep
