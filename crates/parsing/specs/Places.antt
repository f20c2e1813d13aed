-- Where the errors of a parsing stand: each is about one of the tokens.
use Rattle.std.specs.Prelude.{ℕ, ◌≤◌, ◌≡◌, Bool, ◌&&◌, List, leb}
use Rattle.records.specs.Messages.{expected_new_line, super_only_for_property}
use Rattle.records.specs.Table.{field, error_width}
use Rattle.parser.specs.Tokens.{start_at, line_at}

-- a message of the parser's
abbrev pub is_parsers : ℕ → Bool
is_parsers m = leb expected_new_line m && leb m super_only_for_property

-- error k of the table E is the parser's and about one of the tokens up to token e: it has that token's line, and that token's start as its pos
pub record About (T : List ℕ) (e : ℕ) (E : List ℕ) (k : ℕ) : Type 0 where
  pub message_from : expected_new_line ≤ field error_width 0 E k
  pub message_to : field error_width 0 E k ≤ super_only_for_property
  pub token : ℕ
  pub up_to : token ≤ e
  pub line_is : field error_width 1 E k ≡ line_at T token
  pub pos_is : field error_width 2 E k ≡ start_at T token
