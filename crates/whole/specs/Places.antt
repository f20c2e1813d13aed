-- Where the errors of a reading stand: each at a byte of the source, or at its end.
use Rattle.std.specs.Prelude.{ℕ, ◌+◌, ◌≤◌, ◌<◌, ◌≡◌}
use Rattle.token.specs.Kind.{eof_kind}
use Rattle.records.specs.Messages.{lone_bang, unclosed_string}
use Rattle.records.specs.Table.{field, error_width}
use Rattle.parser.specs.Tokens.{kind_at}
use Rattle.parsing.specs.Places.{About}
use Rattle.entry.specs.Reading.{Reading}

-- error k of a reading of n bytes is the lexer's: its pos is that of a byte
pub record OfLexing (n : ℕ) (r : Reading) (k : ℕ) : Type 0 where
  pub message_from : lone_bang ≤ field error_width 0 r.errors k
  pub message_to : field error_width 0 r.errors k ≤ unclosed_string
  pub inside : field error_width 2 r.errors k < n

-- error k of a reading of n bytes is the parser's: it has the line and the start of one of the reading's tokens, the last of which is EOF, so that its pos is that of a byte, or n
pub record OfParsing (n : ℕ) (r : Reading) (k : ℕ) : Type 0 where
  pub last : ℕ
  pub last_is : r.token_count ≡ last + 1
  pub eof : kind_at r.tokens last ≡ eof_kind
  pub about : About r.tokens last r.errors k
  pub inside : field error_width 2 r.errors k ≤ n

-- it is the lexer's or the parser's
pub data Place (n : ℕ) (r : Reading) (k : ℕ) : Type 0 where
  lexers : OfLexing n r k → Place n r k
  parsers : OfParsing n r k → Place n r k
