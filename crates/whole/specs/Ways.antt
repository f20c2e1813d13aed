-- What the two ways of a reading have to do with each other.
use Rattle.std.specs.Prelude.{ℕ, ◌<◌, ◌≡◌, List}
use Rattle.records.specs.Outcomes.{ended, not_parsed}
use Rattle.records.specs.Table.{zeroed, node_width}
use Rattle.lexer.specs.Lex.{Result}
use Rattle.entry.specs.Ways.{stop}
use Rattle.entry.specs.Entry.{over}
use Rattle.entry.specs.Reading.{Reading}

-- a reading stops before parsing: it is the new way, and what was lexed, d, reached its end and recorded an error
pub record Stops (way : ℕ) (d : Result) : Type 0 where
  pub new : way ≡ stop
  pub lexed : d.outcome ≡ ended
  pub wrong : 0 < d.error_count

-- what it comes to then, in tables t, e and n with the index x: tokens and errors are kept as lexing left them, no node is, no look is made, every word of the node table is 0, and the index is as
-- it was
abbrev pub unparsed : Result → List ℕ → List ℕ → List ℕ → List ℕ → Reading
unparsed d t e n x = record { outcome = not_parsed; token_count = d.token_count; error_count = d.error_count; node_count = 0; first = 0; looks = 0; tokens = over d.tokens t; errors = over d.errors e; nodes = zeroed node_width n 0; index = x }
