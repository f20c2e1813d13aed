use Rattle.parser.proofs.Look.{peek_here}
use Rattle.parser.proofs.Tokens.peek.Goals as goal

pub returns-then-here-ne-NEWLINE : goal.returns-then-here-ne-NEWLINE
returns-then-here-ne-NEWLINE c = peek_here _ _ _ _ c.kind_at-here.ensures c.if-here-ne-NEWLINE.true c.next-past.ensures
