use Rattle.parser.specs.Tokens.{matches_at}
use Rattle.parser.proofs.Tokens.matches.Goals as goal

pub returns-in_err-i : goal.returns-in_err-i
unfolding matches_at
returns-in_err-i c = rw c.from_residual.ensures (rw (← c.check.ensures, c.in_err-i.was, matches_at))

pub returns : goal.returns
unfolding matches_at
returns c = rw (← c.check.ensures, c.in_ok-i.was, c.next.ensures, matches_at)
