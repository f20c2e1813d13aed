use Rattle.parser.specs.Whole.{top_level}
use Rattle.parser.proofs.Exits.{given_up}
use Rattle.statements.proofs.top_level.Goals as goal

pub returns-in_err-q : goal.returns-in_err-q
unfolding top_level
returns-in_err-q c = rw (given_up _ _ c.from_residual.ensures.1) (rw (← c.declaration.ensures, c.in_err-q.was))

pub returns-in_err-s : goal.returns-in_err-s
unfolding top_level
returns-in_err-s c = rw (given_up _ _ c.from_residual-in_err-s.ensures.1) (rw (← c.declaration.ensures, c.in_ok-q.was, ← c.consume.ensures c.declaration.new.nodes) (rw c.in_err-s.was))

pub returns : goal.returns
unfolding top_level
returns c = rw (← c.declaration.ensures, c.in_ok-q.was, ← c.consume.ensures c.declaration.new.nodes) (rw c.in_ok-s.was)
