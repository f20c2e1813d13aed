use Rattle.parser.proofs.Exits.{given_up}
use Rattle.parser.specs.Programs.{run}
use Rattle.pieces.proofs.grouping.Goals as goal

pub returns-in_err-q : goal.returns-in_err-q
unfolding run
returns-in_err-q c = λ low. rw (given_up _ _ c.from_residual.ensures.1) (rw (← c.consume.ensures c.args.nodes.now, c.in_err-q.was))

pub returns : goal.returns
unfolding run
returns c = λ low. rw (← c.consume.ensures c.args.nodes.now, c.in_ok-q.was) (rw (← c.row.ensures, ← c.make.ensures c.consume.new.errors))
