use Rattle.parser.proofs.Exits.{given_up}
use Rattle.parser.specs.Programs.{run}
use Rattle.pieces.proofs.collection.Goals as goal

pub returns-in_err-s : goal.returns-in_err-s
unfolding run
returns-in_err-s c = λ low. rw (given_up _ _ c.from_residual-in_err-s.ensures.1) (rw c.in_ok-q.was (rw (← c.require.ensures c.args.nodes.now, c.in_err-s.was)))

pub returns : goal.returns
unfolding run
returns c = λ low. rw c.in_ok-q.was (rw (← c.require.ensures c.args.nodes.now, c.in_ok-s.was) (rw (← c.row.ensures, ← c.make.ensures c.require.new.errors)))
