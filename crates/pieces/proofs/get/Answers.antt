use Rattle.parser.proofs.Exits.{given_up}
use Rattle.parser.specs.Programs.{run}
use Rattle.pieces.proofs.get.Goals as goal

pub returns-in_err-q : goal.returns-in_err-q
unfolding run
returns-in_err-q c = λ low. rw (given_up _ _ c.from_residual.ensures.1) (rw (← c.require.ensures c.args.nodes.now, c.in_err-q.was))

pub returns-in_err-q-2 : goal.returns-in_err-q-2
unfolding run
returns-in_err-q-2 c = λ low. rw (given_up _ _ c.from_residual-in_err-q-2.ensures.1) (rw (← c.require.ensures c.args.nodes.now, c.in_ok-q.was) (rw (← c.row.ensures, ← c.make.ensures c.require.new.errors, c.in_err-q-2.was)))

pub returns : goal.returns
unfolding run
returns c = λ low. rw (← c.require.ensures c.args.nodes.now, c.in_ok-q.was) (rw (← c.row.ensures, ← c.make.ensures c.require.new.errors, c.in_ok-q-2.was) (rw c.gives_form.ensures))
