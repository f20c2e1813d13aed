use Rattle.parser.proofs.Exits.{given_up}
use Rattle.parser.specs.Programs.{run}
use Rattle.parser.specs.Grammar.{closed}
use Rattle.pieces.proofs.close_access.Goals as goal

pub returns-in_err-q : goal.returns-in_err-q
unfolding run closed
returns-in_err-q c = λ low. rw (given_up _ _ c.from_residual.ensures.1) (rw (← c.consume.ensures c.args.nodes.now, c.in_err-q.was))

pub returns-in_err-q-2 : goal.returns-in_err-q-2
unfolding run closed
returns-in_err-q-2 c = λ low. rw (given_up _ _ c.from_residual-in_err-q-2.ensures.1) (rw (← c.consume.ensures c.args.nodes.now, c.in_ok-q.was) (rw (← c.row.ensures, ← c.make.ensures c.consume.new.errors, c.in_err-q-2.was)))

pub returns : goal.returns
unfolding run closed
returns c = λ low. rw (← c.consume.ensures c.args.nodes.now, c.in_ok-q.was) (rw (← c.row.ensures, ← c.make.ensures c.consume.new.errors, c.in_ok-q-2.was) (rw (← c.form_through.ensures, c.gives_form.ensures)))
