use Rattle.parser.proofs.Exits.{given_up}
use Rattle.parser.specs.Programs.{run}
use Rattle.pieces.proofs.superclass.Goals as goal

pub returns-in_default : goal.returns-in_default
unfolding run
returns-in_default c = λ low. rw (← c.matches.ensures, c.in_default.is) (rw (← c.looked.ensures, c.gives.ensures))

pub returns-in_err-q : goal.returns-in_err-q
unfolding run
returns-in_err-q c = λ low. rw (given_up _ _ c.from_residual.ensures.1) (rw (← c.matches.ensures, c.in-Some.is) (rw (← c.at_token.ensures, ← c.consume.ensures c.args.nodes.now, c.in_err-q.was)))

pub returns : goal.returns
unfolding run
returns c = λ low. rw (← c.matches.ensures, c.in-Some.is) (rw (← c.at_token.ensures, ← c.consume.ensures c.args.nodes.now, c.in_ok-q.was) (rw (← c.row.ensures, ← c.make.ensures c.consume.new.errors)))
