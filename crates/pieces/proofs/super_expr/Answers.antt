use Rattle.parser.proofs.Exits.{given_up}
use Rattle.parser.specs.Programs.{run}
use Rattle.parser.specs.Grammar.{super_expr}
use Rattle.pieces.proofs.super_expr.Goals as goal

pub returns-in-Some : goal.returns-in-Some
unfolding run super_expr
returns-in-Some c = λ low. rw (← c.check.ensures, c.in-Some.is) (rw (← c.at_token.ensures, ← c.row.ensures, ← c.make.ensures c.args.errors.now))

pub returns-in_err-q : goal.returns-in_err-q
unfolding run super_expr
returns-in_err-q c = λ low. rw (given_up _ _ c.from_residual.ensures.1) (rw (← c.check.ensures, c.in_default.is) (rw (← c.looked.ensures, ← c.consume.ensures c.args.nodes.now, c.in_err-q.was)))

pub returns-in_err-q-2 : goal.returns-in_err-q-2
unfolding run super_expr
returns-in_err-q-2 c = λ low. rw (given_up _ _ c.from_residual-in_err-q-2.ensures.1) (rw (← c.check.ensures, c.in_default.is) (rw (← c.looked.ensures, ← c.consume.ensures c.args.nodes.now, c.in_ok-q.was) (rw (← c.require.ensures c.args.nodes.now, c.in_err-q-2.was))))

pub returns : goal.returns
unfolding run super_expr
returns c = λ low. rw (← c.check.ensures, c.in_default.is) (rw (← c.looked.ensures, ← c.consume.ensures c.args.nodes.now, c.in_ok-q.was) (rw (← c.require.ensures c.args.nodes.now, c.in_ok-q-2.was) (rw (← c.row-2.ensures, ← c.make-2.ensures c.require.new.errors))))
