use Rattle.parser.proofs.Exits.{given_up}
use Rattle.parser.specs.Programs.{run}
use Rattle.std.proofs.Common.{◌≡◌, Bool, true, false, not, nat_eq, refl, sym, ◌∙◌}
use Rattle.pieces.proofs.jump.Goals as goal

-- inside a loop the count is not 0, outside it is
inside : (b r : Bool) → r ≡ not b → r ≡ true → b ≡ false
inside false r e h = refl
inside true r e h = sym h ∙ e

outside : (b r : Bool) → r ≡ not b → r ≡ false → b ≡ true
outside true r e h = refl
outside false r e h = sym h ∙ e

pub returns-then-inside_loop : goal.returns-then-inside_loop
unfolding run
returns-then-inside_loop c = λ low I. let h : nat_eq c.args.p.loops 0 ≡ false = inside _ _ c.inside_loop.ensures c.if-inside_loop.true in rw (h, ← c.row.ensures, ← c.make.ensures c.args.errors.now)

pub returns-in_err-q : goal.returns-in_err-q
unfolding run
returns-in_err-q c = λ low I. let h : nat_eq c.args.p.loops 0 ≡ true = outside _ _ c.inside_loop.ensures c.if-inside_loop.false in rw (given_up _ _ c.from_residual.ensures.1) (rw (h, ← c.before-2.ensures, ← c.set_error.ensures c.args.nodes.now, c.in_err-q.was))

pub returns : goal.returns
unfolding run
returns c = λ low I. let h : nat_eq c.args.p.loops 0 ≡ true = outside _ _ c.inside_loop.ensures c.if-inside_loop.false in rw (h, ← c.before-2.ensures, ← c.set_error.ensures c.args.nodes.now, c.in_ok-q.was) (rw (← c.row-2.ensures, ← c.make-2.ensures c.set_error.new.errors))
