use Rattle.std.proofs.Common.{refl, sym, ◌∙◌}
use Rattle.steps.proofs.Cases.{one_ends, one_stops, one_linked}
use Rattle.steps.proofs.one.Goals as goal

pub returns-then-kind_at-eq-EOF : goal.returns-then-kind_at-eq-EOF
returns-then-kind_at-eq-EOF c =
    let a = c.args in
    c.finish.ensures a.tokens.now a.errors.now a.index.now ∙ sym (one_ends a.tokens.now a.p a.errors.now a.nodes.now a.index.now _ c.kind_at.ensures c.if-kind_at-eq-EOF.true)

pub returns-in-Err : goal.returns-in-Err
returns-in-Err c =
    let a = c.args in
    c.finish-in-Err.ensures a.tokens.now _ a.index.now ∙ one_stops a.tokens.now a.p a.errors.now a.nodes.now a.index.now _ c.kind_at.ensures c.if-kind_at-eq-EOF.false _ _ _ _ (rw (c.in-Err.is, c.new-t.ensures.seen, c.from.ensures) at c.top_level.ensures) _ refl _ c.stopped.ensures

pub returns-in-Ok : goal.returns-in-Ok
returns-in-Ok c =
    let a = c.args in
    c.rest.ensures _ a.index.now ∙ one_linked a.tokens.now a.p a.errors.now a.nodes.now a.index.now _ c.kind_at.ensures c.if-kind_at-eq-EOF.false _ _ _ _ (rw (c.in-Ok.is, c.new-t.ensures.seen, c.from.ensures) at c.top_level.ensures) _ refl _ c.behind.ensures _ c.link.ensures
