use Rattle.std.proofs.Common.{sym, ap, ◌∙◌}
use Rattle.steps.specs.Steps.{leaving}
use Rattle.steps.proofs.Cases.{parts, begun_refuses, begun_reads, begun_ends}
use Rattle.steps.proofs.start.Goals as goal

pub returns-then-not-is_known : goal.returns-then-not-is_known
returns-then-not-is_known c =
    let a = c.args in
    parts _ _ (begun_refuses a.source.now a.tokens.now a.errors.now a.nodes.now a.index.now a.p (sym c.is_known.ensures ∙ c.if-not-is_known.true) _ c.refuse.ensures)

pub returns-then-d : goal.returns-then-d
returns-then-d c =
    let a = c.args in
    parts _ _ (c.rest.ensures _ _ ∙ begun_reads a.source.now a.tokens.now a.errors.now a.nodes.now a.index.now a.p (sym c.is_known.ensures ∙ c.if-not-is_known.false) _ _ _ _ _ c.enter-d.ensures _ c.fresh-q.ensures c.if-d.true)

pub returns : goal.returns
returns c =
    let a = c.args in
    parts _ _ (begun_ends a.source.now a.tokens.now a.errors.now a.nodes.now a.index.now a.p (sym c.is_known.ensures ∙ c.if-not-is_known.false) _ _ _ _ _ c.enter-d.ensures _ c.fresh-q.ensures c.if-d.false _ (c.from.ensures ∙ ap leaving c.closed.ensures))
