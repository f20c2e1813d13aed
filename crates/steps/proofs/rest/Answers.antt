use Rattle.std.proofs.Common.{sym, ap, ◌∙◌}
use Rattle.steps.specs.Steps.{left, leaving}
use Rattle.steps.proofs.Cases.{rest_ends, rest_stays}
use Rattle.steps.proofs.rest.Goals as goal

pub returns-then-kind_at-eq-EOF : goal.returns-then-kind_at-eq-EOF
returns-then-kind_at-eq-EOF c = λ E X.
    let a = c.args in
    c.finish.ensures a.tokens.now E X ∙ sym (rest_ends a.tokens.now a.p E a.nodes.now X _ c.kind_at.ensures c.if-kind_at-eq-EOF.true)

pub returns : goal.returns
returns c = λ E X.
    let a = c.args in
    (λ i. left ((c.from.ensures ∙ ap leaving c.going_on.ensures) i) a.tokens.now E a.nodes.now X) ∙ sym (rest_stays a.tokens.now a.p E a.nodes.now X _ c.kind_at.ensures c.if-kind_at-eq-EOF.false)
