use Rattle.std.proofs.Common.{sym, ◌∙◌}
use borrow.Author.Tests.{eqb-true, eqb-false}
use Rattle.steps.specs.Steps.{left}
use Rattle.steps.proofs.Cases.{parts, next_again, next_refuses, next_unruled, next_goes_on}
use Rattle.steps.proofs.step.Goals as goal

pub returns-then-not-is_open : goal.returns-then-not-is_open
returns-then-not-is_open c =
    let a = c.args in
    parts _ _ ((λ i. left (c.from.ensures i) a.tokens.now a.errors.now a.nodes.now a.index.now) ∙ next_again a.tokens.now a.errors.now a.nodes.now a.index.now a.p (eqb-false _ 0 (sym c.is_open.ensures ∙ c.if-not-is_open.true)))

pub returns-then-not-fits : goal.returns-then-not-fits
returns-then-not-fits c =
    let a = c.args in
    parts _ _ (next_refuses a.tokens.now a.errors.now a.nodes.now a.index.now a.p (eqb-true _ 0 (sym c.is_open.ensures ∙ c.if-not-is_open.false)) (sym c.fits.ensures ∙ c.if-not-fits.true) _ c.refuse.ensures)

pub returns-then-not-is_known : goal.returns-then-not-is_known
returns-then-not-is_known c =
    let a = c.args in
    parts _ _ (next_unruled a.tokens.now a.errors.now a.nodes.now a.index.now a.p (eqb-true _ 0 (sym c.is_open.ensures ∙ c.if-not-is_open.false)) (sym c.fits.ensures ∙ c.if-not-fits.false) (sym c.is_known.ensures ∙ c.if-not-is_known.true) _ c.refuse-then-not-is_known.ensures)

pub returns : goal.returns
returns c =
    let a = c.args in
    parts _ _ (c.one.ensures ∙ next_goes_on a.tokens.now a.errors.now a.nodes.now a.index.now a.p (eqb-true _ 0 (sym c.is_open.ensures ∙ c.if-not-is_open.false)) (sym c.fits.ensures ∙ c.if-not-fits.false) (sym c.is_known.ensures ∙ c.if-not-is_known.false))
