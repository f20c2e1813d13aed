-- A token that is not EOF is one of the tokens, and the next one has a number too.
use Rattle.std.proofs.Common.{◌<◌, sym, ◌∙◌, arith}
use Rattle.parser.specs.Tokens.{count}
use Rattle.parser.proofs.Look.{after_in, after_out, kind_some}
use Rattle.parser.proofs.Tokens.next.Goals as goal

pub returns-then-kind_at-eq-EOF : goal.returns-then-kind_at-eq-EOF
returns-then-kind_at-eq-EOF c = after_out _ _ (sym c.kind_at.ensures ∙ c.if-kind_at-eq-EOF.true)

pub overflow_add-result : goal.overflow_add-result
overflow_add-result c =
    let a = c.args in
    let h : a.i < count a.self.now.table.now = kind_some a.self.now.table.now a.i (λ e. c.if-kind_at-eq-EOF.false (c.kind_at.ensures ∙ e)) in
    omega arith

pub returns : goal.returns
returns c = after_in _ _ (λ e. c.if-kind_at-eq-EOF.false (c.kind_at.ensures ∙ e))
