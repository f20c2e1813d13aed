-- A point follows, and the digits after it.
use Rattle.std.proofs.Common.{ℕ, ◌-◌, cond, sym, ap, ◌∙◌}
use Rattle.spans.specs.Span.{is_digit}
use Rattle.numbers.proofs.Join.{dotted}
use Rattle.numbers.proofs.number.Goals as goal

pub returns-in-Some-eq46 : goal.returns-in-Some-eq46
returns-in-Some-eq46 c =
    let first = c.in-Some.ensures.lookup.3 in
    let point = c.in-Some-eq46.ensures.lookup.3 in
    let front = c.read_digits-front in
    let all = c.read_digits-all in
    dotted c.args.s.now c.args.start front.result.end c.digit.result front.result.whole first.0
    (c.digit.ensures.value ∙ ap (λ (b : ℕ). cond (is_digit b) (b - 48) 0) (first.1 0))
    front.ensures.end front.ensures.whole point.0 (sym (point.1 0) ∙ c.in-Some-eq46.field-0-test) all.result.end all.result.whole all.ensures.end all.ensures.whole
