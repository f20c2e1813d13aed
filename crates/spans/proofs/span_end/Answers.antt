use Rattle.std.proofs.Common.{◌≡◌, ℕ, ◌+◌, ap, sym, ◌∙◌, arith}
use Rattle.std.proofs.lemmas.Slice.{between_to_end}
use Rattle.spans.specs.Span.{run, in_class}
use Rattle.spans.proofs.Run.{run_prefix}
use Rattle.spans.proofs.span_end.Goals as goal

pub returns-in-Some : goal.returns-in-Some
returns-in-Some c =
    let rest = c.in-Some.rest.now in
    let e : c.span_length.result ≡ run (in_class c.args.k) rest = c.span_length.ensures.size ∙ sym (run_prefix (in_class c.args.k) rest) in
    ap (λ (n : ℕ). c.args.i + n) (e ∙ ap (run (in_class c.args.k)) (c.in-Some.ensures.lookup.0.2 ∙ between_to_end c.args.s.now c.args.i _ (omega arith)))
