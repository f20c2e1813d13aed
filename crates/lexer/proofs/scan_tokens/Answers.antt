-- The item at a place lies within the source, and what is left after it is what was left.
use Rattle.std.proofs.Common.{◌≡◌, sym, ◌∙◌, Err, ap, arith, rules}
use Rattle.items.proofs.Bounds.{bounded_at}
use Rattle.lexer.specs.Steps.{Did}
use Rattle.lexer.proofs.Turn.{goes_on, stops}
use Rattle.lexer.proofs.scan_tokens.Goals as goal

pub scan_token-requires : goal.scan_token-requires
scan_token-requires c =
    let z = bounded_at c.args.rule c.args.source.now c.loop-l.l.current c.item_at.result c.loop-l-test.true c.item_at.ensures in
    ((omega arith, omega arith), omega arith)

pub loop-l-smaller : goal.loop-l-smaller
loop-l-smaller c =
    let l = c.loop-l in
    let g = goes_on c.args.rule c.args.source.now l.tokens l.errors _ _ l.l c.item_at.result _ c.loop-l-test.true c.item_at.ensures c.scan_token.ensures c.in_ok-l.l c.in_ok-l.was l.invariant.line_within in
    omega arith

pub loop-l-preserved : goal.loop-l-preserved
loop-l-preserved c =
    let l = c.loop-l in
    let g = goes_on c.args.rule c.args.source.now l.tokens l.errors _ _ l.l c.item_at.result _ c.loop-l-test.true c.item_at.ensures c.scan_token.ensures c.in_ok-l.l c.in_ok-l.was l.invariant.line_within in
    record { within = g.1; line_within = g.2; same = l.invariant.same ∙ g.3 }

pub returns-in_err-l : goal.returns-in_err-l
returns-in_err-l c =
    let l = c.loop-l in
    let f : c.from_residual.result ≡ Err c.in_err-l.field-0.0 = search rules in
    let e = l.invariant.same ∙ stops c.args.rule c.args.source.now l.tokens l.errors _ _ l.l c.item_at.result _ c.loop-l-test.true c.item_at.ensures c.scan_token.ensures c.in_err-l.field-0.0 c.in_err-l.was in
    record {
      next_is = f ∙ sym (ap (λ (d : Did). d.next) e);
      tokens_are = sym (ap (λ (d : Did). d.tokens) e);
      errors_are = sym (ap (λ (d : Did). d.errors) e);
    }
