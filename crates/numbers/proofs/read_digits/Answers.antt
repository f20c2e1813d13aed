use Rattle.std.proofs.Common.{◌≡◌, ◌≤◌, ◌-◌, true, get_or, drop, length, sym, ◌∙◌, arith}
use lib.ListN.{take, length-drop}
use lib.Seq.{take_all}
use Rattle.spans.specs.Span.{is_digit}
use Rattle.spans.proofs.Run.{run_more}
use Rattle.numbers.proofs.Whole.{whole_more}
use Rattle.numbers.proofs.read_digits.Goals as goal

pub loop-rest-preserved : goal.loop-rest-preserved
loop-rest-preserved c =
    let l = c.loop-rest in
    let r = l.rest.now in
    let one : 1 ≤ length r = c.in-len1-up.len_at_least in
    let d : is_digit (get_or r 0 0) ≡ true = sym c.if-not-is_digit.ensures in
    let t : take (length r - 1) (drop 1 r) ≡ drop 1 r = take_all (length r - 1) (drop 1 r) (omega (arith, length-drop 1 r)) in
    record {
      small = c.grow-n.ensures.small;
      shorter = rw t (omega (arith, length-drop 1 r, l.invariant.shorter));
      same_end = rw t (omega (arith, length-drop 1 r, run_more is_digit r 0 one d, l.invariant.same_end));
      same_whole = rw t (l.invariant.same_whole ∙ whole_more r 0 l.n _ one d c.grow-n.ensures.value);
    }
