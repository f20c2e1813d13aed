-- Each turn finds the word of the token before, and writes it.
use Rattle.std.proofs.Common.{◌≡◌, ◌+◌, ◌-◌, ◌∙◌, arith}
use Rattle.lines.proofs.Words.{filled_none, filled_all, hand_none, turn_hand, turn_index, written}
use Rattle.lines.proofs.index_lines.Goals as goal

pub loop-i-init : goal.loop-i-init
loop-i-init c =
    let a = c.args in
    record { hand = hand_none a.tokens.now a.n; words = filled_none a.tokens.now a.index.now a.n }

pub loop-i-preserved : goal.loop-i-preserved
loop-i-preserved c =
    let a = c.args in
    let l = c.loop-i in
    let e : l.i ≡ l.i - 1 + 1 = omega arith in
    record {
      hand = turn_hand a.tokens.now a.index.now a.n (l.i - 1) l.i e l.auto.i l.word _ l.invariant.hand c.word_at-word.ensures;
      words = turn_index a.tokens.now a.index.now a.n (l.i - 1) l.i e l.auto.i l.word _ l.invariant.hand c.word_at-word.ensures l.index l.invariant.words (omega arith);
    }

pub returns : goal.returns
returns c =
    let a = c.args in
    let l = c.loop-i in
    written a.tokens.now a.index.now a.n l.index (omega arith) (l.invariant.words ∙ filled_all a.tokens.now a.index.now a.n l.i (omega arith))
