use Rattle.form.proofs.Laws.{adds_then, adds_same, text_more}
use Rattle.std.proofs.lemmas.List.{take_all}
use Rattle.form.proofs.Page.text.Goals as goal

pub loop-byte-preserved : goal.loop-byte-preserved
loop-byte-preserved c = adds_same (text_more c.args.s.now c.loop-byte.byte-index c.loop-byte-test.true) (adds_then c.loop-byte.invariant c.push.ensures)

pub returns : goal.returns
returns c = adds_same (take_all c.loop-byte.byte-index c.args.s.now c.loop-byte-test.false) c.loop-byte.invariant
