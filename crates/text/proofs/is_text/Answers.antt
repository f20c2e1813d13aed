use Rattle.std.proofs.Common.{sym, ap}
use Rattle.text.specs.Text.{is_text, text_from}
use Rattle.text.proofs.is_text.Goals as goal

pub loop-b-init : goal.loop-b-init
unfolding is_text
loop-b-init c = sym (ap (text_from c.args.s.now) c.none-due.ensures)
