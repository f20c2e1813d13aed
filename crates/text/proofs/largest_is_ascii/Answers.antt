use Rattle.std.proofs.Common.{refl}
use Rattle.text.specs.Text.{is_text}
use Rattle.text.proofs.largest_is_ascii.Goals as goal

pub loop-b-init : goal.loop-b-init
unfolding is_text
loop-b-init c = λ h. refl
