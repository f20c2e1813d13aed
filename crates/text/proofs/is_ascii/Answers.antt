use Rattle.text.proofs.Rest.{all_plain}
use Rattle.text.proofs.is_ascii.Goals as goal

pub returns-then-s-lt-MANY : goal.returns-then-s-lt-MANY
returns-then-s-lt-MANY c = λ e. all_plain c.args.s.now (rw e at c.is_ascii.ensures.cases)
