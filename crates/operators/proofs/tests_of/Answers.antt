use Rattle.std.proofs.Common.{rules}
use Rattle.operators.proofs.Operators.{tests_all}
use Rattle.operators.proofs.tests_of.Goals as goal

pub returns-in_default : goal.returns-in_default
returns-in_default c = tests_all _ (search rules) (search rules) (search rules) (search rules) (search rules) (search rules) (search rules)
