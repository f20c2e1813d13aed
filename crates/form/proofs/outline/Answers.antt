use Rattle.std.proofs.Common.{rules}
use Rattle.form.specs.Text.{outline_of}
use Rattle.form.proofs.Laws.{adds_first}
use Rattle.form.proofs.Whole.{holds_counts}
use Rattle.form.proofs.outline.Goals as goal

pub returns-clause-holds : goal.returns-clause-holds
returns-clause-holds c = adds_first (outline_of c.args.source.now) _ _ _ c.outline.ensures (search rules) (search rules) _ (search rules)

pub returns-clause-prefix_len : goal.returns-clause-prefix_len
returns-clause-prefix_len c = holds_counts (outline_of c.args.source.now) c.args.out.now _ _ (returns-clause-holds c)
