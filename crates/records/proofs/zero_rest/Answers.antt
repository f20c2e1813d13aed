-- The words before record n are as they were; each one after is 0.
use Rattle.std.proofs.Common.{}
use Rattle.records.specs.Table.{node_width}
use Rattle.records.proofs.Rest.{zero_filled}
use Rattle.records.proofs.zero_rest.Goals as goal

pub returns : goal.returns
returns c = zero_filled node_width _ c.args.n _ _ c.min-kept.ensures (c.fill.ensures.after (λ y e. e))
