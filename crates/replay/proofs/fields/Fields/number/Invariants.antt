use Rattle.std.proofs.Common.{length}
use Rattle.replay.proofs.fields.Fields.number.Given as goal

abbrev pub decreases-loop-field : goal.decreases-loop-field
decreases-loop-field l = length l.field
