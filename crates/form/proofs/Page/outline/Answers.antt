use Rattle.std.proofs.Common.{rules}
use Rattle.form.proofs.Laws.{adds_same}
use Rattle.form.proofs.Whole.{outline_long, outline_read}
use Rattle.form.proofs.Page.outline.Goals as goal

pub returns-then-source-gt-MOST_BYTES : goal.returns-then-source-gt-MOST_BYTES
returns-then-source-gt-MOST_BYTES c = adds_same (outline_long c.args.source.now _ _ _ _ c.if-source-gt-MOST_BYTES.true (search rules)) c.head.ensures

pub returns : goal.returns
returns c = adds_same (outline_read c.args.source.now _ _ _ _ _ c.if-source-gt-MOST_BYTES.false c.read-r.ensures) (c.reading.ensures _)
