use Rattle.std.proofs.Common.{sym, ap, ◌∙◌}
use Rattle.text.specs.Text.{◌‥◌}
use Rattle.text.specs.Due.{columns_of}
use Rattle.text.proofs.Rest.{next_after}
use Rattle.text.proofs.Due.after.Goals as goal

pub returns-else-self-eq0 : goal.returns-else-self-eq0
returns-else-self-eq0 c =
    let d = c.args.self in
    ap columns_of c.bytes.ensures ∙ sym (next_after d.left (d.low ‥ d.high) c.args.b c.if-self-eq0.false)
