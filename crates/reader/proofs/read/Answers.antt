use Rattle.std.proofs.Common.{rules}
use Rattle.reader.proofs.Joined.{goes_on_lem, ends}
use Rattle.reader.proofs.read.Goals as goal

pub returns-then-d : goal.returns-then-d
returns-then-d c =
    let a = c.args in
    rw c.from-lexed.ensures (ends a.rule a.way a.source.now a.tokens.now a.errors.now a.nodes.now a.index.now _ _ _ _ _ c.enter-d.ensures _ _ _ (search rules) c.if-d.true)

pub returns : goal.returns
returns c =
    let a = c.args in
    goes_on_lem a.rule a.way a.source.now a.tokens.now a.errors.now a.nodes.now a.index.now _ _ _ _ _ c.enter-d.ensures _ _ _ c.if-d.false c.parse-p.ensures
