-- A node that finds room, and one that finds none.
use Rattle.std.proofs.Common.{refl}
use Rattle.parser.proofs.Write.{node_made_lem, node_refused}
use Rattle.parser.proofs.make.Goals as goal

pub returns-then-push : goal.returns-then-push
returns-then-push c = λ E.
    let a = c.args in
    node_made_lem a.d a.p E a.nodes.now _ _ c.gives.result c.push.ensures _ c.if-push.true refl c.gives.ensures

pub returns : goal.returns
returns c = λ E.
    let a = c.args in
    node_refused a.d a.p E a.nodes.now _ _ c.stopped.result c.push.ensures c.if-push.false c.stopped.ensures
