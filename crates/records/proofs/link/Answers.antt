-- One store where the reference names a node, and none where it does not.
use Rattle.std.proofs.Common.{sym, inl, inr, arith}
use Rattle.records.proofs.Rest.{linked_room, linked_none}
use Rattle.records.proofs.link.Goals as goal

pub returns-then-r-eq0 : goal.returns-then-r-eq0
returns-then-r-eq0 c = let a = c.args in sym (linked_none a.nodes.now a.r a.next (inl (omega arith)))

pub returns-then-r-room : goal.returns-then-r-room
returns-then-r-room c = let a = c.args in sym (linked_room a.nodes.now a.r a.next (omega arith) (omega arith))

pub returns-else-r-room : goal.returns-else-r-room
returns-else-r-room c = let a = c.args in sym (linked_none a.nodes.now a.r a.next (inr (omega arith)))
