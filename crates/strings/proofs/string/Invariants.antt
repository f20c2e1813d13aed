use Rattle.std.proofs.Common.{◌≡◌, ◌-◌, length, drop}
use Rattle.strings.specs.Strings.{read_of, begun, Counted}
use Rattle.strings.proofs.string.Given as goal

abbrev pub invariant-loop-next : goal.invariant-loop-next
invariant-loop-next l = record {
  over : l.rest ≡ drop l.fn.from l.s;
  counted : Counted l.t;
  same : read_of l.rest begun ≡ read_of (drop l.t.at l.rest) l.t;
}

abbrev pub decreases-loop-next : goal.decreases-loop-next
decreases-loop-next l = length l.rest - l.t.at
