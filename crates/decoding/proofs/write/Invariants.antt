-- The first n bytes of the buffer are decoded, which with what is left to decode are the whole, and the others are as they were at first.
use Rattle.std.proofs.Common.{◌≡◌, ◌≤◌, ◌++◌, false, length, take, drop}
use Rattle.strings.specs.Strings.{decoded_from}
use Rattle.decoding.proofs.write.Given as goal

abbrev pub invariant-loop-b : goal.invariant-loop-b
invariant-loop-b l = record {
  within : l.n ≤ length l.buffer;
  rest : drop l.n l.buffer ≡ drop l.n l.initial.buffer;
  written : take l.n l.buffer ++ decoded_from (drop l.b-index l.b-items) l.escaped ≡ decoded_from (drop l.fn.from l.s) false;
}
