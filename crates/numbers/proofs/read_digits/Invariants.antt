use Rattle.std.proofs.Common.{◌≡◌, ◌+◌, ◌^◌, ◌≤◌, drop, length}
use Rattle.spans.specs.Span.{is_digit, run}
use Rattle.numbers.specs.Number.{front, whole_of, capped}
use Rattle.numbers.proofs.read_digits.Given as goal

abbrev pub decreases-loop-rest : goal.decreases-loop-rest
decreases-loop-rest l = length l.rest

abbrev pub invariant-loop-rest : goal.invariant-loop-rest
invariant-loop-rest l = record {
  small : l.n ≤ 2 ^ 53 + 1;
  shorter : length l.rest ≤ length l.s;
  same_end : l.i + run is_digit (drop l.i l.s) + length l.rest ≡ length l.s + run is_digit l.rest;
  same_whole : capped (whole_of (front (drop l.i l.s)) l.m) ≡ capped (whole_of (front l.rest) l.n);
}
