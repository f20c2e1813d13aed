use Rattle.std.proofs.Common.{◌≡◌, ◌<◌, ◌^◌, drop}
use Rattle.token.specs.Page.{letters_from}
use Rattle.token.proofs.letters.Given as goal

abbrev pub invariant-loop-b : goal.invariant-loop-b
invariant-loop-b l = record {
  low : l.n < 256 ^ l.b-index;
  same : letters_from 0 l.x ≡ letters_from l.n (drop l.b-index l.x);
}
