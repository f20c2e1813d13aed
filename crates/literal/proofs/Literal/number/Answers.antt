use Rattle.std.proofs.Common.{◌≤◌, ◌^◌, ap, arith}
use Rattle.std.proofs.lemmas.Bool.{le-leb}
use lib.Ieee.{Float, binary64, of_int, of_bits, div}
use Rattle.literal.specs.Value.{whole}
use Rattle.literal.specs.declared.Literal.TheVariants.{Number}
use Rattle.literal.proofs.Tens.{at}
use Rattle.literal.proofs.Literal.number.Goals as goal

pub returns-then-k-le22 : goal.returns-then-k-le22
unfolding of_bits of_int
returns-then-k-le22 c =
    let m : c.args.m ≤ 2 ^ 53 = c.if-m-le9007199254740992.true in
    let k : c.args.k ≤ 22 = c.if-k-le22.true in
    simp (le-leb _ _ m, le-leb _ _ k) (ap (λ (x : Float). Number (div binary64 (whole c.args.m) x)) (at 23 c.args.k (omega arith)))
