-- What is left to be looked at decides as the whole does.
use Rattle.std.proofs.Common.{◌≡◌}
use Rattle.host.specs.Fits.{no_eof}
use Rattle.host.proofs.no_eof.Given as goal

abbrev pub invariant-loop-i : goal.invariant-loop-i
invariant-loop-i l = no_eof l.tokens l.i ≡ no_eof l.tokens l.n
