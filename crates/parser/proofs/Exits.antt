-- The exit of a `?`. Assumes nothing.
use Rattle.std.proofs.Common.{◌≡◌, ap, ◌∙◌}
use Rattle.std.proofs.lemmas.Result.{err_from_is_err_and}
use Rattle.std.specs.Prelude.{Result, Err, IsErrAnd}
use Rattle.parser.specs.declared.State.{State}
use Rattle.parser.specs.declared.Found.{Found}
use Rattle.parser.specs.declared.Halted.{Halted}

-- a stop is passed on as it is
pub given_up : (r : Result (State × Found) Halted) (w : Halted) → IsErrAnd r (λ e. e ≡ w) → r ≡ Err w
given_up r w h = let p = err_from_is_err_and r h in p.1 ∙ ap Err p.2
