-- The token is passed, or its absence stops the reading.
use Rattle.parser.specs.Tokens.{view}
use Rattle.parser.proofs.Exits.{given_up}
use Rattle.parser.proofs.Write.{require_found, require_full, require_stops}
use Rattle.parser.proofs.Tokens.require.Goals as goal

pub returns-in-Some : goal.returns-in-Some
returns-in-Some c = λ N.
    let a = c.args in
    require_found (view a.self.now) a.kind a.message a.p _ c.matches.ensures c.in-Some.i _ N c.gives.result _ c.in-Some.is c.at_token.ensures c.gives.ensures

pub returns-in_err-q-in-None : goal.returns-in_err-q-in-None
returns-in_err-q-in-None c = λ N.
    let a = c.args in
    rw (given_up _ _ c.from_residual.ensures.1) (require_full (view a.self.now) a.kind a.message a.p _ c.matches.ensures a.errors.now _ N _ _ c.in-None.is c.looked.ensures (c.set_error.ensures N) _ (c.in_err-q-in-None.was))

pub returns-in_ok-q-in-None : goal.returns-in_ok-q-in-None
returns-in_ok-q-in-None c = λ N.
    let a = c.args in
    require_stops (view a.self.now) a.kind a.message a.p _ c.matches.ensures a.errors.now _ N _ _ c.in-None.is c.looked.ensures (c.set_error.ensures N) _ c.stopped.result (c.in_ok-q-in-None.was) c.stopped.ensures
