-- The token is passed, or its absence is an error.
use Rattle.parser.specs.Tokens.{view}
use Rattle.parser.proofs.Write.{consume_found, consume_missing}
use Rattle.parser.proofs.Tokens.consume.Goals as goal

pub returns-in-Some : goal.returns-in-Some
returns-in-Some c = λ N.
    let a = c.args in
    consume_found (view a.self.now) a.kind a.message a.p _ c.matches.ensures c.in-Some.i _ N c.gives.result _ c.in-Some.is c.at_token.ensures c.gives.ensures

pub returns-in-None : goal.returns-in-None
returns-in-None c = λ N.
    let a = c.args in
    consume_missing (view a.self.now) a.kind a.message a.p _ c.matches.ensures a.errors.now N _ _ c.in-None.is c.looked.ensures (c.set_error.ensures N)
