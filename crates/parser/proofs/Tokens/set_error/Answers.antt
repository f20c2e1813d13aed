-- An error that finds room, and one that finds none.
use Rattle.std.proofs.Common.{refl}
use Rattle.parser.proofs.Write.{error_made_lem, error_refused}
use Rattle.parser.proofs.Tokens.set_error.Goals as goal

pub returns-then-push : goal.returns-then-push
returns-then-push c = λ N.
    let a = c.args in
    error_made_lem a.self.now.table.now a.message a.token _ a.p a.errors.now _ N _ c.gives.result c.error_at-e.ensures c.push.ensures _ c.if-push.true refl c.gives.ensures

pub returns : goal.returns
returns c = λ N.
    let a = c.args in
    error_refused a.self.now.table.now a.message a.token _ a.p a.errors.now _ N _ c.stopped.result c.error_at-e.ensures c.push.ensures c.if-push.false c.stopped.ensures
