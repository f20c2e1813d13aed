-- What the source does not have whole is no keyword.
use Rattle.std.proofs.Common.{◌≤◌, min, length, sym, ap, ◌∙◌, ⊎_elim, arith}
use Rattle.token.specs.Keyword.{keyword_of}
use Rattle.token.proofs.Sized.{part_none, part_min}
use Rattle.token.proofs.Token.keyword.Goals as goal

pub returns-in-None : goal.returns-in-None
returns-in-None c =
    let s = c.args.s.now in
    let h : min c.args.e (length s) ≤ c.args.a = ⊎_elim (λ l. omega arith) (λ l. omega arith) c.in-None.ensures.lookup.0 in
    sym (ap keyword_of (sym (part_min c.args.a c.args.e s)) ∙ part_none c.args.a (min c.args.e (length s)) s h)
