-- The name and what follows it are parted at its first byte.
use Rattle.std.proofs.Common.{◌≡◌, ◌∷◌, suc, ◌+◌, ◌-◌, get_or, drop, arith, add-one, drop-cons}
use Rattle.spans.specs.Span.{run}
use Rattle.rules.specs.Rules.{is_named}
use Rattle.items.proofs.identifier.Goals as goal

pub returns : goal.returns
returns c =
    let a = c.args in
    let h = c.requires in
    let d : drop a.i a.s.now ≡ get_or a.s.now a.i 0 ∷ drop (a.i + 1) a.s.now = rw (add-one, drop-cons a.s.now a.i 0) in
    let n : c.name_end-end.result - a.i ≡ suc (run (is_named a.rule) (drop (a.i + 1) a.s.now)) = omega arith in
    rw (d, n) (grind arith)
