-- A string ends within the source, so its quote counts too.
use Rattle.std.proofs.Common.{◌+◌, ◌∙◌, sym, drop, arith, length-drop}
use Rattle.strings.proofs.Sizes.{closed_within, broken_within}
use Rattle.items.proofs.string.Goals as goal

pub overflow_add-result : goal.overflow_add-result
overflow_add-result c =
    let z = closed_within (drop (c.args.i + 1) c.args.s.now) c.in-Ok.field-0 (sym c.string.ensures ∙ c.in-Ok.is) in
    omega (arith, length-drop (c.args.i + 1) c.args.s.now)

pub overflow_add-result-in-Err : goal.overflow_add-result-in-Err
overflow_add-result-in-Err c =
    let z = broken_within (drop (c.args.i + 1) c.args.s.now) c.in-Err.field-0 (sym c.string.ensures ∙ c.in-Err.is) in
    omega (arith, length-drop (c.args.i + 1) c.args.s.now)
