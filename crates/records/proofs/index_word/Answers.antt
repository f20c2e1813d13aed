-- The word where there is such a token, and 0 past the end.
use Rattle.std.proofs.Common.{◌≡◌, ℕ, ◌+◌, ◌*◌, get_or, sym, ap, ◌∙◌, arith}
use Rattle.records.specs.Table.{index_width}
use Rattle.records.proofs.Field.{field_room, field_none}
use Rattle.records.proofs.index_word.Goals as goal

pub returns-then-i-index_room : goal.returns-then-i-index_room
returns-then-i-index_room c =
    let a = c.args in
    let e : index_width * a.i + 0 ≡ a.i = omega arith in
    sym (field_room index_width 0 a.index.now a.i (omega arith) ∙ ap (λ (i : ℕ). get_or a.index.now i 0) e)

pub returns : goal.returns
returns c = let a = c.args in sym (field_none index_width 0 a.index.now a.i (omega arith))
