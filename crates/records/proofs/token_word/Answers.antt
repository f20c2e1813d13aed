-- The word where there is such a token, and 0 past the end.
use Rattle.std.proofs.Common.{sym, arith}
use Rattle.records.specs.Table.{token_width}
use Rattle.records.proofs.Field.{field_room, field_none}
use Rattle.records.proofs.token_word.Goals as goal

pub returns-then-i-room : goal.returns-then-i-room
returns-then-i-room c = let a = c.args in sym (field_room token_width a.k a.tokens.now a.i (omega arith))

pub returns : goal.returns
returns c = let a = c.args in sym (field_none token_width a.k a.tokens.now a.i (omega arith))
