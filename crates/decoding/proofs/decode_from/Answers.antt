-- The string is closed and fits, so the answer is its decoded bytes.
use Rattle.std.proofs.Common.{◌≡◌, false, refl, sym, length, drop, arith}
use Rattle.records.specs.Outcomes.{ended}
use Rattle.strings.specs.Strings.{decoded_from}
use Rattle.strings.proofs.Sizes.{decoded_length}
use Rattle.decoding.specs.Decode.{decode_from}
use Rattle.decoding.proofs.decode_from.Goals as goal

pub returns : goal.returns
returns c =
    let s = drop c.args.from c.args.s.now in
    let e : length (decoded_from s false) ≡ c.in_ok-closed.closed.length = grind (arith, decoded_length) in
    let d : decode_from s (length c.args.buffer.now) ≡ record { outcome = ended; bytes = decoded_from s false } = grind (arith, decoded_length) in
    rw d (record { outcome_is = refl; length_is = sym e; buffer_is = c.write.ensures })
