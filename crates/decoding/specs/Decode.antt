-- The decoding of one string (docs/RULES.md, 'Decoding'): the outcome, and what is written.
use Rattle.std.specs.Prelude.{ℕ, ◌≡◌, Bool, true, false, not, Result, Ok, Err, List, [], ◌∷◌, ◌++◌, ltb, eqb, length, drop}
use Rattle.text.specs.Text.{is_text}
use Rattle.records.specs.declared.Outcome.{Outcome}
use Rattle.records.specs.Outcomes as outcomes
use Rattle.strings.specs.Strings.{Ended, read_of, begun, decoded_from}
use Rattle.decoding.specs.declared.Decoded.{Decoded}

-- whether the reading reached a closing quote
abbrev pub is_closed : Ended → Bool
is_closed (Ok c) = true
is_closed (Err b) = false

-- what decoding a string comes to: the outcome and the decoded bytes
pub record Decode : Type 0 where
  pub outcome : ℕ
  pub bytes : List ℕ

-- a refusal has no bytes
abbrev pub refused : ℕ → Decode
refused n = record { outcome = n; bytes = [] }

-- the first answer where the test holds, else the second
abbrev pub pick_decode : Bool → Decode → Decode → Decode
pick_decode true a b = a
pick_decode false a b = b

-- a refusal if the buffer is too short, else the bytes
abbrev pub fitted : List ℕ → ℕ → Decode
fitted w room = pick_decode (ltb room (length w)) (refused outcomes.no_buffer_room) (record { outcome = outcomes.ended; bytes = w })

-- after an opening quote: no string unless lexing's rule 5, read from there, reaches a closing quote
abbrev pub decode_from : List ℕ → ℕ → Decode
decode_from s room = pick_decode (is_closed (read_of s begun)) (fitted (decoded_from s false) room) (refused outcomes.not_a_string)

-- no string unless the byte at the front is a quote
abbrev pub decode_at : List ℕ → ℕ → Decode
decode_at [] room = refused outcomes.not_a_string
decode_at (b ∷ s) room = pick_decode (eqb b 34) (decode_from s room) (refused outcomes.not_a_string)

-- decoding a string: too long if the source is over 65,535 bytes, then no text if the text test fails, then what stands at start decides
unfoldable pub decode_of : List ℕ → ℕ → ℕ → Decode
decode_of source start room =
    pick_decode (ltb 65535 (length source)) (refused outcomes.too_long) (pick_decode (not (is_text source)) (refused outcomes.not_text) (decode_at (drop start source) room))

-- what a decoding answers: the outcome, and the length that it wrote; a refusal says length 0
abbrev pub decoded : Result ℕ Outcome → Decoded
decoded (Ok n) = record { outcome = outcomes.ended; length = n }
decoded (Err o) = record { outcome = outcomes.outcome_number o; length = 0 }

-- what a decoding returns and leaves: the outcome, the number of decoded bytes, and the buffer, changed only where those bytes stand
pub record Decoding (d : Decode) (r : Decoded) (before after : List ℕ) : Type 0 where
  pub outcome_is : r.outcome ≡ d.outcome
  pub length_is : r.length ≡ length d.bytes
  pub buffer_is : after ≡ d.bytes ++ drop (length d.bytes) before
