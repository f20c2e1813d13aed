-- Worked strings and decodings, by computing. Assumes nothing.
use mathlib.Core.Path.{◌≡◌, refl}
use mathlib.Core.Bool.{false}
use mathlib.Core.List.{[], ◌∷◌}
use lib.ListN.{replicate}
use Rattle.strings.specs.Strings as strings
use Rattle.text.specs.Text.{is_text}
use Rattle.strings.specs.Strings.{read_of, begun, decoded_from}
use Rattle.decoding.specs.Decode.{refused, decode_of}

-- `a\n"`: four bytes passed, two decoded
closed : read_of (97 ∷ 92 ∷ 110 ∷ 34 ∷ []) begun ≡ strings.closed 4 0 2
closed = refl

-- `\q"`: reading resumes after the q
no_escape : read_of (92 ∷ 113 ∷ 34 ∷ []) begun ≡ strings.broken 2 0
no_escape = refl

-- a newline raises the line
raised : read_of (10 ∷ 34 ∷ []) begun ≡ strings.closed 2 1 1
raised = refl

-- a newline after a backslash does not
not_raised : read_of (10 ∷ 92 ∷ 10 ∷ 34 ∷ []) begun ≡ strings.broken 3 1
not_raised = refl

-- no closing quote
open_end : read_of (replicate 500 97) begun ≡ strings.broken 500 0
open_end = refl

-- a backslash at the very end
cut_escape : read_of (97 ∷ 92 ∷ []) begun ≡ strings.broken 2 0
cut_escape = refl

-- every escape
escapes : decoded_from (92 ∷ 110 ∷ 92 ∷ 114 ∷ 92 ∷ 116 ∷ 92 ∷ 92 ∷ 92 ∷ 34 ∷ 34 ∷ 97 ∷ []) false ≡ 10 ∷ 13 ∷ 9 ∷ 92 ∷ 34 ∷ []
escapes = refl

-- `"a\tb"` into a buffer of three bytes, and of two
fits : decode_of (34 ∷ 97 ∷ 92 ∷ 116 ∷ 98 ∷ 34 ∷ []) 0 3 ≡ record { outcome = 0; bytes = 97 ∷ 9 ∷ 98 ∷ [] }
unfolding is_text decode_of
fits = refl

too_short : decode_of (34 ∷ 97 ∷ 92 ∷ 116 ∷ 98 ∷ 34 ∷ []) 0 2 ≡ refused 10
unfolding is_text decode_of
too_short = refl

-- a start past the end, and a string with no closing quote
past_end : decode_of (34 ∷ 34 ∷ []) 7 9 ≡ refused 9
unfolding is_text decode_of
past_end = refl

not_closed : decode_of (34 ∷ 97 ∷ []) 0 9 ≡ refused 9
unfolding is_text decode_of
not_closed = refl

-- a source that is no text, whatever stands at the start: 3 comes before 9 and 10
no_text : decode_of (34 ∷ 97 ∷ 34 ∷ 35 ∷ 0xed ∷ 0xa0 ∷ 0x80 ∷ []) 0 0 ≡ refused 3
unfolding is_text decode_of
no_text = refl
