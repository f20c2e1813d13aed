-- Worked examples of the form, by computation. Assumes nothing.
use mathlib.Core.Path.{◌≡◌, refl}
use mathlib.Core.List.{[], ◌∷◌}
use Rattle.records.specs.Table.{token_width}
use Rattle.text.proofs.Codes.{codes}
use Rattle.form.specs.Text.{decimal, fields, lines_of, token_shown, text_of}

zero_is : decimal 0 ≡ codes "0"
unfolding decimal
zero_is = refl

ten_is : decimal 10 ≡ codes "10"
unfolding decimal
ten_is = refl

-- the largest word
largest_is : decimal 4294967295 ≡ codes "4294967295"
unfolding decimal
largest_is = refl

-- a token's line has the first four of its words and the last, the line where it begins
token_line : lines_of 116 (26 ∷ 0 ∷ 7 ∷ 3 ∷ 1 ∷ 5 ∷ 0 ∷ 1 ∷ 1 ∷ 7 ∷ 1 ∷ 4 ∷ 0 ∷ 0 ∷ 0 ∷ 3 ∷ []) token_width token_shown 2 ≡ codes "t 26 0 7 3 1\nt 1 7 1 4 3\n"
unfolding lines_of fields decimal
token_line = refl

-- an answer, one token, one error and no node
whole_text :
    text_of (record { outcome = 5; token_count = 1; error_count = 1; node_count = 0; first = 0; looks = 7; tokens = 25 ∷ 1 ∷ 1 ∷ 1 ∷ 0 ∷ 0 ∷ 0 ∷ 1 ∷ []; errors = 1 ∷ 1 ∷ 0 ∷ []; nodes = 0 ∷ 0 ∷ []; index = [] })
    ≡ codes "o 5 1 1 0 0\nt 25 1 1 1 1\ne 1 1 0\n"
unfolding text_of lines_of fields decimal
whole_text = refl
