-- Worked examples: the definition computes. Assumes nothing.
use mathlib.Core.Path.{◌≡◌, refl}
use mathlib.Core.List.{List, [], ◌∷◌}
use Prim.Native.Nat.{ℕ}
use lib.Ieee.{div, of_int, to_bits}
use Rattle.token.specs.Keyword.{keyword_of}
use Rattle.text.specs.Text.{is_text}
use Rattle.rules.specs.Rules.{one, two}
use Rattle.items.specs.Items.{sign_of}
use Rattle.lexer.specs.Lex.{Result, lexed, lexed_of}

-- outcome, counts, then the words
abbrev is : ℕ → ℕ → ℕ → List ℕ → List ℕ → Result
is o n m t e = record { outcome = o; token_count = n; error_count = m; tokens = t; errors = e }

-- the worked example of `outline`: `a = 1` and a newline
worked : lexed_of one (97 ∷ 32 ∷ 61 ∷ 32 ∷ 49 ∷ 10 ∷ []) 100 10
    ≡ is 0 5 0
    (25 ∷ 0 ∷ 1 ∷ 1 ∷ 0 ∷ 0 ∷ 0 ∷ 1 ∷
    19 ∷ 2 ∷ 1 ∷ 1 ∷ 0 ∷ 0 ∷ 0 ∷ 1 ∷
    27 ∷ 4 ∷ 1 ∷ 1 ∷ 2 ∷ 0 ∷ 0x3ff0_0000 ∷ 1 ∷
    1 ∷ 5 ∷ 1 ∷ 2 ∷ 0 ∷ 0 ∷ 0 ∷ 1 ∷
    0 ∷ 6 ∷ 0 ∷ 2 ∷ 0 ∷ 0 ∷ 0 ∷ 2 ∷ []) []
unfolding lexed_of lexed is_text keyword_of sign_of div of_int to_bits
worked = refl

-- empty: one token
empty : lexed_of one [] 1 0 ≡ is 0 1 0 (0 ∷ 0 ∷ 0 ∷ 1 ∷ 0 ∷ 0 ∷ 0 ∷ 1 ∷ []) []
unfolding lexed_of lexed is_text
empty = refl

-- `1.5` with nothing after it: outcome 2, and neither Newline nor EOF
cut : lexed_of one (49 ∷ 46 ∷ 53 ∷ []) 9 9 ≡ is 2 0 0 [] []
unfolding lexed_of lexed is_text
cut = refl

-- by rule two it is a number, and Newline and EOF are added
cut_by_two : lexed_of two (49 ∷ 46 ∷ 53 ∷ []) 9 9
    ≡ is 0 3 0
    (27 ∷ 0 ∷ 3 ∷ 1 ∷ 2 ∷ 0 ∷ 0x3ff8_0000 ∷ 1 ∷
    1 ∷ 3 ∷ 0 ∷ 1 ∷ 0 ∷ 0 ∷ 0 ∷ 1 ∷
    0 ∷ 3 ∷ 0 ∷ 1 ∷ 0 ∷ 0 ∷ 0 ∷ 1 ∷ []) []
unfolding lexed_of lexed is_text div of_int to_bits
cut_by_two = refl

-- `1a1`: a number and a name by rule two; a number, a name and a number by rule one
names_by_two : lexed_of two (49 ∷ 97 ∷ 49 ∷ []) 2 0
    ≡ is 5 2 0
    (27 ∷ 0 ∷ 1 ∷ 1 ∷ 2 ∷ 0 ∷ 0x3ff0_0000 ∷ 1 ∷
    25 ∷ 1 ∷ 2 ∷ 1 ∷ 0 ∷ 0 ∷ 0 ∷ 1 ∷ []) []
unfolding lexed_of lexed is_text keyword_of div of_int to_bits
names_by_two = refl

names_by_one : lexed_of one (49 ∷ 97 ∷ 49 ∷ []) 2 0
    ≡ is 5 2 0
    (27 ∷ 0 ∷ 1 ∷ 1 ∷ 2 ∷ 0 ∷ 0x3ff0_0000 ∷ 1 ∷
    25 ∷ 1 ∷ 1 ∷ 1 ∷ 0 ∷ 0 ∷ 0 ∷ 1 ∷ []) []
unfolding lexed_of lexed is_text keyword_of div of_int to_bits
names_by_one = refl

-- 0 and 3 name no rule, and that is asked for before the text test: the byte 255 is no text
unruled : (lexed_of 0 (255 ∷ []) 9 9 ≡ is 13 0 0 [] []) × (lexed_of 3 (255 ∷ []) 9 9 ≡ is 13 0 0 [] []) × (lexed_of two (255 ∷ []) 9 9 ≡ is 3 0 0 [] [])
unfolding lexed_of is_text
unruled = (refl, refl, refl)

-- `"\q"`: message 3 at 0 and at 3, only EOF
bad_escape : lexed_of one (34 ∷ 92 ∷ 113 ∷ 34 ∷ []) 9 9 ≡ is 0 1 2 (0 ∷ 4 ∷ 0 ∷ 1 ∷ 0 ∷ 0 ∷ 0 ∷ 1 ∷ []) (3 ∷ 1 ∷ 0 ∷ 3 ∷ 1 ∷ 3 ∷ [])
unfolding lexed_of lexed is_text sign_of
bad_escape = refl

-- an escaped newline doesn't raise the line, a newline inside a string does: `"\`, newline, `"`, newline, `"`
lines : lexed_of one (34 ∷ 92 ∷ 10 ∷ 34 ∷ 10 ∷ 34 ∷ []) 9 9
    ≡ is 0 3 1
    (26 ∷ 3 ∷ 3 ∷ 2 ∷ 1 ∷ 1 ∷ 0 ∷ 1 ∷
    1 ∷ 6 ∷ 0 ∷ 2 ∷ 0 ∷ 0 ∷ 0 ∷ 2 ∷
    0 ∷ 6 ∷ 0 ∷ 2 ∷ 0 ∷ 0 ∷ 0 ∷ 2 ∷ []) (3 ∷ 1 ∷ 0 ∷ [])
unfolding lexed_of lexed is_text sign_of
lines = refl

-- a string of three lines and the Newline after it: `"x`, newline, `y`, newline, `z"`, newline
string_of_three : lexed_of one (34 ∷ 120 ∷ 10 ∷ 121 ∷ 10 ∷ 122 ∷ 34 ∷ 10 ∷ []) 9 9
    ≡ is 0 3 0
    (26 ∷ 0 ∷ 7 ∷ 3 ∷ 1 ∷ 5 ∷ 0 ∷ 1 ∷
    1 ∷ 7 ∷ 1 ∷ 4 ∷ 0 ∷ 0 ∷ 0 ∷ 3 ∷
    0 ∷ 8 ∷ 0 ∷ 4 ∷ 0 ∷ 0 ∷ 0 ∷ 4 ∷ []) []
unfolding lexed_of lexed is_text sign_of
string_of_three = refl

-- a Newline begins on the line that it ends, the added one on the line that it has: `a`, newline, newline, `b`
newlines_of_both_sorts : lexed_of one (97 ∷ 10 ∷ 10 ∷ 98 ∷ []) 9 9
    ≡ is 0 6 0
    (25 ∷ 0 ∷ 1 ∷ 1 ∷ 0 ∷ 0 ∷ 0 ∷ 1 ∷
    1 ∷ 1 ∷ 1 ∷ 2 ∷ 0 ∷ 0 ∷ 0 ∷ 1 ∷
    1 ∷ 2 ∷ 1 ∷ 3 ∷ 0 ∷ 0 ∷ 0 ∷ 2 ∷
    25 ∷ 3 ∷ 1 ∷ 3 ∷ 0 ∷ 0 ∷ 0 ∷ 3 ∷
    1 ∷ 4 ∷ 0 ∷ 3 ∷ 0 ∷ 0 ∷ 0 ∷ 3 ∷
    0 ∷ 4 ∷ 0 ∷ 3 ∷ 0 ∷ 0 ∷ 0 ∷ 3 ∷ []) []
unfolding lexed_of lexed is_text keyword_of sign_of
newlines_of_both_sorts = refl

-- a lone `!` is message 1, a two-byte letter message 2 twice; then the room for errors ends
marks : lexed_of one (33 ∷ 195 ∷ 169 ∷ []) 9 2 ≡ is 6 0 2 [] (1 ∷ 1 ∷ 0 ∷ 2 ∷ 1 ∷ 1 ∷ [])
unfolding lexed_of lexed is_text sign_of
marks = refl

-- room for the name and the closing Newline, not for EOF
full : lexed_of one (97 ∷ []) 2 0 ≡ is 5 2 0 (25 ∷ 0 ∷ 1 ∷ 1 ∷ 0 ∷ 0 ∷ 0 ∷ 1 ∷ 1 ∷ 1 ∷ 0 ∷ 1 ∷ 0 ∷ 0 ∷ 0 ∷ 1 ∷ []) []
unfolding lexed_of lexed is_text keyword_of
full = refl

-- C1 80 is no text
no_text : lexed_of one (193 ∷ 128 ∷ []) 9 9 ≡ is 3 0 0 [] []
unfolding lexed_of is_text
no_text = refl

-- nor is ED A0 80, in a comment: nothing is kept, not even what stands before it
surrogate : lexed_of one (97 ∷ 35 ∷ 0xed ∷ 0xa0 ∷ 0x80 ∷ 10 ∷ []) 9 9 ≡ is 3 0 0 [] []
unfolding lexed_of is_text
surrogate = refl
