-- The text test (docs/RULES.md, 'Text'): what the Unicode Standard's table of well-formed UTF-8 byte sequences (Table 3-7) lets in.
use Rattle.std.specs.Prelude.{ℕ, Bool, true, false, cond, ◌&&◌, ◌||◌, List, [], ◌∷◌, leb}

-- a column of a row: the bytes from one to another
pub record Bytes : Type 0 where
  pub from : ℕ
  pub to : ℕ

infix 80 ◌‥◌
abbrev pub ◌‥◌ : ℕ → ℕ → Bytes
a ‥ b = record { from = a; to = b }

-- a row: its first byte, and the bytes that follow
pub record Row : Type 0 where
  pub first : Bytes
  pub others : List Bytes

abbrev pub row : Bytes → List Bytes → Row
row first others = record { first = first; others = others }

-- the table, in the Standard's order
abbrev pub table : List Row
table =
    row (0x00 ‥ 0x7f) [] ∷  -- U+0000..U+007F
    row (0xc2 ‥ 0xdf) (0x80 ‥ 0xbf ∷ []) ∷  -- U+0080..U+07FF
    row (0xe0 ‥ 0xe0) (0xa0 ‥ 0xbf ∷ 0x80 ‥ 0xbf ∷ []) ∷  -- U+0800..U+0FFF
    row (0xe1 ‥ 0xec) (0x80 ‥ 0xbf ∷ 0x80 ‥ 0xbf ∷ []) ∷  -- U+1000..U+CFFF
    row (0xed ‥ 0xed) (0x80 ‥ 0x9f ∷ 0x80 ‥ 0xbf ∷ []) ∷  -- U+D000..U+D7FF
    row (0xee ‥ 0xef) (0x80 ‥ 0xbf ∷ 0x80 ‥ 0xbf ∷ []) ∷  -- U+E000..U+FFFF
    row (0xf0 ‥ 0xf0) (0x90 ‥ 0xbf ∷ 0x80 ‥ 0xbf ∷ 0x80 ‥ 0xbf ∷ []) ∷  -- U+10000..U+3FFFF
    row (0xf1 ‥ 0xf3) (0x80 ‥ 0xbf ∷ 0x80 ‥ 0xbf ∷ 0x80 ‥ 0xbf ∷ []) ∷  -- U+40000..U+FFFFF
    row (0xf4 ‥ 0xf4) (0x80 ‥ 0x8f ∷ 0x80 ‥ 0xbf ∷ 0x80 ‥ 0xbf ∷ []) ∷  -- U+100000..U+10FFFF
    []

-- whether a byte is of a column
abbrev pub has : Bytes → ℕ → Bool
has c b = leb c.from b && leb b c.to

-- whether one of these rows begins with b
abbrev pub begins : List Row → ℕ → Bool
begins [] b = false
begins (r ∷ rows) b = has r.first b || begins rows b

-- the bytes that follow in the row that begins with b
abbrev pub behind : List Row → ℕ → List Bytes
behind [] b = []
behind (r ∷ rows) b = cond (has r.first b) r.others (behind rows b)

-- whether b may stand where these columns are due; where none is, it begins a row
abbrev pub fits : List Bytes → ℕ → Bool
fits [] b = begins table b
fits (c ∷ due) b = has c b

-- the columns that are due after it
abbrev pub after : List Bytes → ℕ → List Bytes
after [] b = behind table b
after (c ∷ due) b = due

-- the bytes that are left pass, with these columns due
abbrev pub text_from : List ℕ → List Bytes → Bool
text_from [] [] = true
text_from [] (c ∷ due) = false
text_from (b ∷ s) due = fits due b && text_from s (after due b)

-- the text test
unfoldable pub is_text : List ℕ → Bool
is_text s = text_from s []
