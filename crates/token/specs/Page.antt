-- The 22 keywords on one page, as `keywords` in lib.rt decides: by length first, then by letters, within a length in the order of `table`. The number at
-- a line's end is the word's row there. `proofs/Page.antt` proves that the page is the table, and decides as the table does.
use Rattle.std.specs.Prelude.{Bool, true, false, cond, List, [], ◌∷◌, ℕ, ◌+◌, ◌*◌, eqb, length}
use Prim.Native.Char.{code}
use Prim.Native.String.{String, [] as []ˢ, ◌∷◌ as ◌∷ˢ◌}
use Rattle.token.specs.Keyword.{Entry, lookup}
use Rattle.token.specs.Kind as kinds

-- the letters of a text by their codes, which are bytes where it is ASCII
abbrev pub spelt : String → List ℕ
spelt []ˢ = []
spelt (c ∷ˢ s) = code c ∷ spelt s

-- a word by its letters, and its kind
abbrev pub row : String → ℕ → Entry
row s k = record { word = spelt s; kind = k }

-- 2 letters
abbrev pub two : List Entry
two =
    row "fn" kinds.fn_kind ∷  -- 5
    row "if" kinds.if_kind ∷  -- 7
    row "or" kinds.or_kind ∷  -- 10
    row "in" kinds.in_kind ∷  -- 20
    []

-- 3 letters
abbrev pub three : List Entry
three =
    row "and" kinds.and_kind ∷  -- 1
    row "for" kinds.for_kind ∷  -- 6
    row "nil" kinds.nil_kind ∷  -- 9
    row "let" kinds.let_kind ∷  -- 17
    row "not" kinds.not_kind ∷  -- 19
    row "try" kinds.try_kind ∷  -- 21
    []

-- 4 letters
abbrev pub four : List Entry
four =
    row "else" kinds.else_kind ∷  -- 3
    row "elif" kinds.elif_kind ∷  -- 8
    row "this" kinds.this_kind ∷  -- 15
    row "true" kinds.true_kind ∷  -- 16
    []

-- 5 letters
abbrev pub five : List Entry
five =
    row "class" kinds.class_kind ∷  -- 2
    row "false" kinds.false_kind ∷  -- 4
    row "break" kinds.break_kind ∷  -- 12
    row "super" kinds.super_kind ∷  -- 14
    row "while" kinds.while_kind ∷  -- 18
    row "catch" kinds.catch_kind ∷  -- 22
    []

-- 6 letters
abbrev pub six : List Entry
six =
    row "return" kinds.return_kind ∷  -- 11
    []

-- 8 letters
abbrev pub eight : List Entry
eight =
    row "continue" kinds.continue_kind ∷  -- 13
    []

-- the words of n letters
abbrev pub page : ℕ → List Entry
page n =
    cond (eqb n 2) two (cond (eqb n 3) three (cond (eqb n 4) four (cond (eqb n 5) five (cond (eqb n 6) six (cond (eqb n 8) eight [])))))

-- the decision: the words of the name's length, then its letters
abbrev pub decided : List ℕ → ℕ
decided w = lookup w (page (length w))

-- ---- the rows of a table whose word has n letters
abbrev pub keep : Bool → Entry → List Entry → List Entry
keep true k ks = k ∷ ks
keep false k ks = ks

abbrev pub sized : ℕ → List Entry → List Entry
sized n [] = []
sized n (k ∷ ks) = keep (eqb n (length k.word)) k (sized n ks)

-- ---- what stands in the code for a word
-- n and then the letters s as one number: a byte each, the first one the highest
abbrev pub letters_from : ℕ → List ℕ → ℕ
letters_from n [] = n
letters_from n (b ∷ s) = letters_from (n * 256 + b) s
