-- What a text is, with no word on how it is read: well-formed sequences one after the other.
use Rattle.std.specs.Prelude.{ℕ, Bool, true, false, ◌&&◌, ◌||◌, List, [], ◌∷◌, ◌++◌}
use Rattle.text.specs.Text.{Bytes, Row, table, has}

-- a byte for each column
abbrev pub matches : List Bytes → List ℕ → Bool
matches [] [] = true
matches [] (b ∷ l) = false
matches (c ∷ cs) [] = false
matches (c ∷ cs) (b ∷ l) = has c b && matches cs l

-- the bytes of one of these rows
abbrev pub of_row : List Row → List ℕ → Bool
of_row [] l = false
of_row (r ∷ rows) l = matches (r.first ∷ r.others) l || of_row rows l

-- a well-formed sequence is the bytes of one row of the table
abbrev pub all_well_formed : List (List ℕ) → Bool
all_well_formed [] = true
all_well_formed (l ∷ ls) = of_row table l && all_well_formed ls

-- sequences one after the other
abbrev pub joined : List (List ℕ) → List ℕ
joined [] = []
joined (l ∷ ls) = l ++ joined ls
