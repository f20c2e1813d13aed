-- The newline index (docs/RULES.md, 'Index and looks'): one word for each token, the reference (index + 1) of the first token from there on that is no Newline.
use Rattle.std.specs.Prelude.{ℕ, zero, suc, ◌+◌, ◌-◌, ◌≡◌, Bool, cond, List, [], ◌∷◌, ◌++◌, leb, drop}
use Rattle.records.specs.Table.{room, index_width}
use Rattle.parser.specs.Tokens.{lines_from}

-- the word of token i, where there are n tokens: the reference of the first from there on that is no Newline; of the last one where they all are, so it is never above n
unfoldable pub line_word : List ℕ → ℕ → ℕ → ℕ
line_word t n i = i + lines_from (n - 1 - i) t i + 1

-- the words of k tokens from token i on, which are the last ones
unfoldable pub line_words : List ℕ → ℕ → ℕ → List ℕ
line_words t i zero = []
line_words t i (suc k) = line_word t (i + suc k) i ∷ line_words t (i + 1) k

-- the index x with the words of n tokens, and the words after them as they were
unfoldable pub line_index : List ℕ → ℕ → List ℕ → List ℕ
line_index t n x = line_words t 0 n ++ drop n x

-- what the writing of n words into the index x answers, whether there is room, and the index u that it leaves
pub record Indexed (t : List ℕ) (x : List ℕ) (n : ℕ) (r : Bool) (u : List ℕ) : Type 0 where
  pub answer : r ≡ leb n (room index_width x)
  pub index : u ≡ cond (leb n (room index_width x)) (line_index t n x) x
