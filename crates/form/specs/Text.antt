-- A reading as text (docs/RULES.md, 'Outline'): a line `o` for the answer, then one for each token, error and node that is kept.
use Rattle.std.specs.Prelude.{ℕ, zero, suc, ◌+◌, ◌*◌, ◌/◌, ◌%◌, min, ◌≡◌, cond, List, [], ◌∷◌, ◌++◌, ltb, length, get_or, take, drop, replicate}
use Rattle.records.specs.Table.{token_width, error_width, node_width, index_width}
use Rattle.entry.specs.declared.Answer.{Answer}
use Rattle.rules.specs.Rules.{one}
use Rattle.form.specs.declared.Page.{Page}
use Rattle.entry.specs.Ways.{go_on}
use Rattle.entry.specs.Reading.{Reading, reading}

-- the digits of a number below 10 ^ k, without leading zeros
abbrev pub digits_within : ℕ → ℕ → List ℕ
digits_within zero n = []
digits_within (suc k) n = cond (ltb n 10) ((48 + n) ∷ []) (digits_within k (n / 10) ++ ((48 + n % 10) ∷ []))

-- a word of 32 bits in decimal: it has at most ten digits
unfoldable pub decimal : ℕ → List ℕ
decimal n = digits_within 10 n

-- a space, and the word
abbrev pub field : ℕ → List ℕ
field n = 32 ∷ decimal n

-- words of the table: those with the given numbers, counted from a place on
unfoldable pub fields : List ℕ → ℕ → List ℕ → List ℕ
fields t from [] = []
fields t from (k ∷ ks) = field (get_or t (from + k) 0) ++ fields t from ks

-- a letter, such words, and the line's end
abbrev pub line_of : ℕ → List ℕ → ℕ → List ℕ → List ℕ
line_of letter t from shown = letter ∷ fields t from shown ++ (10 ∷ [])

-- the lines of so many records of w words, and which of the words are shown
unfoldable pub lines_of : ℕ → List ℕ → ℕ → List ℕ → ℕ → List ℕ
lines_of letter t w shown zero = []
lines_of letter t w shown (suc n) = lines_of letter t w shown n ++ line_of letter t (w * n) shown

-- the answer's line: outcome, tokens, errors, nodes, first statement
abbrev pub head_of : List ℕ → List ℕ
head_of row = line_of 111 row 0 (0 ∷ 1 ∷ 2 ∷ 3 ∷ 4 ∷ [])

-- the words of a token that are shown: kind, start, length, line, and its last word, the line where it begins
abbrev pub token_shown : List ℕ
token_shown = 0 ∷ 1 ∷ 2 ∷ 3 ∷ 7 ∷ []

-- those of an error: all three
abbrev pub error_shown : List ℕ
error_shown = 0 ∷ 1 ∷ 2 ∷ []

-- those of a node: all nine
abbrev pub node_shown : List ℕ
node_shown = 0 ∷ 1 ∷ 2 ∷ 3 ∷ 4 ∷ 5 ∷ 6 ∷ 7 ∷ 8 ∷ []

-- the whole text of a reading; its looks and its index are not shown
unfoldable pub text_of : Reading → List ℕ
text_of r =
    head_of (r.outcome ∷ r.token_count ∷ r.error_count ∷ r.node_count ∷ r.first ∷ []) ++
    lines_of 116 r.tokens token_width token_shown r.token_count ++
    lines_of 101 r.errors error_width error_shown r.error_count ++
    lines_of 110 r.nodes node_width node_shown r.node_count

-- an answer, and the tables and the index that it left, as a reading
abbrev pub read_of : Answer → List ℕ → List ℕ → List ℕ → List ℕ → Reading
read_of r T E N X = record { outcome = r.outcome; token_count = r.tokens; error_count = r.errors; node_count = r.nodes; first = r.first; looks = r.looks; tokens = T; errors = E; nodes = N; index = X }

-- the reading of a script, by rule one and on the old way, into empty tables with room for 2,048 tokens, 256 errors and 1,600 nodes, with an index for as many tokens
abbrev pub read_within : List ℕ → Reading
read_within s = reading one go_on s (replicate (token_width * 2048) 0) (replicate (error_width * 256) 0) (replicate (node_width * 1600) 0) (replicate (index_width * 2048) 0)

-- what `outline` prints of a script: it has room for 4,096 bytes
unfoldable pub outline_of : List ℕ → List ℕ
outline_of s = cond (ltb 4096 (length s)) (head_of (4 ∷ 0 ∷ 0 ∷ 0 ∷ 0 ∷ [])) (text_of (read_within s))

-- a buffer whose first bytes are a text, as far as there is room for it; after them it is as it was before
pub record Holds (text : List ℕ) (before : List ℕ) (buffer : List ℕ) (at : ℕ) : Type 0 where
  pub count : at ≡ min (length text) (length before)
  pub bytes : buffer ≡ take at text ++ drop at before

-- from page p to page q: in the same buffer a text more stands behind what it held, as far as there is room
pub record Adds (more : List ℕ) (p q : Page) : Type 0 where
  pub same : q.out.ghost_name ≡ p.out.ghost_name
  pub holds : (text before : List ℕ) → Holds text before p.out.now p.at → Holds (text ++ more) before q.out.now q.at
