-- What the theorems say of the whole reading: it depends on the tables' sizes only, and what it does not keep it leaves.
use Rattle.std.specs.Prelude.{ℕ, ◌*◌, ◌≤◌, ◌≡◌, Bool, true, false, ◌||◌, List, eqb, ltb, length, get_or, take, drop}
use Rattle.records.specs.Outcomes.{ended}
use Rattle.records.specs.Table.{room, token_width, error_width, node_width, index_width}
use Rattle.entry.specs.Entry.{unread}
use Rattle.entry.specs.Reading.{Reading}

-- parsing came: it reached EOF, or made a look
abbrev pub came : Reading → Bool
came r = eqb r.outcome ended || ltb 0 r.looks

-- the same answer, the same kept tokens and errors, if the source was read, the same node table, word for word, and if parsing came, the same words of the index for the kept tokens
pub record SameReading (a b : Reading) : Type 0 where
  pub outcome : a.outcome ≡ b.outcome
  pub token_count : a.token_count ≡ b.token_count
  pub error_count : a.error_count ≡ b.error_count
  pub node_count : a.node_count ≡ b.node_count
  pub first : a.first ≡ b.first
  pub looks : a.looks ≡ b.looks
  pub tokens_kept : take (token_width * a.token_count) a.tokens ≡ take (token_width * a.token_count) b.tokens
  pub errors_kept : take (error_width * a.error_count) a.errors ≡ take (error_width * a.error_count) b.errors
  pub nodes : unread a.outcome ≡ false → a.nodes ≡ b.nodes
  pub index_kept : came a ≡ true → take a.token_count a.index ≡ take a.token_count b.index

-- what a reading leaves of the tables t, e and n and of the index x: their lengths, the words after the kept tokens and errors, those of the index after the words of the kept tokens, all of
-- it where no parsing came, and after 3, 4 and 13 every word; after any other outcome every word past the kept nodes is 0
pub record Rest (t e n x : List ℕ) (r : Reading) : Type 0 where
  pub tokens_long : length r.tokens ≡ length t
  pub errors_long : length r.errors ≡ length e
  pub nodes_long : length r.nodes ≡ length n
  pub index_long : length r.index ≡ length x
  pub tokens_rest : drop (token_width * r.token_count) r.tokens ≡ drop (token_width * r.token_count) t
  pub errors_rest : drop (error_width * r.error_count) r.errors ≡ drop (error_width * r.error_count) e
  pub index_rest : drop r.token_count r.index ≡ drop r.token_count x
  pub index_unchanged : came r ≡ false → r.index ≡ x
  pub nodes_zero : unread r.outcome ≡ false → (i : ℕ) → node_width * r.node_count ≤ i → get_or r.nodes i 0 ≡ 0
  pub unchanged : unread r.outcome ≡ true → (r.tokens ≡ t) × (r.errors ≡ e) × (r.nodes ≡ n) × (r.index ≡ x)

-- the counts keep to the rooms of the tables t, e and n, and where parsing came to that of the index x
pub record Within (t e n x : List ℕ) (r : Reading) : Type 0 where
  pub tokens_fit : r.token_count ≤ room token_width t
  pub errors_fit : r.error_count ≤ room error_width e
  pub nodes_fit : r.node_count ≤ room node_width n
  pub index_fits : came r ≡ true → r.token_count ≤ room index_width x
