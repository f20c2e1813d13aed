-- What a reading keeps, as trees: over the tokens that it keeps, and not over the room of the table.
use Rattle.std.specs.Prelude.{ℕ, ◌-◌, ◌*◌, ◌<◌, ◌≤◌, ◌≡◌, List, take}
use Rattle.records.specs.Table.{field, token_width, node_width}
use Rattle.parser.specs.Tokens.{count}
use Rattle.entry.specs.Reading.{Reading}
use Rattle.trees.specs.Trees.{Tree}

-- the kept tokens but the last, which is EOF where anything is parsed
abbrev pub tokens_before : Reading → List ℕ
tokens_before r = take (token_width * (r.token_count - 1)) r.tokens

-- row j refers to no token but those
pub record Refers (r : Reading) (j : ℕ) : Type 0 where
  pub token1 : field node_width 1 r.nodes j ≤ r.token_count - 1
  pub token2 : field node_width 2 r.nodes j ≤ r.token_count - 1
  pub token3 : field node_width 3 r.nodes j ≤ r.token_count - 1

-- the kept nodes are well formed over those tokens
pub record KeptTree (r : Reading) : Type 0 where
  pub before : count (tokens_before r) ≡ r.token_count - 1
  pub tree : Tree (tokens_before r) r.node_count r.first r.nodes
  pub refers : (j : ℕ) → j < r.node_count → Refers r j
