-- Scripts with what the original answers: how a case is tried on the definition.
use Prim.Native.Nat.{ℕ, ◌+◌, ◌*◌, ◌-◌}
use Prim.Native.String.{String}
use mathlib.Core.Bool.{cond}
use mathlib.Core.List.{List, [], ◌∷◌, ◌++◌}
use lib.Dec.{eqb}
use lib.ListN.{replicate, take, drop}
use Rattle.records.specs.Table.{token_width, error_width, node_width, index_width}
use Rattle.entry.specs.Reading.{Reading, reading}
use Rattle.text.proofs.Codes.{codes}

-- a rule, a way, a script, the rooms for tokens, errors, nodes and index words, and the words that are kept
pub data Case : Type 0 where
  case : ℕ → ℕ → String → ℕ → ℕ → ℕ → ℕ → List ℕ → Case

-- the words that are not w
abbrev pub others : ℕ → List ℕ → List ℕ
others w [] = []
others w (v ∷ vs) = cond (eqb v w) (others w vs) (v ∷ others w vs)

-- the answer, the words of the kept errors and nodes, then what is not as it should be: past the kept errors any word that was changed, past the kept nodes any that is not 0; and every word of the index
abbrev pub kept : Reading → List ℕ
kept r =
    r.outcome ∷ r.token_count ∷ r.error_count ∷ r.node_count ∷ r.first ∷ r.looks ∷
    take (error_width * r.error_count) r.errors ++
    take (node_width * r.node_count) r.nodes ++
    others 7 (drop (error_width * r.error_count) r.errors) ++
    others 0 (drop (node_width * r.node_count) r.nodes) ++
    r.index

-- a table of sevens with room for n records of w words, and the longest spare tail
abbrev table : ℕ → ℕ → List ℕ
table w n = replicate (w * (n + 1) - 1) 7

-- what the definition keeps, from such tables
abbrev pub answer : Case → List ℕ
answer (case rule way s t e n x ws) = kept (reading rule way (codes s) (table token_width t) (table error_width e) (table node_width n) (table index_width x))

-- what the original keeps
abbrev pub expected : Case → List ℕ
expected (case rule way s t e n x ws) = ws

abbrev pub map : (Case → List ℕ) → List Case → List (List ℕ)
map f [] = []
map f (c ∷ cs) = f c ∷ map f cs
