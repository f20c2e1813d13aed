-- How a pair of scripts is tried on the definition of the reading.
use Prim.Native.Nat.{ℕ, ◌*◌}
use mathlib.Core.Bool.{Bool, cond}
use mathlib.Core.List.{List, [], ◌∷◌, ◌++◌}
use lib.ListN.{replicate, take}
use Rattle.token.specs.Keyword.{same}
use Rattle.text.proofs.Codes.{codes}
use Rattle.records.specs.Table.{token_width, error_width, node_width, index_width}
use Rattle.entry.specs.Ways.{go_on}
use Rattle.entry.specs.Reading.{Reading, reading}
use Rattle.whole.specs.Sizes.{came}
use Rattle.blackout.proofs.Trials.{Pair, pair}

-- what blacking out leaves the same: the answer, every word of the kept records, and where parsing came the index's words of the kept tokens
abbrev pub kept : Reading → List ℕ
kept r =
    r.outcome ∷ r.token_count ∷ r.error_count ∷ r.node_count ∷ r.first ∷ r.looks ∷
    take (token_width * r.token_count) r.tokens ++
    take (error_width * r.error_count) r.errors ++
    take (node_width * r.node_count) r.nodes ++
    cond (came r) (take r.token_count r.index) []

-- a reading by the rule, on the original's way, into tables that are large enough here, and held the word w
abbrev pub read_into : ℕ → ℕ → List ℕ → List ℕ
read_into rule w s = kept (reading rule go_on s (replicate (token_width * 24) w) (replicate (error_width * 12) w) (replicate (node_width * 24) w) (replicate (index_width * 24) w))

-- whether pairs are read alike; the tables of the two readings held other words
abbrev pub answers : List Pair → List Bool
answers [] = []
answers (pair rule s r p q ∷ cs) = same (read_into rule 7 (codes s)) (read_into rule 8 (codes r)) ∷ answers cs

-- what the definition has to say
abbrev pub expected : List Pair → List Bool
expected [] = []
expected (pair rule s r p q ∷ cs) = q ∷ expected cs
