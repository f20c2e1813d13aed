-- How a pair of scripts is tried on the premise.
use Prim.Native.Nat.{ℕ}
use Prim.Native.String.{String}
use mathlib.Core.Bool.{Bool}
use mathlib.Core.List.{List, [], ◌∷◌}
use Rattle.text.proofs.Codes.{codes}
use Rattle.blackout.specs.Blackout.{blackout}

-- a rule, two scripts, whether the premise holds, and whether both are read alike
pub data Pair : Type 0 where
  pair : ℕ → String → String → Bool → Bool → Pair

-- a rule, two scripts, and whether the premise holds
pub data Both : Type 0 where
  both : ℕ → String → String → Bool → Both

-- a pair without the reading
abbrev pub unread : List Pair → List Both
unread [] = []
unread (pair rule s r p q ∷ cs) = both rule s r p ∷ unread cs

-- what the premise says of pairs
abbrev pub premises : List Both → List Bool
premises [] = []
premises (both rule s r p ∷ cs) = blackout rule (codes s) (codes r) ∷ premises cs

-- what it has to say
abbrev pub verdicts : List Both → List Bool
verdicts [] = []
verdicts (both rule s r p ∷ cs) = p ∷ verdicts cs
