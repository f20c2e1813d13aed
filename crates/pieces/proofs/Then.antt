-- Laws of `and_then`. Assumes nothing.
use mathlib.Core.Path.{◌≡◌, refl}
use mathlib.Core.List.{List}
use Prim.Native.Nat.{ℕ}
use Rattle.parser.specs.declared.State.{State}
use Rattle.parser.specs.declared.Found.{Found}
use Rattle.parser.specs.Tables.{Node, Stop}
use Rattle.parser.specs.Tables.{Reply, reply, and_then}
use Rattle.parser.specs.Programs.{Reader}

-- one after the other, grouped either way
pub then_then : (r : Reply) (k h : Found → Reader) → and_then (and_then r k) h ≡ and_then r (λ f q E N. and_then (k f q E N) h)
then_then (reply p (Node f) E N) k h = refl
then_then (reply p (Stop o) E N) k h = refl

-- giving what was found changes nothing
pub then_give : (r : Reply) → and_then r (λ f q E N. reply q (Node f) E N) ≡ r
then_give (reply p (Node f) E N) = refl
then_give (reply p (Stop o) E N) = refl

-- what follows may be replaced by its equal
pub then_same : (r : Reply) (k h : Found → Reader) → ((f : Found) (q : State) (E N : List ℕ) → k f q E N ≡ h f q E N) → and_then r k ≡ and_then r h
then_same (reply p (Node f) E N) k h e = e f p E N
then_same (reply p (Stop o) E N) k h e = refl
