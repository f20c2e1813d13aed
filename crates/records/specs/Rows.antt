-- Words that are whole records one after the other, each of which has a property.
use Rattle.std.specs.Prelude.{ℕ, ◌+◌, List, [], ◌++◌}

-- n records with the property P, whose words are `words`
pub data Rows {D : Type 0} (words : D → List ℕ) (P : D → Type 0) : List ℕ → ℕ → Type 0 where
  none : Rows words P [] 0
  more : {ws : List ℕ} {n : ℕ} → Rows words P ws n → (d : D) → P d → Rows words P (ws ++ words d) (n + 1)
