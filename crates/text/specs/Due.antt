-- How the code keeps the columns that are due: how many, and the next of them. In every row those after the second are 80..BF.
use Rattle.std.specs.Prelude.{ℕ, zero, suc, List, [], ◌∷◌, replicate}
use Rattle.text.specs.Text.{Bytes, ◌‥◌}
use Rattle.text.specs.declared.Due.{Due}

-- so many columns: the next one, and after it columns 80..BF
abbrev pub columns : ℕ → Bytes → List Bytes
columns zero next = []
columns (suc n) next = next ∷ replicate n (0x80 ‥ 0xbf)

abbrev pub columns_of : Due → List Bytes
columns_of d = columns d.left (d.low ‥ d.high)
