-- A reading one level down, in the form that the code's facts have. Assumes nothing.
use mathlib.Core.Path.{◌≡◌, refl}
use mathlib.Core.List.{List}
use Prim.Native.Nat.{ℕ, zero, suc, ◌-◌}
use native.Mathlib.Omega.{arith}
use Rattle.parser.specs.Tokens.{View}
use Rattle.parser.specs.declared.State.{State}
use Rattle.parser.specs.Tables.{Stop}
use Rattle.parser.specs.Tables.{reply}
use Rattle.parser.specs.Programs.{Which, run}
use Rattle.parser.specs.Grammar.{body, lower}

-- no level is left
pub lower_zero : (T : View) (l : ℕ) (w : Which) (p : State) (E N : List ℕ) → l ≡ 0 → lower T l w p E N ≡ reply p (Stop 8) E N
unfolding lower
lower_zero T zero w p E N e = refl
lower_zero T (suc l) w p E N e = absurd (omega arith)

-- a level is left, and the reading has one fewer
pub lower_step : (T : View) (l : ℕ) (w : Which) (p : State) (E N : List ℕ) → (l ≡ 0 → ⊥) → lower T l w p E N ≡ run T (lower T (l - 1)) (body T w) p E N
unfolding lower
lower_step T zero w p E N h = absurd (h refl)
lower_step T (suc l) w p E N h = let s : suc l - 1 ≡ l = omega arith in rw (s)
