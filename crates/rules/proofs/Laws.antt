-- What holds by every rule, what by rule one, and what by rule two. Assumes nothing.
use mathlib.Core.Path.{◌≡◌, refl}
use mathlib.Core.Bool.{Bool, true, false, cond}
use Prim.Native.Nat.{ℕ, ◌-◌, ◌≤◌}
use native.Mathlib.Omega.{arith}
use Rattle.spans.specs.declared.Class.TheVariants.{Name, Word}
use Rattle.spans.specs.Span.{is_alpha, in_class}
use Rattle.rules.specs.Rules.{one, two, is_two, is_named, loops_behind, stops_at}

-- an enhanced for leaves no more loops open than were open in its body
pub behind_most : (rule n : ℕ) → loops_behind rule n ≤ n
behind_most rule n = at (is_two rule)
  where
    at : (b : Bool) → cond b (n - 1) n ≤ n
    at true = omega arith
    at false = omega arith

-- a newline ends every name
pub newline_ends : (rule : ℕ) → is_named rule 10 ≡ false
newline_ends rule = at (is_two rule)
  where
    at : (b : Bool) → in_class (cond b Word Name) 10 ≡ false
    at true = refl
    at false = refl

-- ---- rule one is the original's: names of letters and _, a loop count that stays, and a stop at a number that is cut
pub one_names : (b : ℕ) → is_named one b ≡ is_alpha b
one_names b = refl

pub one_loops : (n : ℕ) → loops_behind one n ≡ n
one_loops n = refl

pub one_stops : (cut : Bool) → stops_at one cut ≡ cut
one_stops cut = refl

-- ---- under rule two lexing stops at no number
pub two_never_stops : (cut : Bool) → stops_at two cut ≡ false
two_never_stops cut = refl
