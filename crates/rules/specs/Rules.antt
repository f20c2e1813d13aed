-- The two rules of a reading (docs/RULES.md, 'Lexing'). Rule one reads as the original does. Rule two is rule one but for what stands on this page.
use Rattle.std.specs.Prelude.{ℕ, ◌-◌, Bool, cond, not, ◌&&◌, ◌||◌, eqb}
use Rattle.spans.specs.declared.Class.{Class}
use Rattle.spans.specs.declared.Class.TheVariants.{Name, Word}
use Rattle.spans.specs.Span.{in_class}

-- rule one, the original's
abbrev pub one : ℕ
one = 1

-- rule two, our own
abbrev pub two : ℕ
two = 2

-- whether a number names a rule
abbrev pub known : ℕ → Bool
known rule = eqb rule one || eqb rule two

-- whether it is rule two. Nothing else is asked of a rule that is known
abbrev pub is_two : ℕ → Bool
is_two rule = eqb rule two

-- ---- by rule two names may have digits after the first letter or underscore
-- what a name is made of after its first byte
abbrev pub name_class : ℕ → Class
name_class rule = cond (is_two rule) Word Name

-- whether a byte goes on with a name
abbrev pub is_named : ℕ → ℕ → Bool
is_named rule b = in_class (name_class rule) b

-- ---- by rule two an enhanced for gives its loop count back
-- how many loops are open after an enhanced for in whose body n are
abbrev pub loops_behind : ℕ → ℕ → ℕ
loops_behind rule n = cond (is_two rule) (n - 1) n

-- ---- by rule two a number with a point may end the script
-- whether lexing stops at a number; `cut` says that it has a point and runs to the last byte
abbrev pub stops_at : ℕ → Bool → Bool
stops_at rule cut = not (is_two rule) && cut
