-- Worked examples of rule 4: `12.50;`, `1.` and `1.5` at the end of a script, `1..2`, `7a`. Assumes nothing.
use mathlib.Core.Path.{◌≡◌, refl}
use mathlib.Core.Bool.{true, false}
use mathlib.Core.List.{[], ◌∷◌}
use Rattle.numbers.specs.Number.{number_at}

whole_and_places : number_at (49 ∷ 50 ∷ 46 ∷ 53 ∷ 48 ∷ 59 ∷ []) ≡ record { size = 5; cut = false; whole = 1250; places = 2 }
whole_and_places = refl

point_at_the_end : number_at (49 ∷ 46 ∷ []) ≡ record { size = 2; cut = true; whole = 1; places = 0 }
point_at_the_end = refl

digits_at_the_end : number_at (49 ∷ 46 ∷ 53 ∷ []) ≡ record { size = 3; cut = true; whole = 15; places = 1 }
digits_at_the_end = refl

two_points : number_at (49 ∷ 46 ∷ 46 ∷ 50 ∷ []) ≡ record { size = 2; cut = false; whole = 1; places = 0 }
two_points = refl

no_point : number_at (55 ∷ 97 ∷ []) ≡ record { size = 1; cut = false; whole = 7; places = 0 }
no_point = refl
