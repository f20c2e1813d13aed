-- The binary operators by the number of their level, `or` 1 to `power` 7: the seven loops of the Rust, one in the other, as turns of one loop.
use Rattle.std.specs.Prelude.{ℕ, zero, suc, ◌+◌, ◌-◌, true, false, ◌&&◌, List, [], ◌∷◌, ltb, leb, length, drop}
use Rattle.parser.specs.Tokens.{View, peek_at}
use Rattle.parser.specs.declared.Found.{Found}
use Rattle.parser.specs.Programs.{Prog, give, ◌>>=◌}
use Rattle.parser.specs.Grammar.{Level, levels, fuel, binary_from, binary}
use Rattle.pieces.specs.Pieces.{among, place_in}
use Rattle.operators.specs.declared.Tried.{Tried}
use Rattle.std.specs.Prelude.{Some, None}

-- the number of the level, the first of them n, that has an operator of this kind; 0 if none has
unfoldable pub rank_in : ℕ → List Level → ℕ → ℕ
rank_in n [] kind = 0
rank_in n (l ∷ ls) kind = elim (among l.operators kind) [ true ↦ n | false ↦ rank_in (suc n) ls kind ]

-- the binary operators without those of the loosest so many levels
abbrev pub binary_at : View → ℕ → Prog
binary_at T looser = binary T (drop looser levels)

-- after a first operand: the loops of the first n levels of a list, the tightest of them first, which has so much fuel left
unfoldable pub onward : View → ℕ → List Level → ℕ → Found → Prog
onward T f ls zero g = give g
onward T f [] (suc n) g = give g
onward T f (l ∷ ls) (suc zero) g = binary_from T l (binary T ls) f g
onward T f (l ∷ ls) (suc (suc n)) g = onward T f ls (suc n) g >>= λ h. binary_from T l (binary T ls) (fuel T) h

-- `binary_at` after its first operand, before any turn: it has seven levels but for the loosest so many
abbrev pub behind_first : View → ℕ → Found → Prog
behind_first T looser g = onward T (fuel T) (drop looser levels) (7 - looser) g

-- how many tests the loosest so many of these levels have, one for each operator
unfoldable pub tests_of : List Level → ℕ → ℕ
tests_of ls zero = 0
tests_of [] (suc n) = 0
tests_of (l ∷ ls) (suc n) = length l.operators + tests_of ls n

-- how many of the tests come after the one that finds an operator of this kind, n of them in levels that are looser than all these: the loops end from the tightest
-- level to the loosest, and a level's operators are tried in their order. All of them where none finds it
unfoldable pub behind_in : ℕ → List Level → ℕ → ℕ
behind_in n [] kind = n
behind_in n (l ∷ ls) kind = elim (among l.operators kind) [ true ↦ n + length l.operators - place_in 1 l.operators kind | false ↦ behind_in (n + length l.operators) ls kind ]

-- the turn that an operator of level rank makes, with so many tests after its own: the levels up to `looser` are the caller's to read, and the loops of those tighter than
-- `tightest` have ended, so that one between takes it. Its right operand is `binary_at` rank, the tighter levels alone. The looks are the tests up to it; where none
-- takes it, all tests of the levels between
unfoldable pub turn_of : ℕ → ℕ → ℕ → ℕ → ℕ → Tried
turn_of looser tightest rank behind past =
    elim (ltb looser rank && leb rank tightest) [
      | true ↦ record { turn = Some (rank, past); looks = tests_of levels tightest - behind }
      | false ↦ record { turn = None; looks = tests_of levels tightest - tests_of levels looser }
    ]

-- the turn at a token: what stands past the newlines makes it; what is no operator has level 0, which is no loop's
unfoldable pub turn_at : View → ℕ → ℕ → ℕ → Tried
turn_at T at looser tightest = turn_of looser tightest (rank_in 1 levels (peek_at T at).kind) (behind_in 0 levels (peek_at T at).kind) (peek_at T at).past
