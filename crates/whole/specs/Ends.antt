-- How a reading can end, by its rule and on its way, in the order in which the outcomes are asked for.
use Rattle.std.specs.Prelude.{ℕ, ◌≡◌, Bool, true, ◌||◌, List, eqb, leb}
use Rattle.rules.specs.Rules.{known}
use Rattle.records.specs.Outcomes.{ended, too_deep, no_buffer_room, not_parsed, wrong_rule}
use Rattle.lexing.specs.Ends as lexings
use Rattle.parsing.specs.Ahead.{is_outcome}
use Rattle.entry.specs.Ways.{stop}
use Rattle.entry.specs.Reading.{Reading}

-- how a reading ends: as lexing ended, where it did not reach the end; or with 11, which is the new way's; or with 10, for want of room in the index; or as parsing ends
pub data Ends (rule way : ℕ) : ℕ → Type 0 where
  in_lexing : (o : ℕ) → lexings.Ends rule o → (o ≡ ended → ⊥) → Ends rule way o
  before_parsing : known rule ≡ true → way ≡ stop → Ends rule way not_parsed
  without_index : known rule ≡ true → Ends rule way no_buffer_room
  in_parsing : (o : ℕ) → known rule ≡ true → is_outcome o ≡ true → Ends rule way o

-- the numbers that this comes to: 0 to 8, 10, 11 and 13
abbrev pub is_final : ℕ → Bool
is_final o = leb o too_deep || (eqb o no_buffer_room || (eqb o not_parsed || eqb o wrong_rule))

-- what a reading comes to whose number names no rule, in tables t, e and n with the index x: nothing is kept, no look is made, and every word of the four is as it was
abbrev pub unruled : List ℕ → List ℕ → List ℕ → List ℕ → Reading
unruled t e n x = record { outcome = wrong_rule; token_count = 0; error_count = 0; node_count = 0; first = 0; looks = 0; tokens = t; errors = e; nodes = n; index = x }
