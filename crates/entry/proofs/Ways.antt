-- What the outcome of a lexing on a way, and with an index, says of the lexing's own. Assumes nothing.
use mathlib.Core.Path.{◌≡◌, refl, sym, ap, ◌∙◌}
use mathlib.Core.Bool.{Bool, true, false, cond, ◌&&◌}
use Prim.Native.Nat.{ℕ, ◌≤◌}
use borrow.Author.Tests.{eqb-false, ltb-false, eq-eqb}
use lib.Dec.{eqb, ltb}
use Rattle.lexer.specs.Lex.{Result}
use Rattle.entry.specs.Ways.{stop, ended_wrong, on_way}
use Rattle.entry.specs.Entry.{unread, with_room}

-- a test may make another outcome of one: k, with which no reading goes on, and none is refused unread
module _ (k outcome : ℕ) (some : eqb k 0 ≡ false) (read : unread k ≡ false) where
  ended_was : (b : Bool) → cond b k outcome ≡ 0 → outcome ≡ 0
  ended_was true h = absurd (eqb-false k 0 some h)
  ended_was false h = h

  unread_was : (b : Bool) → unread (cond b k outcome) ≡ true → unread outcome ≡ true
  unread_was true h = let z : true ≡ false = sym h ∙ read in cc
  unread_was false h = h

  read_stays : (b : Bool) → unread outcome ≡ false → unread (cond b k outcome) ≡ false
  read_stays true h = read
  read_stays false h = h

-- on a way, with an index that has room for r tokens
module _ (way r : ℕ) (d : Result) where
  -- whether the new way stops
  abbrev test : Bool
  test = eqb way stop && ended_wrong d.outcome d.error_count

  -- what becomes of lexing's outcome on the way
  abbrev o : ℕ
  o = (on_way way d).outcome

  -- whether the index has too little room
  abbrev lacks : Bool
  lacks = eqb o 0 && ltb r d.token_count

  -- parsing comes only where lexing reached its end
  pub on_ended : (with_room r (on_way way d)).outcome ≡ 0 → d.outcome ≡ 0
  on_ended h = ended_was 11 d.outcome refl refl test (ended_was 10 o refl refl lacks h)

  -- and where the index has room for its tokens
  pub on_fits : (with_room r (on_way way d)).outcome ≡ 0 → d.token_count ≤ r
  on_fits h = at (ltb r d.token_count) refl
    where
      at : (b : Bool) → ltb r d.token_count ≡ b → d.token_count ≤ r
      at true e =
          let z : lacks ≡ true = λ i. eq-eqb o 0 (ended_was 10 o refl refl lacks h) i && e i in
          absurd (eqb-false 10 0 refl (ap (λ (b : Bool). cond b 10 o) (sym z) ∙ h))
      at false e = ltb-false r d.token_count e

  -- what is refused unread was refused by lexing
  pub on_unread : unread (with_room r (on_way way d)).outcome ≡ true → unread d.outcome ≡ true
  on_unread h = unread_was 11 d.outcome refl refl test (unread_was 10 o refl refl lacks h)

  -- what lexing does not refuse is not refused unread
  pub on_read : unread d.outcome ≡ false → unread (with_room r (on_way way d)).outcome ≡ false
  on_read h = read_stays 10 o refl refl lacks (read_stays 11 d.outcome refl refl test h)
