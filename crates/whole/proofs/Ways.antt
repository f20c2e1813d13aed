-- The two ways of a reading are equal, word for word, but where lexing reached its end and recorded an error: there the new way ends with 11, and keeps what
-- was lexed. Assumes nothing.
use mathlib.Core.Path.{◌≡◌, refl, sym, ap, ◌∙◌}
use mathlib.Core.Bool.{Bool, true, false, cond, ◌&&◌}
use mathlib.Core.List.{List}
use Prim.Native.Nat.{ℕ}
use native.Mathlib.Omega.{arith}
use borrow.Author.Tests.{eqb-true, eq-eqb, ne_eqb, ltb-true, lt-ltb, le-ltb}
use lib.Dec.{eqb, ltb}
use Rattle.records.specs.Table.{room, token_width, error_width, index_width}
use Rattle.lexer.specs.Lex.{Result, lexed_of}
use Rattle.entry.specs.Ways.{stop, go_on, ended_wrong, with_outcome}
use Rattle.entry.specs.Entry.{outcome_in, with_room, entered_after, entered}
use Rattle.entry.specs.Reading.{Reading, pick_reading, read_after, reading}
use Rattle.whole.specs.Ways.{Stops, unparsed}
use Rattle.whole.proofs.Ends.{ends_new, reading_ends}

module _ (rule : ℕ) (s t e n x : List ℕ) where
  -- what is lexed
  abbrev d : Result
  d = lexed_of rule s (room token_width t) (room error_width e)

  -- whether the new way stops there
  abbrev test : Bool
  test = ended_wrong d.outcome d.error_count

  -- the reading, where the outcome that its lexing came to is 11 if b holds
  abbrev by : Bool → Reading
  by b = read_after rule (entered_after (with_room (room index_width x) (with_outcome (cond b 11 d.outcome) d)) t e n x)

  -- any way, by whether it stops
  on_way_lem : (way : ℕ) (b : Bool) → eqb way stop && test ≡ b → reading rule way s t e n x ≡ by b
  unfolding reading
  on_way_lem way b h = ap by h

  -- THE NEW WAY, FROM THE OLD: it ends with 11 and what was lexed, or is the old way
  pub new_from_old : reading rule stop s t e n x ≡ pick_reading test (λ _. unparsed d t e n x) λ _. reading rule go_on s t e n x
  unfolding reading
  new_from_old = at test
    where
      at : (b : Bool) → by b ≡ pick_reading b (λ _. unparsed d t e n x) λ _. reading rule go_on s t e n x
      at true = refl
      at false = refl

  -- where no error was recorded in lexing, all ways are equal
  pub without_errors : (way v : ℕ) → d.error_count ≡ 0 → reading rule way s t e n x ≡ reading rule v s t e n x
  without_errors way v z = on_way_lem way false (never way) ∙ sym (on_way_lem v false (never v))
    where
      and_false : (x y : Bool) → x && (y && false) ≡ false
      and_false true true = refl
      and_false true false = refl
      and_false false y = refl

      never : (way : ℕ) → eqb way stop && test ≡ false
      never way = ap (λ (b : Bool). eqb way stop && (eqb d.outcome 0 && b)) (le-ltb 0 d.error_count (omega (arith, z))) ∙ and_false (eqb way stop) (eqb d.outcome 0)

  -- all ways but 0 are the old one
  pub old_ways : (way : ℕ) → (way ≡ stop → ⊥) → reading rule way s t e n x ≡ reading rule go_on s t e n x
  old_ways way z = on_way_lem way false (ap (λ (b : Bool). b && test) (ne_eqb way stop z)) ∙ sym (on_way_lem go_on false refl)

  -- where a reading has to stop, the test holds
  holds : (way : ℕ) → Stops way d → eqb way stop && test ≡ true
  holds way h = λ i. eq-eqb way stop h.new i && (eq-eqb d.outcome 0 h.lexed i && lt-ltb 0 d.error_count h.wrong i)

  -- such a reading enters no parsing
  pub entered_stops : (way : ℕ) → Stops way d → (entered rule way s t e n x).outcome ≡ 11
  entered_stops way h = ap (λ (b : Bool). outcome_in (room index_width x) (cond b 11 d.outcome) d.token_count) (holds way h)

  -- it ends with 11, and keeps what was lexed
  pub stops_so : (way : ℕ) → Stops way d → reading rule way s t e n x ≡ unparsed d t e n x
  stops_so way h = on_way_lem way true (holds way h)

  -- no other ends with 11
  pub stops_only : (way : ℕ) → (reading rule way s t e n x).outcome ≡ 11 → Stops way d
  stops_only way h = at (eqb way stop) refl (eqb d.outcome 0) refl (ltb 0 d.error_count) refl
    where
      -- the old way doesn't
      goes : eqb way stop && test ≡ false → ⊥
      goes f =
          let a : (reading rule go_on s t e n x).outcome ≡ 11 = ap (λ (r : Reading). r.outcome) (on_way_lem go_on false refl ∙ sym (on_way_lem way false f)) ∙ h in
          let b : go_on ≡ stop = ends_new rule go_on _ (reading_ends rule go_on s t e n x) a in
          omega (arith, b)

      at : (b : Bool) → eqb way stop ≡ b → (y : Bool) → eqb d.outcome 0 ≡ y → (z : Bool) → ltb 0 d.error_count ≡ z → Stops way d
      at true p true q true r = record { new = eqb-true way stop p; lexed = eqb-true d.outcome 0 q; wrong = ltb-true 0 d.error_count r }
      at true p true q false r = absurd (goes (λ i. p i && (q i && r i)))
      at true p false q z r = absurd (goes (λ i. p i && (q i && ltb 0 d.error_count)))
      at false p y q z r = absurd (goes (λ i. p i && test))
