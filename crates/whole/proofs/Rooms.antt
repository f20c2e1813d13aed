-- The counts of a reading keep to the tables' rooms. Assumes nothing.
use mathlib.Core.Path.{◌≡◌, refl, sym, subst, ◌∙◌}
use mathlib.Core.Bool.{Bool, true, false}
use mathlib.Core.List.{List}
use Prim.Native.Nat.{ℕ, ◌≤◌}
use native.Mathlib.Omega.{arith}
use borrow.Author.Tests.{eqb-true}
use lib.Dec.{eqb}
use lib.ListN.{length}
use Rattle.records.specs.Table.{room, token_width, error_width, node_width, index_width}
use Rattle.records.proofs.Rooms.{room_length}
use Rattle.lexer.specs.Lex.{Result, lexed_of}
use Rattle.lexing.proofs.Kept.{lexed_keeps}
use Rattle.lexing.proofs.Answer.{entry, errors_within}
use Rattle.parser.specs.Tokens.{walked}
use Rattle.parser.specs.Whole.{parsed}
use Rattle.progress.proofs.Moves.{never}
use Rattle.parsing.proofs.Frame.{parsed_errors_kept, parsed_nodes_within}
use Rattle.entry.specs.Ways.{on_way}
use Rattle.entry.specs.Entry.{over, nodes_after, with_room, entered_after}
use Rattle.entry.specs.Reading.{read_by, read_after, reading}
use Rattle.entry.proofs.Ways.{on_fits}
use Rattle.whole.specs.Sizes.{Within}
use Rattle.whole.proofs.Sizes.{over_keeps, after_long, came_in}

-- of a lexing
pub lexed_rooms : (rule : ℕ) (s : List ℕ) (a b : ℕ) → ((lexed_of rule s a b).token_count ≤ a) × ((lexed_of rule s a b).error_count ≤ b)
lexed_rooms rule s a b =
    let k = lexed_keeps rule s a b in
    entry (λ r. (r.token_count ≤ a) × (r.error_count ≤ b)) rule s a b (λ o. (omega arith, omega arith)) (k.token_room_held, k.error_room_held)

module _ (rule : ℕ) (d : Result) (t e n x : List ℕ) (ht : d.token_count ≤ room token_width t) (he : d.error_count ≤ room error_width e) (hx : d.outcome ≡ 0 → d.token_count ≤ room index_width x) (el : length (over d.errors e) ≡ length e) where
  abbrev T : List ℕ
  T = over d.tokens t

  abbrev E : List ℕ
  E = over d.errors e

  abbrev N : List ℕ
  N = nodes_after d.outcome n

  after_rooms : Within t e n x (read_after rule (entered_after d t e n x))
  after_rooms = at (eqb d.outcome 0) refl
    where
      at : (b : Bool) → eqb d.outcome 0 ≡ b → Within t e n x (read_by b rule (entered_after d t e n x))
      at true h =
          let k = parsed_errors_kept rule (walked T) d.error_count E N in
          let r = parsed rule (walked T) d.error_count E N in
          let p : room error_width E ≡ room error_width e = room_length error_width E e el in
          let q : room error_width r.errors ≡ room error_width e = room_length error_width r.errors e (k.long ∙ el) in
          record {
            tokens_fit = ht;
            errors_fit = subst (λ (m : ℕ). r.error_count ≤ m) q (k.within (subst (λ (m : ℕ). d.error_count ≤ m) (sym p) he));
            nodes_fit = subst (λ (m : ℕ). r.node_count ≤ m) (room_length node_width N n (after_long d.outcome n)) (parsed_nodes_within rule (walked T) d.error_count E N);
            index_fits = λ c. hx (eqb-true d.outcome 0 h);
          }
      at false h = record { tokens_fit = ht; errors_fit = he; nodes_fit = omega arith; index_fits = λ c. never (sym (came_in rule (entered_after d t e n x) false h) ∙ c) }

-- the counts of a reading keep to the rooms
pub reading_rooms : (rule way : ℕ) (s t e n x : List ℕ) → Within t e n x (reading rule way s t e n x)
unfolding reading
reading_rooms rule way s t e n x =
    let a = room token_width t in
    let b = room error_width e in
    let k = room index_width x in
    let d = lexed_of rule s a b in
    let r = lexed_rooms rule s a b in
    after_rooms rule (with_room k (on_way way d)) t e n x r.0 r.1 (on_fits way k d) (over_keeps d.errors e (errors_within rule s e a))
