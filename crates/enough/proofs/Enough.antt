-- Room for n + 2 tokens, 2n + 3 errors and 2n + 2 nodes, with n + 2 words of index, is enough for every source of n bytes: no reading of one ends with 5, 6, 7 or 10, by any rule and on any way. Nor does one keep more, whatever the rooms. Assumes nothing.
use mathlib.Core.Path.{◌≡◌, refl, ap, subst, ◌∙◌}
use mathlib.Core.Bool.{true}
use mathlib.Core.List.{List}
use Prim.Native.Nat.{ℕ, ◌+◌, ◌*◌, ◌≤◌}
use native.Mathlib.Omega.{arith}
use lib.ListN.{length, drop}
use Rattle.records.specs.Table.{room, token_width, error_width, node_width, index_width}
use Rattle.records.proofs.Rooms.{room_length}
use Rattle.lexer.specs.Lex.{Result, lexed, lexed_of}
use Rattle.lexing.specs.Kept.{Ending, whole, short}
use Rattle.lexing.proofs.Kept.{lexed_keeps}
use Rattle.lexing.proofs.Ends.{lexing_ends, ends_cases}
use Rattle.lexing.proofs.Answer.{entry, token_count_lem, errors_within}
use Rattle.parser.specs.Tokens.{walked}
use Rattle.progress.proofs.Moves.{never}
use Rattle.parsing.specs.Ahead.{Agree, is_outcome}
use Rattle.parsing.proofs.Ahead.{parsed_outcome}
use Rattle.entry.specs.Entry.{over, nodes_after}
use Rattle.entry.specs.Reading.{reading}
use Rattle.whole.proofs.Sizes.{Well, well, over_keeps, over_agree, after_long}
use Rattle.whole.proofs.Ends.{by_end, index_only}
use Rattle.rooms.specs.Allowed.{errors, allowed}
use Rattle.rooms.proofs.Allowed.{allowed_on}
use Rattle.rooms.proofs.Most.{nodes_most, nodes_enough, errors_most, errors_enough}
use Rattle.enough.specs.Rooms.{tokens_for, errors_for, nodes_for, index_for}
use Rattle.enough.proofs.Lexing.{Left, lexed_left}

-- ---- what is lexed
-- where a lexing does not reach its end it keeps at most a token more than there are bytes
short_count : (n : ℕ) (r : Result) → Ending n r → (r.outcome ≡ 0 → ⊥) → r.token_count ≤ n + 1
short_count n r (whole ws m d o rows le eof is count) not = absurd (not o)
short_count n r (short ne rows le) not = le

lexed_short : (rule : ℕ) (s : List ℕ) (a b : ℕ) → ((lexed_of rule s a b).outcome ≡ 0 → ⊥) → (lexed_of rule s a b).token_count ≤ length s + 1
lexed_short rule s a b =
    entry (λ r. (r.outcome ≡ 0 → ⊥) → r.token_count ≤ length s + 1) rule s a b (λ o not. omega arith) (short_count (length s) (lexed rule s a b) (lexed_keeps rule s a b).ending)

-- no lexing ends with 7
lexed_not_7 : (rule : ℕ) (s : List ℕ) (a b : ℕ) → (lexed_of rule s a b).outcome ≡ 7 → ⊥
lexed_not_7 rule s a b =
    ends_cases rule (λ (o : ℕ). o ≡ 7 → ⊥) (λ h e. omega (arith, e))
    (λ h. (λ e. omega (arith, e), λ e. omega (arith, e), λ e. omega (arith, e), λ e. omega (arith, e), λ e. omega (arith, e))) (λ h i e. omega (arith, e)) _ (lexing_ends rule s a b)

module _ (rule way : ℕ) (s t e n x : List ℕ) where
  abbrev a : ℕ
  a = room token_width t

  abbrev b : ℕ
  b = room error_width e

  -- what is lexed, and what stands where it is parsed
  abbrev d : Result
  d = lexed_of rule s a b

  abbrev T : List ℕ
  T = over d.tokens t

  abbrev E : List ℕ
  E = over d.errors e

  abbrev N : List ℕ
  N = nodes_after d.outcome n

  -- ---- what is parsed
  w : Well d
  w = well rule s a b

  l : Left (length s) a b d
  l = lexed_left rule s a b

  -- its last token is EOF, and one of n + 2
  eof : d.outcome ≡ 0 → (m : ℕ) × Agree m (walked T) (walked T) × (d.token_count ≡ m + 1) × (m ≤ length s + 1)
  eof o =
      let z = w.eof o in
      let k = w.tokens_long ∙ ap (λ (c : ℕ). token_width * c) z.1 in
      let c = token_count_lem rule s a b in
      let q = z.1 in
      (z.0, over_agree d.tokens t t z.0 refl k z.2, q, omega arith)

  -- what is recorded before, and what the tokens before EOF allow
  errors_few : (m : ℕ) → d.token_count ≡ m + 1 → d.error_count + allowed errors T m ≤ 2 * length s + 2
  errors_few m q =
      let h = l.few (drop (length d.tokens) t) in
      let k = allowed_on errors T m d.token_count (omega arith) in
      omega arith

  -- the tables keep their rooms
  error_room_held : room error_width E ≡ b
  error_room_held = room_length error_width E e (over_keeps d.errors e (errors_within rule s e a))

  node_room : room node_width N ≡ room node_width n
  node_room = room_length node_width N n (after_long d.outcome n)

  -- ---- THE THEOREMS
  -- with room for n + 2 tokens no reading ends with 5
  pub reading_tokens_enough : tokens_for (length s) ≤ room token_width t → (reading rule way s t e n x).outcome ≡ 5 → ⊥
  reading_tokens_enough h =
      by_end rule way s t e n x (λ r. r.outcome ≡ 5 → ⊥) (λ w z o. omega (arith, o)) (λ z f o. omega (arith, o))
      (λ z o. let f = l.tokens_full o in let c = lexed_short rule s a b z in omega arith)
      λ z f o. never (subst (λ (j : ℕ). is_outcome j ≡ true) o (parsed_outcome T rule d.error_count E N))

  -- with room for 2n + 3 errors none ends with 6
  pub reading_errors_enough : errors_for (length s) ≤ room error_width e → (reading rule way s t e n x).outcome ≡ 6 → ⊥
  reading_errors_enough h =
      by_end rule way s t e n x (λ r. r.outcome ≡ 6 → ⊥) (λ w z o. omega (arith, o)) (λ z f o. omega (arith, o))
      (λ z o. let f = l.errors_full o in let c = l.few t in omega arith)
      λ z f.
      let m = eof z in
      let c = errors_few m.0 m.2 in
      let r = error_room_held in
      errors_enough rule (walked T) m.0 m.1 d.error_count E N (omega arith)

  -- with room for 2n + 2 nodes none ends with 7
  pub reading_nodes_enough : nodes_for (length s) ≤ room node_width n → (reading rule way s t e n x).outcome ≡ 7 → ⊥
  reading_nodes_enough h =
      by_end rule way s t e n x (λ r. r.outcome ≡ 7 → ⊥) (λ w z o. omega (arith, o)) (λ z f o. omega (arith, o)) (λ z. lexed_not_7 rule s a b)
      λ z f.
      let m = eof z in
      let c = m.3 in
      let r = node_room in
      nodes_enough rule (walked T) m.0 m.1 d.error_count E N (omega arith)

  -- and whatever the rooms, none keeps more
  pub reading_most : ((reading rule way s t e n x).token_count ≤ tokens_for (length s)) × ((reading rule way s t e n x).error_count ≤ errors_for (length s)) × ((reading rule way s t e n x).node_count ≤ nodes_for (length s))
  reading_most =
      let c = token_count_lem rule s a b in
      let few = l.few t in
      by_end rule way s t e n x (λ r. (r.token_count ≤ tokens_for (length s)) × (r.error_count ≤ errors_for (length s)) × (r.node_count ≤ nodes_for (length s)))
      (λ w z. (omega arith, omega arith, omega arith)) (λ z f. (omega arith, omega arith, omega arith)) (λ z. (omega arith, omega arith, omega arith))
      λ z f.
      let m = eof z in
      let i = m.3 in
      let k = errors_few m.0 m.2 in
      let g = errors_most rule (walked T) m.0 m.1 d.error_count E N in
      let h = nodes_most rule (walked T) m.0 m.1 d.error_count E N in
      (omega arith, omega arith, omega arith)

  -- so with n + 2 words of index none ends with 10
  pub reading_index_enough : index_for (length s) ≤ room index_width x → (reading rule way s t e n x).outcome ≡ 10 → ⊥
  reading_index_enough h o = let f = index_only rule way s t e n x o in let c = reading_most.0 in omega (arith, h, f, c)

  -- WITH ALL FOUR NO READING ENDS FOR WANT OF ROOM
  pub rooms_enough : tokens_for (length s) ≤ room token_width t → errors_for (length s) ≤ room error_width e → nodes_for (length s) ≤ room node_width n → index_for (length s) ≤ room index_width x
      → ((reading rule way s t e n x).outcome ≡ 5 → ⊥) × ((reading rule way s t e n x).outcome ≡ 6 → ⊥) × ((reading rule way s t e n x).outcome ≡ 7 → ⊥) × ((reading rule way s t e n x).outcome ≡ 10 → ⊥)
  rooms_enough f g h i = (reading_tokens_enough f, reading_errors_enough g, reading_nodes_enough h, reading_index_enough i)
