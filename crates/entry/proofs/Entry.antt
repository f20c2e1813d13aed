-- A lexing and what is done to the node table make the entry, as the code joins them. Assumes nothing.
use mathlib.Core.Path.{◌≡◌, refl, sym, ap, ◌∙◌}
use mathlib.Core.Bool.{Bool, true, false, not, cond, ◌&&◌, ◌||◌}
use mathlib.Core.List.{List}
use Prim.Native.Nat.{ℕ}
use lib.Dec.{leb, ltb, eqb}
use borrow.Author.Tests.{leb-true, leb-false, not-true, not-false, lt-ltb, le-ltb, eq-eqb, ne_eqb}
use Rattle.records.specs.Table.{room, zeroed, token_width, error_width, node_width, index_width}
use Rattle.lexer.specs.declared.Scanned.{Scanned}
use Rattle.lexer.specs.Lex.{lexed_of, Lexing}
use Rattle.lines.specs.Lines.{line_index, Indexed}
use Rattle.entry.specs.Ways.{outcome_on}
use Rattle.entry.specs.Entry.{Entered, unread, nodes_after, outcome_in, index_after, entered, Indexes, Enters}

-- the code asks whether an outcome is none of 0, 3, 4 and 13
abbrev other : ℕ → Bool
other o = ((not (eqb o 0) && not (eqb o 3)) && not (eqb o 4)) && not (eqb o 13)

is_other : (o : ℕ) → other o ≡ true → eqb o 0 || unread o ≡ false
is_other o = at (eqb o 0) (eqb o 3) (eqb o 4) (eqb o 13)
  where
    at : (a b c d : Bool) → ((not a && not b) && not c) && not d ≡ true → a || (b || (c || d)) ≡ false
    at true b c d h = sym h
    at false true c d h = sym h
    at false false true d h = sym h
    at false false false d h = not-true d h

is_kept : (o : ℕ) → other o ≡ false → eqb o 0 || unread o ≡ true
is_kept o = at (eqb o 0) (eqb o 3) (eqb o 4) (eqb o 13)
  where
    at : (a b c d : Bool) → ((not a && not b) && not c) && not d ≡ false → a || (b || (c || d)) ≡ true
    at true b c d h = refl
    at false true c d h = refl
    at false false true d h = refl
    at false false false d h = not-false d h

-- ---- whether the index has the room
module _ (t : List ℕ) (o n : ℕ) (x : List ℕ) where
  -- what is not to be parsed: its outcome stays, and so does the index
  pub not_asked : (o ≡ 0 → ⊥) → Indexes t o n x o x
  not_asked h =
      let e : eqb o 0 ≡ false = ne_eqb o 0 h in
      record { outcome_is = sym (ap (λ (b : Bool). cond (b && ltb (room index_width x) n) 10 o) e); index_is = sym (ap (λ (b : Bool). cond b (line_index t n x) x) e) }

  module _ (u : List ℕ) (b : Bool) (h : o ≡ 0) (l : Indexed t x n b u) where
    becomes : (c : Bool) → ltb (room index_width x) n ≡ c → outcome_in (room index_width x) o n ≡ cond c 10 0
    becomes c e =
        ap (λ (y : Bool). cond (eqb o 0 && y) 10 o) e
        ∙ ap (λ (y : Bool). cond (y && c) 10 o) (eq-eqb o 0 h)
        ∙ ap (λ (y : ℕ). cond c 10 y) h

    -- it has the room, and is written
    pub fits : b ≡ true → Indexes t o n x 0 u
    fits e =
        let f : leb n (room index_width x) ≡ true = sym l.answer ∙ e in
        record { outcome_is = sym (becomes false (le-ltb (room index_width x) n (leb-true n (room index_width x) f))); index_is = l.index ∙ ap (λ (y : Bool). cond y (line_index t n x) x) f }

    -- it has too little, and is as it was
    pub lacks : b ≡ false → Indexes t o n x 10 u
    lacks e =
        let f : leb n (room index_width x) ≡ false = sym l.answer ∙ e in
        record { outcome_is = sym (becomes true (lt-ltb (room index_width x) n (leb-false n (room index_width x) f))); index_is = l.index ∙ ap (λ (y : Bool). cond y (line_index t n x) x) f }

-- ---- the step
module _ (rule way : ℕ) (s t e n x T E X : List ℕ) (d : Scanned) (l : Lexing (lexed_of rule s (room token_width t) (room error_width e)) d t T e E) (m o : ℕ) (is : m ≡ outcome_on way d.outcome d.errors) (w : Indexes T m d.tokens x o X) where
  -- lexing's answer, with the outcome that its own becomes on the way and with the index
  abbrev answer : Scanned
  answer = record { outcome = o; tokens = d.tokens; errors = d.errors }

  outcome_is : o ≡ (entered rule way s t e n x).outcome
  outcome_is = w.outcome_is ∙ λ i. outcome_in (room index_width x) ((is ∙ λ j. outcome_on way (l.outcome_is j) (l.errors_are j)) i) (l.tokens_are i)

  -- with the node table that the outcome asks for
  stands : (N : List ℕ) → N ≡ nodes_after o n → Enters (entered rule way s t e n x) answer T E N X
  stands N h =
      record {
        outcome_is = outcome_is;
        tokens_are = l.tokens_are;
        errors_are = l.errors_are;
        token_table = l.token_table;
        error_table_lem = l.error_table_lem;
        node_table = h ∙ ap (λ (y : ℕ). nodes_after y n) outcome_is;
        index_table = w.index_is ∙ λ i. index_after (outcome_is i) (l.token_table i) (l.tokens_are i) x;
      }

  -- the node table is as it was
  pub leaves : other o ≡ false → Enters (entered rule way s t e n x) answer T E n X
  leaves u = stands n (ap (λ (b : Bool). cond b n (zeroed node_width n 0)) (sym (is_kept o u)))

  -- it is all zeros
  pub clears : (N : List ℕ) → other o ≡ true → N ≡ zeroed node_width n 0 → Enters (entered rule way s t e n x) answer T E N X
  clears N u h = stands N (h ∙ ap (λ (b : Bool). cond b n (zeroed node_width n 0)) (sym (is_other o u)))

-- ---- what the code has stands
abbrev pub standing : Scanned → List ℕ → List ℕ → List ℕ → List ℕ → Entered
standing d T E N X = record { outcome = d.outcome; token_count = d.tokens; error_count = d.errors; tokens = T; errors = E; nodes = N; index = X }

pub stands_as_lem : (x : Entered) (d : Scanned) (T E N X : List ℕ) → Enters x d T E N X → standing d T E N X ≡ x
stands_as_lem x d T E N X l = λ i. record { outcome = l.outcome_is i; token_count = l.tokens_are i; error_count = l.errors_are i; tokens = l.token_table i; errors = l.error_table_lem i; nodes = l.node_table i; index = l.index_table i }
