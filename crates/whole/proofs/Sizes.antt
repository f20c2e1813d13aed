-- The whole reading depends on the sizes of the tables and not on what they hold; what it does not keep it leaves as it was. Assumes nothing.
use mathlib.Core.Path.{◌≡◌, refl, sym, ap, subst, ◌∙◌}
use mathlib.Core.Bool.{Bool, true, false, cond, ◌||◌}
use mathlib.Core.List.{List, [], ◌++◌}
use mathlib.Core.Logic.{⊎_elim}
use Prim.Native.Nat.{ℕ, ◌+◌, ◌-◌, ◌*◌, ◌≤◌, ◌<◌}
use native.Mathlib.Omega.{arith}
use borrow.Author.Tests.{eqb-true, eqb-false, eq-eqb, lt-ltb, le-ltb}
use lib.Dec.{eqb, ltb}
use lib.ListN.{length, get_or, take, drop, replicate, length-append, length-drop, get_or-append}
use lib.Seq.{take-append_seam, drop-append-add, drop-drop, get_or-append-add}
use Rattle.text.specs.Text.{is_text}
use Rattle.rules.specs.Rules.{known}
use Rattle.records.specs.Table.{room, field, zeroed, token_width, error_width, node_width, index_width}
use Rattle.records.specs.Words.{token_words, error_words}
use Rattle.records.proofs.Rooms.{room_length, lt_or_le}
use Rattle.records.proofs.Field.{field_room, field_none, field_same}
use Rattle.records.proofs.Rest.{zeroed_length}
use Rattle.records.proofs.Rows.{rows_length}
use Rattle.lexer.specs.Lex.{Result, refusal, lexed, lexed_of}
use Rattle.lexing.specs.Ends.{Lexed, ended, cut, token_room_held, error_room_held}
use Rattle.lexing.proofs.Ends.{lexed_ends}
use Rattle.lexing.specs.Kept.{Good, Placed, Ending, whole, short}
use Rattle.lexing.proofs.Kept.{lexed_keeps}
use Rattle.lexing.proofs.Answer.{tests, tokens_within, errors_within}
use Rattle.parser.specs.Tokens.{kind_at, start_at, line_at, walked}
use Rattle.parser.specs.Whole.{Parsed, parsed}
use Rattle.progress.proofs.Moves.{never}
use Rattle.parsing.specs.Ahead.{Agree, is_outcome}
use Rattle.parsing.proofs.Sizes.{SameParsed, parsed_sizes}
use Rattle.parsing.proofs.Frame.{zeroed_rest, parsed_errors_kept, parsed_nodes_zero, parsed_nodes_long}
use Rattle.parsing.proofs.Ahead.{agree_walked, parsed_tokens, parsed_outcome}
use Rattle.looks.proofs.Uncut.{looks_some}
use Rattle.lines.specs.Lines.{line_words, line_index}
use Rattle.lines.proofs.Words.{words_length, words_same}
use Rattle.entry.specs.Ways.{on_way}
use Rattle.entry.specs.Entry.{Entered, over, unread, nodes_after, with_room, index_after, entered_after, entered}
use Rattle.entry.specs.Reading.{read_by, read_after, reading}
use Rattle.entry.proofs.Ways.{on_ended, on_fits, on_unread, on_read}
use Rattle.whole.specs.Sizes.{came, SameReading, Rest}

-- ---- a lexing of text that is not too long, by a rule that is known, does not end with 3, 4 or 13
lexed_read : (rule o : ℕ) → Lexed rule o → unread o ≡ false
lexed_read rule _ ended = refl
lexed_read rule _ (cut h) = refl
lexed_read rule _ token_room_held = refl
lexed_read rule _ error_room_held = refl

-- ---- what is lexed
-- whole records; where the end is reached the last token is EOF; and after 3, 4 and 13 none
pub record Well (r : Result) : Type 0 where
  pub tokens_long : length r.tokens ≡ token_width * r.token_count
  pub errors_long : length r.errors ≡ error_width * r.error_count
  pub eof : r.outcome ≡ 0 → (m : ℕ) × (r.token_count ≡ m + 1) × (get_or r.tokens (token_width * m + 0) 0 ≡ 0)
  pub nothing : unread r.outcome ≡ true → (r.tokens ≡ []) × (r.errors ≡ [])

well_lexed : (n : ℕ) (r : Result) → unread r.outcome ≡ false → length r.errors ≡ error_width * r.error_count → Ending n r → Well r
well_lexed n r u e (whole ws m d o rows le eof is count) =
    let a : length ws ≡ token_width * m = rows_length token_words (Good n) token_width (λ d. refl) ws m rows in
    record {
      tokens_long = ap length is ∙ length-append ws (token_words d) ∙ omega arith;
      errors_long = e;
      eof = λ z. (m, count, ap (λ (l : List ℕ). get_or l (token_width * m + 0) 0) is ∙ ap (λ (k : ℕ). get_or (ws ++ token_words d) (k + 0) 0) (sym a) ∙ get_or-append-add ws (token_words d) 0 0 ∙ eof.kind_is);
      nothing = λ z. never (sym u ∙ z);
    }
well_lexed n r u e (short ne rows le) =
    record {
      tokens_long = rows_length token_words (Good n) token_width (λ d. refl) r.tokens r.token_count rows;
      errors_long = e;
      eof = λ z. absurd (ne z);
      nothing = λ z. never (sym u ∙ z);
    }

well_refusal : (o : ℕ) → (o ≡ 0 → ⊥) → Well (refusal o)
well_refusal o h = record { tokens_long = refl; errors_long = refl; eof = λ z. absurd (h z); nothing = λ z. (refl, refl) }

pub well : (rule : ℕ) (s : List ℕ) (a b : ℕ) → Well (lexed_of rule s a b)
well rule s a b =
    let k = lexed_keeps rule s a b in
    let r = lexed rule s a b in
    tests Well rule s a b (well_refusal 13 λ z. omega arith) (well_refusal 4 λ z. omega arith) (well_refusal 3 λ z. omega arith)
    (well_lexed (length s) r (lexed_read rule _ (lexed_ends rule s a b)) (rows_length error_words (Placed (length s)) error_width (λ d. refl) r.errors r.error_count k.errors) k.ending)

-- and so on every way, with an index that has room for any number of tokens
pub well_on : (rule way k : ℕ) (s : List ℕ) (a b : ℕ) → Well (with_room k (on_way way (lexed_of rule s a b)))
well_on rule way k s a b =
    let r = lexed_of rule s a b in
    let w = well rule s a b in
    record {
      tokens_long = w.tokens_long;
      errors_long = w.errors_long;
      eof = λ z. w.eof (on_ended way k r z);
      nothing = λ u. w.nothing (on_unread way k r u);
    }

-- ---- a table whose front is rewritten
over_long : (ws t t' : List ℕ) → length t ≡ length t' → length (over ws t) ≡ length (over ws t')
over_long ws t t' l = simp (length-append, length-drop, l)

pub over_keeps : (ws t : List ℕ) → length ws ≤ length t → length (over ws t) ≡ length t
over_keeps ws t h = let a = length-append ws (drop (length ws) t) in let b = length-drop (length ws) t in omega arith

over_take : (w : ℕ) (ws t : List ℕ) → length ws ≡ w → take w (over ws t) ≡ ws
over_take w ws t e = rw (← e) (take-append_seam ws (drop (length ws) t))

over_drop : (w : ℕ) (ws t : List ℕ) → length ws ≤ w → drop w (over ws t) ≡ drop w t
over_drop w ws t h =
    let m = w - length ws in
    let e : w ≡ length ws + m = omega arith in
    ap (λ (k : ℕ). drop k (over ws t)) e ∙ drop-append-add ws (drop (length ws) t) m ∙ drop-drop m (length ws) t ∙ ap (λ (k : ℕ). drop k t) (sym e)

-- record i of the front is the same in both
over_field : (k : ℕ) (ws t t' : List ℕ) (n i : ℕ) → length t ≡ length t' → length ws ≡ token_width * n → i < n → k < token_width → field token_width k (over ws t) i ≡ field token_width k (over ws t') i
over_field k ws t t' n i l e h b =
    field_same token_width k (over ws t) (over ws t') i (over_long ws t t' l)
    (get_or-append ws (drop (length ws) t) 0 (token_width * i + k) (omega arith) ∙ sym (get_or-append ws (drop (length ws) t') 0 (token_width * i + k) (omega arith)))

-- the words of the token tables after EOF don't count
pub over_agree : (ws t t' : List ℕ) (m : ℕ) → length t ≡ length t' → length ws ≡ token_width * (m + 1) → get_or ws (token_width * m + 0) 0 ≡ 0 → Agree m (walked (over ws t)) (walked (over ws t'))
unfolding kind_at start_at line_at
over_agree ws t t' m l e z =
    agree_walked (over ws t) (over ws t') m (room_length token_width (over ws t) (over ws t') (over_long ws t t' l))
    (⊎_elim (λ h. field_room token_width 0 (over ws t) m h ∙ get_or-append ws (drop (length ws) t) 0 (token_width * m + 0) (omega arith) ∙ z) (λ h. field_none token_width 0 (over ws t) m h) (lt_or_le m (room token_width (over ws t))))
    (λ i h. over_field 0 ws t t' (m + 1) i l e (omega arith) (omega arith))
    (λ i h. over_field 1 ws t t' (m + 1) i l e (omega arith) (omega arith))
    (λ i h. over_field 3 ws t t' (m + 1) i l e (omega arith) (omega arith))

zeroed_sizes : (n n' : List ℕ) → length n ≡ length n' → zeroed node_width n 0 ≡ zeroed node_width n' 0
unfolding zeroed
zeroed_sizes n n' l = ap (λ (m : ℕ). replicate (m - 0) 0) l

-- ---- the node table that the entry leaves
pub after_long : (o : ℕ) (n : List ℕ) → length (nodes_after o n) ≡ length n
after_long o n = at (eqb o 0 || unread o)
  where
    at : (b : Bool) → length (cond b n (zeroed node_width n 0)) ≡ length n
    at true = refl
    at false = zeroed_length node_width n 0

-- after 3, 4 and 13 it is as it was
after_unread : (o : ℕ) (n : List ℕ) → unread o ≡ true → nodes_after o n ≡ n
after_unread o n u = ap (λ (b : Bool). cond (eqb o 0 || b) n (zeroed node_width n 0)) u ∙ at (eqb o 0)
  where
    at : (b : Bool) → cond (b || true) n (zeroed node_width n 0) ≡ n
    at true = refl
    at false = refl

-- after the others that end the reading nothing of it is left
after_zero : (o : ℕ) (n : List ℕ) → eqb o 0 ≡ false → unread o ≡ false → nodes_after o n ≡ zeroed node_width n 0
after_zero o n z u = ap (λ (b : Bool). cond (b || unread o) n (zeroed node_width n 0)) z ∙ ap (λ (b : Bool). cond b n (zeroed node_width n 0)) u

-- ---- the index that the entry leaves
-- written, its front is rewritten
index_over : (t : List ℕ) (n : ℕ) (x : List ℕ) → line_index t n x ≡ over (line_words t 0 n) x
unfolding line_index
index_over t n x = ap (λ (k : ℕ). line_words t 0 n ++ drop k x) (sym (words_length t 0 n))

-- it is, where parsing comes; else it is as it was
pub index_came : (o : ℕ) (t : List ℕ) (n : ℕ) (x : List ℕ) → o ≡ 0 → index_after o t n x ≡ over (line_words t 0 n) x
index_came o t n x z = ap (λ (b : Bool). cond b (line_index t n x) x) (eq-eqb o 0 z) ∙ index_over t n x

pub index_none : (o : ℕ) (t : List ℕ) (n : ℕ) (x : List ℕ) → eqb o 0 ≡ false → index_after o t n x ≡ x
index_none o t n x z = ap (λ (b : Bool). cond b (line_index t n x) x) z

-- its first n words, where it is written
index_take : (t : List ℕ) (n : ℕ) (x : List ℕ) → take n (over (line_words t 0 n) x) ≡ line_words t 0 n
index_take t n x = over_take n (line_words t 0 n) x (words_length t 0 n)

-- ---- whether parsing came, by the answer
pub came_in : (rule : ℕ) (d : Entered) (b : Bool) → eqb d.outcome 0 ≡ b → came (read_by b rule d) ≡ b
came_in rule d true h = at (eqb p.outcome 0) refl
  where
    p : Parsed
    p = parsed rule (walked d.tokens) d.error_count d.errors d.nodes

    at : (c : Bool) → eqb p.outcome 0 ≡ c → c || ltb 0 p.looks ≡ true
    at true q = refl
    at false q = lt-ltb 0 p.looks (looks_some rule (walked d.tokens) d.error_count d.errors d.nodes (eqb-false p.outcome 0 q))
came_in rule d false h = ap (λ (b : Bool). b || false) h

-- it came exactly where what was lexed is to be parsed
pub reading_came : (rule way : ℕ) (s t e n x : List ℕ) → came (reading rule way s t e n x) ≡ eqb (entered rule way s t e n x).outcome 0
unfolding reading
reading_came rule way s t e n x = came_in rule (entered rule way s t e n x) (eqb (entered rule way s t e n x).outcome 0) refl

stands_in : (rule : ℕ) (d : Entered) (x : List ℕ) → d.index ≡ index_after d.outcome d.tokens d.token_count x → (b : Bool) → eqb d.outcome 0 ≡ b
    → (read_by b rule d).index ≡ cond b (line_index (read_by b rule d).tokens (read_by b rule d).token_count x) x
stands_in rule d x i true h = i ∙ ap (λ (c : Bool). cond c (line_index d.tokens d.token_count x) x) h
stands_in rule d x i false h = i ∙ ap (λ (c : Bool). cond c (line_index d.tokens d.token_count x) x) h

-- THE INDEX STANDS WHERE PARSING CAME, whatever came of it, and else is as it was
pub index_stands : (rule way : ℕ) (s t e n x : List ℕ) → let r = reading rule way s t e n x in r.index ≡ cond (came r) (line_index r.tokens r.token_count x) x
unfolding reading
index_stands rule way s t e n x =
    let d = entered rule way s t e n x in
    let r = reading rule way s t e n x in
    stands_in rule d x refl (eqb d.outcome 0) refl ∙ ap (λ (b : Bool). cond b (line_index r.tokens r.token_count x) x) (sym (reading_came rule way s t e n x))

-- ---- the theorems
module _ (rule : ℕ) (d : Result) (w : Well d) (t e n x t' e' n' x' : List ℕ) (tl : length t ≡ length t') (el : length e ≡ length e') (nl : length n ≡ length n') where
  abbrev U : List ℕ
  U = over d.tokens t

  abbrev U' : List ℕ
  U' = over d.tokens t'

  -- where parsing comes the tokens agree up to the last
  agree : d.outcome ≡ 0 → (m : ℕ) × (d.token_count ≡ m + 1) × Agree m (walked U) (walked U')
  agree z =
      let y = w.eof z in
      (y.0, y.1, over_agree d.tokens t t' y.0 tl (w.tokens_long ∙ ap (λ (k : ℕ). token_width * k) y.1) y.2)

  joined_sizes : d.outcome ≡ 0
      → SameParsed (parsed rule (walked U) d.error_count (over d.errors e) (nodes_after d.outcome n)) (parsed rule (walked U') d.error_count (over d.errors e') (nodes_after d.outcome n'))
  joined_sizes z =
      let c = d.error_count in
      let E = over d.errors e in
      let E' = over d.errors e' in
      let N = nodes_after d.outcome n in
      let N' = nodes_after d.outcome n' in
      let a = agree z in
      subst (λ (r : Parsed). SameParsed (parsed rule (walked U) c E N) r) (parsed_tokens (walked U) (walked U') a.0 a.2 rule c E' N')
      (parsed_sizes rule (walked U) c E N E' N' (over_long d.errors e e' el) (after_long d.outcome n ∙ nl ∙ sym (after_long d.outcome n')) (over_take (error_width * c) d.errors e w.errors_long ∙ sym (over_take (error_width * c) d.errors e' w.errors_long)))

  tokens_same : take (token_width * d.token_count) U ≡ take (token_width * d.token_count) U'
  tokens_same = over_take (token_width * d.token_count) d.tokens t w.tokens_long ∙ sym (over_take (token_width * d.token_count) d.tokens t' w.tokens_long)

  errors_same : take (error_width * d.error_count) (over d.errors e) ≡ take (error_width * d.error_count) (over d.errors e')
  errors_same = over_take (error_width * d.error_count) d.errors e w.errors_long ∙ sym (over_take (error_width * d.error_count) d.errors e' w.errors_long)

  -- the index tells only of kinds
  index_same : d.outcome ≡ 0 → take d.token_count (index_after d.outcome U d.token_count x) ≡ take d.token_count (index_after d.outcome U' d.token_count x')
  index_same z =
      let c = d.token_count in
      let a = agree z in
      let q : c ≡ a.0 + 1 = a.1 in
      ap (take c) (index_came d.outcome U c x z)
      ∙ index_take U c x
      ∙ words_same U U' 0 c (λ j g h. a.2.kinds j (omega (arith, h, q)))
      ∙ sym (index_take U' c x')
      ∙ sym (ap (take c) (index_came d.outcome U' c x' z))

  after_sizes : SameReading (read_after rule (entered_after d t e n x)) (read_after rule (entered_after d t' e' n' x'))
  after_sizes = at (eqb d.outcome 0) refl
    where
      at : (b : Bool) → eqb d.outcome 0 ≡ b
          → SameReading
          (read_by b rule (entered_after d t e n x))
          (read_by b rule (entered_after d t' e' n' x'))
      at true p =
          let z = eqb-true d.outcome 0 p in
          let h = joined_sizes z in
          record { outcome = h.outcome; token_count = refl; error_count = h.error_count; node_count = h.node_count; first = h.first; looks = h.looks; tokens_kept = tokens_same; errors_kept = h.errors_same; nodes = λ u. h.nodes; index_kept = λ c. index_same z }
      at false p =
          record {
            outcome = refl;
            token_count = refl;
            error_count = refl;
            node_count = refl;
            first = refl;
            looks = refl;
            tokens_kept = tokens_same;
            errors_kept = errors_same;
            nodes = λ u. after_zero d.outcome n p u ∙ zeroed_sizes n n' nl ∙ sym (after_zero d.outcome n' p u);
            index_kept = λ c. never (sym (came_in rule (entered_after d t e n x) false p) ∙ c);
          }

-- two readings of one source, by the same rule and on the same way, into tables of the same sizes, and so the index, give the same answer and keep the same words
pub reading_sizes : (rule way : ℕ) (s t e n x t' e' n' x' : List ℕ) → length t ≡ length t' → length e ≡ length e' → length n ≡ length n' → length x ≡ length x' → SameReading (reading rule way s t e n x) (reading rule way s t' e' n' x')
unfolding reading
reading_sizes rule way s t e n x t' e' n' x' tl el nl xl =
    let k = room index_width x in
    let d = lexed_of rule s (room token_width t) (room error_width e) in
    let b : d ≡ lexed_of rule s (room token_width t') (room error_width e') = ap (λ (k : ℕ). lexed_of rule s k (room error_width e)) (room_length token_width t t' tl) ∙ ap (lexed_of rule s (room token_width t')) (room_length error_width e e' el) in
    let c : with_room k (on_way way d) ≡ with_room (room index_width x') (on_way way (lexed_of rule s (room token_width t') (room error_width e'))) = λ i. with_room (room_length index_width x x' xl i) (on_way way (b i)) in
    subst (λ (r : Result). SameReading (read_after rule (entered_after (with_room k (on_way way d)) t e n x)) (read_after rule (entered_after r t' e' n' x'))) c
    (after_sizes rule (with_room k (on_way way d)) (well_on rule way k s (room token_width t) (room error_width e)) t e n x t' e' n' x' tl el nl)

-- parsing does not end with 3, 4 or 13
outcome_read : {A : Type 0} (o : ℕ) → is_outcome o ≡ true → unread o ≡ true → A
outcome_read o h = at (eqb o 3) refl (eqb o 4) refl (eqb o 13) refl
  where
    not_so : {A : Type 0} (k : ℕ) → eqb o k ≡ true → is_outcome k ≡ false → A
    not_so k p f = never (sym f ∙ subst (λ (j : ℕ). is_outcome j ≡ true) (eqb-true o k p) h)

    at : {A : Type 0} (x : Bool) → eqb o 3 ≡ x → (y : Bool) → eqb o 4 ≡ y → (z : Bool) → eqb o 13 ≡ z → x || (y || z) ≡ true → A
    at true p y q z r u = not_so 3 p refl
    at false p true q z r u = not_so 4 q refl
    at false p false q true r u = not_so 13 r refl
    at false p false q false r u = never u

module _ (rule : ℕ) (d : Result) (w : Well d) (t e n x : List ℕ) (tf : length d.tokens ≤ length t) (ef : length d.errors ≤ length e) (xf : d.outcome ≡ 0 → d.token_count ≤ length x) where
  abbrev T : List ℕ
  T = over d.tokens t

  abbrev E : List ℕ
  E = over d.errors e

  tokens_rest : drop (token_width * d.token_count) T ≡ drop (token_width * d.token_count) t
  tokens_rest = over_drop (token_width * d.token_count) d.tokens t (let a = w.tokens_long in omega arith)

  errors_rest : (c : ℕ) → d.error_count ≤ c → drop (error_width * c) E ≡ drop (error_width * c) e
  errors_rest c h = over_drop (error_width * c) d.errors e (let a = w.errors_long in omega arith)

  after_rest : Rest t e n x (read_after rule (entered_after d t e n x))
  after_rest = at (eqb d.outcome 0) refl
    where
      N : List ℕ
      N = nodes_after d.outcome n

      X : List ℕ
      X = line_words T 0 d.token_count

      at : (b : Bool) → eqb d.outcome 0 ≡ b → Rest t e n x (read_by b rule (entered_after d t e n x))
      at true p =
          let k = parsed_errors_kept rule (walked T) d.error_count E N in
          let r = parsed rule (walked T) d.error_count E N in
          let z = eqb-true d.outcome 0 p in
          let i = index_came d.outcome T d.token_count x z in
          let c : length X ≡ d.token_count = words_length T 0 d.token_count in
          let f = xf z in
          record {
            tokens_long = over_keeps d.tokens t tf;
            errors_long = k.long ∙ over_keeps d.errors e ef;
            nodes_long = parsed_nodes_long rule (walked T) d.error_count E N ∙ after_long d.outcome n;
            index_long = ap length i ∙ over_keeps X x (omega (arith, c, f));
            tokens_rest = tokens_rest;
            errors_rest = k.rest ∙ errors_rest r.error_count k.more;
            index_rest = ap (drop d.token_count) i ∙ over_drop d.token_count X x (omega (arith, c));
            index_unchanged = λ c. never (sym c ∙ came_in rule (entered_after d t e n x) true p);
            nodes_zero = λ u. parsed_nodes_zero rule (walked T) d.error_count E N;
            unchanged = outcome_read r.outcome (parsed_outcome T rule d.error_count E N);
          }
      at false p =
          let i = index_none d.outcome T d.token_count x p in
          record {
            tokens_long = over_keeps d.tokens t tf;
            errors_long = over_keeps d.errors e ef;
            nodes_long = after_long d.outcome n;
            index_long = ap length i;
            tokens_rest = tokens_rest;
            errors_rest = errors_rest d.error_count (omega arith);
            index_rest = ap (drop d.token_count) i;
            index_unchanged = λ c. i;
            nodes_zero = λ u j h. ap (λ (m : List ℕ). get_or m j 0) (after_zero d.outcome n p u) ∙ zeroed_rest n 0 j h;
            unchanged = λ u. (ap (λ (ws : List ℕ). over ws t) (w.nothing u).0, ap (λ (ws : List ℕ). over ws e) (w.nothing u).1, after_unread d.outcome n u, i);
          }

-- a reading leaves the tables' lengths, the words after the kept tokens and errors, the words of the index after theirs, and after 3, 4 and 13 every word
pub reading_rest : (rule way : ℕ) (s t e n x : List ℕ) → Rest t e n x (reading rule way s t e n x)
unfolding reading
reading_rest rule way s t e n x =
    let a = room token_width t in
    let b = room error_width e in
    let k = room index_width x in
    let d = lexed_of rule s a b in
    after_rest rule (with_room k (on_way way d)) (well_on rule way k s a b) t e n x (tokens_within rule s t b) (errors_within rule s e a) λ z. let f = on_fits way k d z in omega (arith, f)

-- a source that is text and not too long is read by a rule that is known: the reading does not end with 3, 4 or 13
pub reading_read : (rule way : ℕ) (s t e n x : List ℕ) → known rule ≡ true → length s ≤ 65535 → is_text s ≡ true → unread (reading rule way s t e n x).outcome ≡ false
unfolding reading lexed_of
reading_read rule way s t e n x k l h =
    let a = room token_width t in
    let b = room error_width e in
    let d = lexed_of rule s a b in
    let i : d ≡ lexed rule s a b = simp (k, le-ltb 65535 (length s) l, h) in
    after (with_room (room index_width x) (on_way way d)) (on_read way (room index_width x) d (ap (λ (r : Result). unread r.outcome) i ∙ lexed_read rule _ (lexed_ends rule s a b)))
  where
    after : (d : Result) → unread d.outcome ≡ false → unread (read_after rule (entered_after d t e n x)).outcome ≡ false
    after d u = at (eqb d.outcome 0)
      where
        T : List ℕ
        T = over d.tokens t

        E : List ℕ
        E = over d.errors e

        N : List ℕ
        N = nodes_after d.outcome n

        parse : (o : ℕ) → is_outcome o ≡ true → (y : Bool) → unread o ≡ y → unread o ≡ false
        parse o h true q = outcome_read o h q
        parse o h false q = q

        at : (b : Bool) → unread (read_by b rule (entered_after d t e n x)).outcome ≡ false
        at true = parse (parsed rule (walked T) d.error_count E N).outcome (parsed_outcome T rule d.error_count E N) (unread (parsed rule (walked T) d.error_count E N).outcome) refl
        at false = u
