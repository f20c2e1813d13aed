-- Every error that a reading keeps has a place in its source: the lexer's at a byte, the parser's at the start of a token, EOF's the source's end. Assumes nothing.
use mathlib.Core.Path.{◌≡◌, refl, sym, ap, subst, ◌∙◌}
use mathlib.Core.Bool.{Bool, true, false}
use mathlib.Core.List.{List, ◌++◌}
use mathlib.Core.Logic.{⊎_elim}
use Prim.Native.Nat.{ℕ, ◌+◌, ◌*◌, ◌≤◌, ◌<◌}
use native.Mathlib.Omega.{arith}
use borrow.Author.Tests.{eqb-true}
use lib.Dec.{eqb}
use lib.ListN.{length, get_or, drop, get_or-append}
use lib.Seq.{get_or-take}
use Rattle.records.specs.declared.TokenData.{TokenData}
use Rattle.records.specs.Table.{room, field, token_width, error_width, index_width}
use Rattle.records.specs.Words.{token_words, error_words}
use Rattle.records.specs.Rows.{Rows, none, more}
use Rattle.records.proofs.Rooms.{room_length, lt_or_le}
use Rattle.records.proofs.Field.{field_room, field_none, field_same}
use Rattle.records.proofs.Rows.{rows_length, row_at}
use Rattle.lexer.specs.Lex.{Result, lexed, lexed_of}
use Rattle.lexing.specs.Kept.{Good, Placed, Ending, whole, short}
use Rattle.lexing.proofs.Kept.{lexed_keeps}
use Rattle.lexing.proofs.Answer.{entry, errors_within}
use Rattle.parser.specs.Tokens.{start_at, walked}
use Rattle.parsing.proofs.Frame.{parsed_errors_kept}
use Rattle.parsing.proofs.Places.{parsed_about}
use Rattle.entry.specs.Ways.{on_way}
use Rattle.entry.specs.Entry.{over, nodes_after, with_room, entered_after}
use Rattle.entry.specs.Reading.{Reading, read_by, read_after, reading}
use Rattle.whole.specs.Places.{Place, lexers, parsers}
use Rattle.whole.proofs.Rooms.{lexed_rooms}
use Rattle.whole.proofs.Sizes.{Well, well_on, over_keeps, over_agree}

-- ---- what is lexed
-- a token that starts within the source, or at its end
abbrev Starts : ℕ → TokenData → Type 0
Starts n d = d.start ≤ n

-- every token does, and every error stands within the source
record Inside (n : ℕ) (r : Result) : Type 0 where
  tokens : Rows token_words (Starts n) r.tokens r.token_count
  errors : Rows error_words (Placed n) r.errors r.error_count

good_starts : (bytes : ℕ) (ws : List ℕ) (n : ℕ) → Rows token_words (Good bytes) ws n → Rows token_words (Starts bytes) ws n
good_starts bytes _ _ none = none
good_starts bytes _ _ (more {ws} {n} r d g) = more (good_starts bytes ws n r) d (let h = g.inside in omega arith)

ending_starts : (n : ℕ) (r : Result) → Ending n r → Rows token_words (Starts n) r.tokens r.token_count
ending_starts n r (whole ws m d o rows le eof is count) =
    let h = eof.start_is in
    let x : Rows token_words (Starts n) (ws ++ token_words d) (m + 1) = more (good_starts n ws m rows) d (omega arith) in
    subst (λ (l : List ℕ). Rows token_words (Starts n) l r.token_count) (sym is) (subst (Rows token_words (Starts n) (ws ++ token_words d)) (sym count) x)
ending_starts n r (short ne rows le) = good_starts n r.tokens r.token_count rows

inside : (rule : ℕ) (s : List ℕ) (a b : ℕ) → Inside (length s) (lexed_of rule s a b)
inside rule s a b =
    let k = lexed_keeps rule s a b in
    entry (Inside (length s)) rule s a b (λ o. record { tokens = none; errors = none }) (record { tokens = ending_starts (length s) (lexed rule s a b) k.ending; errors = k.errors })

-- ---- in a table whose front is rewritten
pub front_word : (w : ℕ) (ws t : List ℕ) (n i k : ℕ) → length ws ≡ w * n → w * i + k < w * n → i < room w (over ws t) → field w k (over ws t) i ≡ get_or ws (w * i + k) 0
front_word w ws t n i k l b h = field_room w k (over ws t) i h ∙ get_or-append ws (drop (length ws) t) 0 (w * i + k) (omega arith)

-- the tokens, m and EOF, start within the source or at its end
start_inside : (n m : ℕ) (ws t : List ℕ) → Rows token_words (Starts n) ws (m + 1) → (i : ℕ) → i ≤ m → start_at (over ws t) i ≤ n
unfolding start_at
start_inside n m ws t rows i h =
    ⊎_elim
    (λ x.
    let l : length ws ≡ token_width * (m + 1) = rows_length token_words (Starts n) token_width (λ d. refl) ws (m + 1) rows in
    let r = row_at token_words (Starts n) token_width (λ d. refl) ws (m + 1) rows i (omega arith) in
    let f : field token_width 1 (over ws t) i ≡ r.0.start = front_word token_width ws t (m + 1) i 1 l (omega arith) x ∙ r.2 1 (omega arith) in
    let g : r.0.start ≤ n = r.1 in
    omega (arith, f, g))
    (λ x. let f : field token_width 1 (over ws t) i ≡ 0 = field_none token_width 1 (over ws t) i x in omega (arith, f))
    (lt_or_le i (room token_width (over ws t)))

-- ---- what a lexing came to is parsed, or is the answer
module _ (rule way : ℕ) (s t e n x : List ℕ) where
  -- what a lexing comes to on the way, with the index
  abbrev d : Result
  d = with_room (room index_width x) (on_way way (lexed_of rule s (room token_width t) (room error_width e)))

  abbrev T : List ℕ
  T = over d.tokens t

  abbrev E : List ℕ
  E = over d.errors e

  abbrev N : List ℕ
  N = nodes_after d.outcome n

  w : Well d
  w = well_on rule way (room index_width x) s (room token_width t) (room error_width e)

  i : Inside (length s) (lexed_of rule s (room token_width t) (room error_width e))
  i = inside rule s (room token_width t) (room error_width e)

  -- an error of lexing, in any error table that keeps those
  lexing_place : (r : Reading) (k : ℕ) → k < d.error_count → k < room error_width E → ((j : ℕ) → j < 3 → field error_width j r.errors k ≡ field error_width j E k) → Place (length s) r k
  lexing_place r k h l g =
      let y = row_at error_words (Placed (length s)) error_width (λ c. refl) d.errors d.error_count i.errors k h in
      let word : (j : ℕ) → j < 3 → field error_width j r.errors k ≡ get_or (error_words y.0) j 0 = λ j b. g j b ∙ front_word error_width d.errors e d.error_count k j w.errors_long (omega arith) l ∙ y.2 j b in
      let message : field error_width 0 r.errors k ≡ y.0.message = word 0 (omega arith) in
      let pos : field error_width 2 r.errors k ≡ y.0.pos = word 2 (omega arith) in
      let a = y.1.message_from in
      let b = y.1.message_to in
      let c = y.1.inside in
      lexers (record { message_from = omega (arith, message, a); message_to = omega (arith, message, b); inside = omega (arith, pos, c) })

  -- the error table has room for them
  lexing_room : (k : ℕ) → k < d.error_count → k < room error_width E
  lexing_room k h =
      let r = (lexed_rooms rule s (room token_width t) (room error_width e)).1 in
      let q : room error_width E ≡ room error_width e = room_length error_width E e (over_keeps d.errors e (errors_within rule s e (room token_width t))) in
      omega (arith, h, r, q)

  place : (k : ℕ) → k < (read_after rule (entered_after d t e n x)).error_count → Place (length s) (read_after rule (entered_after d t e n x)) k
  place = at (eqb d.outcome 0) refl
    where
      r : Bool → Reading
      r b = read_by b rule (entered_after d t e n x)

      at : (b : Bool) → eqb d.outcome 0 ≡ b → (k : ℕ) → k < (r b).error_count → Place (length s) (r b) k
      at true o k h =
          let p = parsed_errors_kept rule (walked T) d.error_count E N in
          let z = w.eof (eqb-true d.outcome 0 o) in
          let m = z.0 in
          let l : length d.tokens ≡ token_width * (m + 1) = w.tokens_long ∙ ap (λ (c : ℕ). token_width * c) z.1 in
          let rows : Rows token_words (Starts (length s)) d.tokens (m + 1) = subst (Rows token_words (Starts (length s)) d.tokens) z.1 i.tokens in
          ⊎_elim
          (λ b.
          lexing_place (r true) k b (lexing_room k b) λ j c.
          field_same error_width j (r true).errors E k p.long
          (sym (get_or-take (error_width * d.error_count) (r true).errors (error_width * k + j) 0 (omega arith))
          ∙ ap (λ (c : List ℕ). get_or c (error_width * k + j) 0) p.kept
          ∙ get_or-take (error_width * d.error_count) E (error_width * k + j) 0 (omega arith)))
          (λ b.
          let f = (over_agree d.tokens t t m refl l z.2).end in
          let y = parsed_about rule T m f d.error_count E N k b h in
          let c = start_inside (length s) m d.tokens t rows y.token y.up_to in
          let q = y.pos_is in
          parsers (record { last = m; last_is = z.1; eof = f; about = y; inside = omega (arith, q, c) }))
          (lt_or_le k d.error_count)
      at false o k h = lexing_place (r false) k h (lexing_room k h) λ j c. refl

-- every error that a reading keeps has its place
pub reading_places : (rule way : ℕ) (s t e n x : List ℕ) (k : ℕ) → k < (reading rule way s t e n x).error_count → Place (length s) (reading rule way s t e n x) k
unfolding reading
reading_places rule way s t e n x k h = place rule way s t e n x k h

-- so that its pos is at most the source's length
pub reading_inside : (rule way : ℕ) (s t e n x : List ℕ) (k : ℕ) → k < (reading rule way s t e n x).error_count → field error_width 2 (reading rule way s t e n x).errors k ≤ length s
reading_inside rule way s t e n x k h = of (reading rule way s t e n x) (reading_places rule way s t e n x k h)
  where
    of : (r : Reading) → Place (length s) r k → field error_width 2 r.errors k ≤ length s
    of r (lexers x) = let b = x.inside in omega arith
    of r (parsers x) = x.inside
