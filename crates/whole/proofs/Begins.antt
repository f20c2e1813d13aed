-- Every token that a reading keeps begins where its bytes say, and none on an earlier line than one before it. Assumes nothing.
use mathlib.Core.Path.{◌≡◌, refl, ap, subst, ◌∙◌}
use mathlib.Core.Bool.{Bool, true, false}
use mathlib.Core.List.{List}
use Prim.Native.Nat.{ℕ, ◌+◌, ◌*◌, ◌<◌}
use native.Mathlib.Omega.{arith}
use lib.Dec.{eqb}
use lib.ListN.{length, get_or}
use Rattle.records.specs.Table.{room, field, token_width, error_width, index_width}
use Rattle.records.specs.Words.{token_words}
use Rattle.records.proofs.Rooms.{room_length}
use Rattle.records.proofs.Rows.{rows_length, row_at}
use Rattle.lexer.specs.Lex.{Result, lexed_of}
use Rattle.lexing.specs.Begins.{Begins, begins_at, Begun}
use Rattle.lexing.proofs.Answer.{tokens_within}
use Rattle.lexing.proofs.Begins.{lexing_begins}
use Rattle.entry.specs.Ways.{on_way}
use Rattle.entry.specs.Entry.{over, with_room, entered_after, entered}
use Rattle.entry.specs.Reading.{Reading, read_by, reading}
use Rattle.whole.specs.Begins.{TokensBegin}
use Rattle.whole.proofs.Rooms.{lexed_rooms}
use Rattle.whole.proofs.Sizes.{over_keeps}
use Rattle.whole.proofs.Places.{front_word}

module _ (rule : ℕ) (s t e n x : List ℕ) where
  abbrev d : Result
  d = lexed_of rule s (room token_width t) (room error_width e)

  abbrev T : List ℕ
  T = over d.tokens t

  b : Begun s d
  b = lexing_begins rule s (room token_width t) (room error_width e)

  -- a word of a kept token, in the table and among the words that are kept
  word : (i k : ℕ) → i < d.token_count → k < token_width → field token_width k T i ≡ get_or d.tokens (token_width * i + k) 0
  word i k h l =
      let c : length d.tokens ≡ token_width * d.token_count = rows_length token_words (Begins s) token_width (λ x. refl) d.tokens d.token_count b.tokens in
      let r = (lexed_rooms rule s (room token_width t) (room error_width e)).0 in
      let q : room token_width T ≡ room token_width t = room_length token_width T t (over_keeps d.tokens t (tokens_within rule s t (room error_width e))) in
      front_word token_width d.tokens t d.token_count i k c (omega arith) (omega (arith, h, r, q))

  -- a reading that has these tokens
  has : (r : Reading) → r.tokens ≡ T → r.token_count ≡ d.token_count → TokensBegin s r
  has r f g = record {
    tokens = λ i h.
        let l : i < d.token_count = subst (λ (c : ℕ). i < c) g h in
        let x = row_at token_words (Begins s) token_width (λ x. refl) d.tokens d.token_count b.tokens i l in
        record { token = x.0; words = λ k m. ap (λ (u : List ℕ). field token_width k u i) f ∙ word i k l m ∙ x.2 k m; begins = x.1 };
    never_falls = λ i j h k.
        let l : j < d.token_count = subst (λ (c : ℕ). j < c) g k in
        let x : field token_width 7 r.tokens i ≡ begins_at d.tokens i = ap (λ (u : List ℕ). field token_width 7 u i) f ∙ word i 7 (omega arith) (omega arith) in
        let y : field token_width 7 r.tokens j ≡ begins_at d.tokens j = ap (λ (u : List ℕ). field token_width 7 u j) f ∙ word j 7 l (omega arith) in
        let z = b.never_falls i j h l in
        omega (arith, x, y, z);
  }

  after : (way : ℕ) (b : Bool) → TokensBegin s (read_by b rule (entered_after (with_room (room index_width x) (on_way way d)) t e n x))
  after way true = has _ refl refl
  after way false = has _ refl refl

-- every token that a reading keeps, of any bytes into any tables
pub reading_begins : (rule way : ℕ) (s t e n x : List ℕ) → TokensBegin s (reading rule way s t e n x)
unfolding reading
reading_begins rule way s t e n x = after rule s t e n x way (eqb (entered rule way s t e n x).outcome 0)
