-- What a lexing leaves to the parser: the errors that it recorded, and those that its tokens allow, are two at the most for each byte, and two; and it ends for want of room only where a table is full. Assumes nothing.
use mathlib.Core.Path.{◌≡◌, refl, sym, ap, subst, ◌∙◌}
use mathlib.Core.Bool.{Bool, true, false, not, ◌&&◌}
use mathlib.Core.List.{List, [], ◌∷◌, ◌++◌, append_assoc}
use mathlib.Core.Logic.{⊎_elim}
use Prim.Native.Nat.{ℕ, zero, suc, ◌+◌, ◌*◌, ◌≤◌, ◌<◌}
use native.Mathlib.Omega.{arith}
use borrow.Author.Tests.{ltb-false}
use lib.Dec.{T, leb, ltb, eqb, leb→le}
use lib.Ieee.Fits.{and_l, and_r}
use lib.ListN.{length, get_or, take, length-append}
use lib.Seq.{get_or-append-add}
use Rattle.std.specs.Prelude.{Option, Some, None, Ok, Err}
use Rattle.token.specs.Keyword.{keyword_of}
use Rattle.token.proofs.Sized.{of_length}
use Rattle.spans.specs.Span.{is_alpha, is_digit, run}
use Rattle.rules.specs.Rules.{is_named}
use Rattle.literal.specs.declared.Words.{Words}
use Rattle.records.specs.declared.TokenData.{TokenData}
use Rattle.records.specs.Table.{room, token_width}
use Rattle.records.specs.Words.{token_words}
use Rattle.records.proofs.Rooms.{lt_or_le}
use Rattle.records.proofs.Field.{field_room, field_none}
use Rattle.strings.specs.Strings.{Ended, read_of, begun}
use Rattle.items.specs.declared.Sign.{Sign}
use Rattle.items.specs.declared.Sign.TheVariants.{Newline, Blank, Hash, Quote, Single, Pair, Illegal}
use Rattle.items.specs.declared.Item.{Item}
use Rattle.items.specs.declared.Item.TheVariants.{Space, Comment, Name, Text, Number, Mark, Wrong}
use Rattle.items.specs.Items.{Row, find, pick_sign, signs, sign_of, letter, digit, sign, pick_class, pick_item, text_item, lone, pair_at, item_as, item_of, size_of, less, items}
use Rattle.items.proofs.Bounds.{item_bounded}
use Rattle.lexer.specs.Lex.{State, Result, Onward, go, stop, pick_onward, kept, and_then, passed, no_value, token_at, with_token, with_error, token, error, step, closing, finish, emit, fresh, refusal, lexed, lexed_of}
use Rattle.lexing.proofs.Answer.{tests}
use Rattle.parser.specs.Tokens.{kind_at}
use Rattle.rooms.specs.Allowed.{errors, allows, allowed}
use Rattle.rooms.proofs.Allowed.{allows_errors, allowed_next}

-- ---- an item that is a token pays for what the token allows, two for each byte: `class` is longer than a byte
-- the kind of its token; EOF's where it is none
abbrev kind_of : Item → ℕ
kind_of Space = 0
kind_of (Comment n) = 0
kind_of (Name k n) = k
kind_of (Text n m l) = 26
kind_of (Number x) = 27
kind_of (Mark k n m) = k
kind_of (Wrong e n m) = 0

abbrev Pays : Item → Type 0
Pays x = allows errors (kind_of x) ≤ 2 * size_of x

-- a mark of one byte allows two, and one that has no kind alone is no token
abbrev fit_alone : Option ℕ → Bool
fit_alone None = true
fit_alone (Some k) = leb (allows errors k) 2

abbrev fit : Sign → Bool
fit Newline = true
fit Blank = true
fit Hash = true
fit Quote = true
fit (Single k) = leb (allows errors k) 2
fit (Pair k l) = fit_alone k
fit Illegal = true

abbrev all_fit : List Row → Bool
all_fit [] = true
all_fit (x ∷ xs) = fit x.is && all_fit xs

pick_fit : (c : Bool) (x y : Sign) → T (fit x) → T (fit y) → T (fit (pick_sign c x y))
pick_fit true x y g h = g
pick_fit false x y g h = h

find_fit : (b : ℕ) (xs : List Row) → T (all_fit xs) → T (fit (find b xs))
find_fit b [] t = tt
find_fit b (x ∷ xs) t = pick_fit (eqb b x.byte) x.is (find b xs) (and_l (fit x.is) (all_fit xs) t) (find_fit b xs (and_r (fit x.is) (all_fit xs) t))

either : (b : Bool) (x y : Item) → Pays x → Pays y → Pays (pick_item b x y)
either true x y h i = h
either false x y h i = i

lone_pays : (k : Option ℕ) → T (fit_alone k) → Pays (lone k)
lone_pays None t = omega arith
lone_pays (Some k) t = leb→le (allows errors k) 2 t

pair_pays : (k : Option ℕ) (l : ℕ) (s : List ℕ) → T (fit_alone k) → Pays (pair_at k l s)
pair_pays k l [] h = lone_pays k h
pair_pays k l (x ∷ s) h = let m = allows_errors l in either (eqb x 61) (Mark l 2 0) (lone k) (omega arith) (lone_pays k h)

text_pays : (x : Ended) → Pays (text_item x)
text_pays (Ok c) = omega arith
text_pays (Err b) = omega arith

-- no keyword has one letter
letter_kind : (b : ℕ) → 25 ≡ keyword_of (b ∷ [])
letter_kind b = of_length (b ∷ []) 1 refl

name_pays : (b r : ℕ) (s : List ℕ) → allows errors (keyword_of (b ∷ take r s)) ≤ 2 * suc r
name_pays b zero s = subst (λ (k : ℕ). allows errors k ≤ 2) (letter_kind b) (omega arith)
name_pays b (suc r) s = let h = allows_errors (keyword_of (b ∷ take (suc r) s)) in omega arith

as_pays : (rule : ℕ) (z : Sign) (b : ℕ) (s : List ℕ) → T (fit z) → Pays (item_as rule (sign z) b s)
as_pays rule Newline b s t = omega arith
as_pays rule Blank b s t = omega arith
as_pays rule Hash b s t = omega arith
as_pays rule Quote b s t = text_pays (read_of s begun)
as_pays rule (Single k) b s t = leb→le (allows errors k) 2 t
as_pays rule (Pair k l) b s t = pair_pays k l s t
as_pays rule Illegal b s t = omega arith

item_pays : (rule b : ℕ) (s : List ℕ) → Pays (item_of rule b s)
unfolding sign_of
item_pays rule b s = at (is_alpha b) (is_digit b) (item_bounded rule b s).0
  where
    at : (p q : Bool) → 1 ≤ size_of (item_as rule (pick_class p letter (pick_class q digit (sign (sign_of b)))) b s) → Pays (item_as rule (pick_class p letter (pick_class q digit (sign (sign_of b)))) b s)
    at true q h = name_pays b (run (is_named rule) s) s
    at false true h = omega arith
    at false false h = as_pays rule (sign_of b) b s (find_fit b signs tt)

-- ---- one more token
-- the token after the first m, whatever follows: it has its own kind, or lies past what a table can hold
last_allows : (ws v : List ℕ) (d : TokenData) (m : ℕ) → length ws ≡ token_width * m → allows errors (kind_at (ws ++ (token_words d ++ v)) m) ≤ allows errors d.kind
unfolding kind_at
last_allows ws v d m l = ⊎_elim (λ h. rw (inside h) (omega arith)) (λ h. rw (field_none token_width 0 (ws ++ (token_words d ++ v)) m h) (omega arith)) (lt_or_le m (room token_width (ws ++ (token_words d ++ v))))
  where
    inside : m < room token_width (ws ++ (token_words d ++ v)) → kind_at (ws ++ (token_words d ++ v)) m ≡ d.kind
    inside h = field_room token_width 0 (ws ++ (token_words d ++ v)) m h ∙ ap (λ (k : ℕ). get_or (ws ++ (token_words d ++ v)) (k + 0) 0) (sym l) ∙ get_or-append-add ws (token_words d ++ v) 0 0

more_allowed : (ws v : List ℕ) (d : TokenData) (m : ℕ) → length ws ≡ token_width * m
    → allowed errors ((ws ++ token_words d) ++ v) (m + 1) ≤ allowed errors (ws ++ (token_words d ++ v)) m + allows errors d.kind
more_allowed ws v d m l =
    let h = last_allows ws v d m l in
    let k = allowed_next errors (ws ++ (token_words d ++ v)) m in
    rw append_assoc (omega arith)

-- ---- a state of a lexing; c: how much its errors, and what its tokens allow, may be over two for each byte passed. Nothing is known yet of v, which follows the tokens
record Inv (c : ℕ) (t : State) : Type 0 where
  long : length t.tokens ≡ token_width * t.token_count
  few : (v : List ℕ) → allowed errors (t.tokens ++ v) t.token_count + t.error_count ≤ 2 * t.at + c

-- what a lexing of n bytes leaves, with room for so many tokens and errors
pub record Left (n token_room error_room : ℕ) (r : Result) : Type 0 where
  pub few : (v : List ℕ) → allowed errors (r.tokens ++ v) r.token_count + r.error_count ≤ 2 * n + 2
  pub tokens_full : r.outcome ≡ 5 → token_room ≤ r.token_count
  pub errors_full : r.outcome ≡ 6 → error_room ≤ r.error_count

module _ (n token_room error_room : ℕ) where
  -- a step of k bytes that goes on, or stops
  abbrev Next : ℕ → ℕ → State → Onward → Type 0
  Next c k t (go u) = Inv c u × (u.at ≡ t.at + k)
  Next c k t (stop o) = (o ≡ 5 → token_room ≤ t.token_count) × (o ≡ 6 → error_room ≤ t.error_count)

  inv_token : (c d kind k m : ℕ) (w : Words) (t : State) → Inv c t → c + allows errors kind ≤ 2 * k + d → Next d k t (token token_room error_room kind k m w t)
  inv_token c d kind k m w t f cd = at (ltb t.token_count token_room) refl
    where
      x : TokenData
      x = token_at t.at t.line kind k m w

      at : (b : Bool) → ltb t.token_count token_room ≡ b → Next d k t (pick_onward b (go (with_token kind k m w t)) (stop 5))
      at true q =
          let l = f.long in (
            record {
              long = length-append t.tokens (token_words x) ∙ omega arith;
              few = λ v. let h = f.few (token_words x ++ v) in let y = more_allowed t.tokens v x t.token_count l in omega arith;
            },
            refl,
          )
      at false q = (λ h. ltb-false t.token_count token_room q, λ h. absurd (omega (arith, h)))

  inv_error : (e k m : ℕ) (t : State) → Inv 0 t → 1 ≤ k → Next 0 k t (error token_room error_room e k m t)
  inv_error e k m t f some = at (ltb t.error_count error_room) refl
    where
      at : (b : Bool) → ltb t.error_count error_room ≡ b → Next 0 k t (pick_onward b (go (with_error e k m t)) (stop 6))
      at true q = (record { long = f.long; few = λ v. let h = f.few v in omega arith }, refl)
      at false q = (λ h. absurd (omega (arith, h)), λ h. ltb-false t.error_count error_room q)

  inv_passed : (k : ℕ) (t : State) → Inv 0 t → Next 0 k t (go (passed k t))
  inv_passed k t f = (record { long = f.long; few = λ v. let h = f.few v in omega arith }, refl)

  -- a number at which lexing stops, or not
  inv_cut : (k : ℕ) (t : State) (b : Bool) (x : Onward) → Next 0 k t x → Next 0 k t (pick_onward b (stop 2) x)
  inv_cut k t true x h = (λ e. absurd (omega (arith, e)), λ e. absurd (omega (arith, e)))
  inv_cut k t false x h = h

  inv_step : (x : Item) (t : State) → Pays x → 1 ≤ size_of x → Inv 0 t → Next 0 (size_of x) t (step token_room error_room x t)
  inv_step Space t z s f = inv_passed 1 t f
  inv_step (Comment k) t z s f = inv_passed k t f
  inv_step (Name kind k) t z s f = inv_token 0 0 kind k 0 _ t f (omega arith)
  inv_step (Text k m l) t z s f = inv_token 0 0 26 k m _ t f (omega arith)
  inv_step (Number x) t z s f = inv_cut x.size t x.cut _ (inv_token 0 0 27 x.size 0 _ t f (omega arith))
  inv_step (Mark kind k m) t z s f = inv_token 0 0 kind k m _ t f (omega arith)
  inv_step (Wrong e k m) t z s f = inv_error e k m t f s

  -- ---- what is left at the end
  kept_left : (c o : ℕ) (t : State) → c ≤ 2 → t.at ≤ n → Inv c t → (o ≡ 5 → token_room ≤ t.token_count) → (o ≡ 6 → error_room ≤ t.error_count) → Left n token_room error_room (kept o t)
  kept_left c o t cl le f five six = record { few = λ v. let h = f.few v in omega arith; tokens_full = five; errors_full = six }

  then_left : (x : Onward) (c d k : ℕ) (t : State) (j : State → Result) → c ≤ 2 → t.at ≤ n → Inv c t → Next d k t x
      → ((u : State) → Inv d u → u.at ≡ t.at + k → Left n token_room error_room (j u)) → Left n token_room error_room (and_then x t j)
  then_left (go u) c d k t j cl le f h i = i u h.0 h.1
  then_left (stop o) c d k t j cl le f h i = kept_left c o t cl le f h.0 h.1

  -- the added Newline allows two, EOF nothing
  closing_inv : (t : State) → Inv 0 t → Next 2 0 t (closing token_room error_room t)
  closing_inv t f = at (ltb 0 t.token_count && not (eqb t.last 1))
    where
      at : (b : Bool) → Next 2 0 t (pick_onward b (token token_room error_room 1 0 0 no_value t) (go t))
      at true = inv_token 0 2 1 0 0 no_value t f (omega arith)
      at false = (record { long = f.long; few = λ v. let h = f.few v in omega arith }, omega arith)

  finish_left : (t : State) → t.at ≤ n → Inv 0 t → Left n token_room error_room (finish token_room error_room t)
  finish_left t le f =
      then_left (closing token_room error_room t) 0 2 0 t (λ u. and_then (token token_room error_room 0 0 0 no_value u) u (kept 0)) (omega arith) le f (closing_inv t f) λ u g h.
      then_left (token token_room error_room 0 0 0 no_value u) 2 2 0 u (kept 0) (omega arith) (omega arith) g (inv_token 2 2 0 0 0 no_value u g (omega arith)) λ v i j.
      kept_left 2 0 v (omega arith) (omega arith) i (λ e. absurd (omega (arith, e))) (λ e. absurd (omega (arith, e)))

  less_one : (m : ℕ) → 1 ≤ m → less m + 1 ≡ m
  less_one zero h = absurd (omega arith)
  less_one (suc m) h = omega arith

  -- the bytes s are left, of which k are the last item's
  emit_left : (rule : ℕ) (s : List ℕ) (k : ℕ) (t : State) → k ≤ length s → t.at + length s ≡ n + k → Inv 0 t → Left n token_room error_room (emit token_room error_room (items rule s k) t)
  emit_left rule [] k t le e f = finish_left t (omega arith) f
  emit_left rule (b ∷ s) zero t le e f =
      let x = item_of rule b s in
      let z = item_bounded rule b s in
      let l = less_one (size_of x) z.0 in
      then_left (step token_room error_room x t) 0 0 (size_of x) t (emit token_room error_room (items rule s (less (size_of x)))) (omega arith) (omega arith) f
      (inv_step x t (item_pays rule b s) z.0 f) λ u g h.
      emit_left rule s (less (size_of x)) u (omega arith) (omega arith) g
  emit_left rule (b ∷ s) (suc k) t le e f = emit_left rule s k t (omega arith) (omega arith) f

  -- a refusal leaves nothing, and is none for want of room
  refusal_left : (o : ℕ) → (o ≡ 5 → ⊥) → (o ≡ 6 → ⊥) → Left n token_room error_room (refusal o)
  unfolding allowed
  refusal_left o five six = record { few = λ v. omega arith; tokens_full = λ e. absurd (five e); errors_full = λ e. absurd (six e) }

-- of any bytes, by any rule
pub lexed_left : (rule : ℕ) (s : List ℕ) (token_room error_room : ℕ) → Left (length s) token_room error_room (lexed_of rule s token_room error_room)
unfolding lexed allowed
lexed_left rule s a b =
    let no = refusal_left (length s) a b in
    tests (Left (length s) a b) rule s a b (no 13 (λ e. omega (arith, e)) λ e. omega (arith, e)) (no 4 (λ e. omega (arith, e)) λ e. omega (arith, e)) (no 3 (λ e. omega (arith, e)) λ e. omega (arith, e))
    (emit_left (length s) a b rule s 0 fresh (omega arith) (omega arith) (record { long = refl; few = λ v. omega arith }))
