-- Every lexing keeps good tokens and errors, within the rooms, and where it reaches the end the last token is the only EOF. Assumes nothing.
use mathlib.Core.Path.{◌≡◌, refl, sym, ap, subst, ◌∙◌}
use mathlib.Core.Bool.{Bool, true, false, not, ◌&&◌}
use mathlib.Core.List.{List, [], ◌∷◌}
use Prim.Native.Nat.{ℕ, zero, suc, ◌+◌, ◌≤◌, ◌<◌}
use native.Mathlib.Nat.{le_refl}
use native.Mathlib.Omega.{arith}
use borrow.Author.Tests.{ltb-true}
use lib.Dec.{ltb, eqb, lit≤}
use lib.ListN.{length, take, drop}
use lib.Seq.{drop-drop}
use Rattle.literal.specs.declared.Words.{Words}
use Rattle.literal.specs.declared.Literal.TheVariants as literals
use Rattle.literal.specs.Value.{value_of, words_of}
use Rattle.records.specs.declared.TokenData.{TokenData}
use Rattle.records.specs.declared.InterpreterError.{InterpreterError}
use Rattle.records.specs.Words.{token_words, error_words}
use Rattle.records.specs.Rows.{Rows, none, more}
use Rattle.items.specs.declared.Item.{Item}
use Rattle.items.specs.declared.Item.TheVariants.{Space, Comment, Name, Text, Number, Mark, Wrong}
use Rattle.items.specs.Items.{item_of, size_of, lines_of, less, items}
use Rattle.items.proofs.Bounds.{item_bounded}
use Rattle.lexer.specs.Lex.{State, Result, Onward, go, stop, pick_onward, kept, and_then, passed, no_value, token_at, with_token, with_error, span_of, token, error, step, closing, finish, emit, fresh, lexed}
use Rattle.lexing.specs.Begins.{newlines, Begins}
use Rattle.lexing.specs.Kept.{Good, Placed, InOrder, first, behind, whole, short, Keeps}
use Rattle.lexing.proofs.Told.{Told, Tells, item_tells}

-- ---- all items of a source: each is sound, with the bytes from it on, and together they are the source
abbrev Sound : Item → List ℕ → Type 0
Sound x s = Tells x s × (1 ≤ size_of x) × (lines_of x ≤ size_of x)

abbrev Sounds : List Item → List ℕ → Type 0
Sounds [] s = Unit
Sounds (x ∷ xs) s = Sound x s × Sounds xs (drop (size_of x) s)

abbrev total : List Item → ℕ
total [] = 0
total (x ∷ xs) = size_of x + total xs

less_suc : (n : ℕ) → 1 ≤ n → suc (less n) ≡ n
less_suc zero h = absurd (omega arith)
less_suc (suc n) h = refl

items_sound : (rule : ℕ) (s : List ℕ) (k : ℕ) → Sounds (items rule s k) (drop k s)
items_sound rule [] k = tt
items_sound rule (b ∷ s) zero =
    let n = size_of (item_of rule b s) in
    let z = item_bounded rule b s in
    ((item_tells rule b s, z.0, z.2), subst (λ (m : ℕ). Sounds (items rule s (less n)) (drop m (b ∷ s))) (less_suc n z.0) (items_sound rule s (less n)))
items_sound rule (b ∷ s) (suc k) = items_sound rule s k

items_total : (rule : ℕ) (s : List ℕ) (k : ℕ) → k ≤ length s → total (items rule s k) + k ≡ length s
items_total rule [] k h = omega arith
items_total rule (b ∷ s) zero h =
    let x = item_of rule b s in
    let z = item_bounded rule b s in
    let l : suc (less (size_of x)) ≡ size_of x = less_suc (size_of x) z.0 in
    let e : total (items rule s (less (size_of x))) + less (size_of x) ≡ length s = items_total rule s (less (size_of x)) (omega arith) in
    omega arith
items_total rule (b ∷ s) (suc k) h = let e : total (items rule s k) + k ≡ length s = items_total rule s k (omega arith) in omega arith

-- ---- a state of a lexing of s; c: how many tokens may be more than the bytes passed
record Fine (s : List ℕ) (token_room error_room c : ℕ) (t : State) : Type 0 where
  tokens_good : Rows token_words (Good (length s)) t.tokens t.token_count
  tokens_begin : Rows token_words (Begins s) t.tokens t.token_count
  errors_good : Rows error_words (Placed (length s)) t.errors t.error_count
  order : (end : ℕ) × (line : ℕ) × InOrder t.tokens t.token_count end line × (end ≤ t.at) × (line ≤ t.line)
  inside : t.at ≤ length s
  line_from : 1 ≤ t.line
  line_to : t.line ≤ t.at + 1
  few : t.token_count ≤ t.at + c
  token_room_held : t.token_count ≤ token_room
  error_room_held : t.error_count ≤ error_room

module _ (s : List ℕ) (token_room error_room : ℕ) where
  abbrev n : ℕ
  n = length s

  -- after a step of k bytes: a fine state, or a stop that is no end
  abbrev Next : ℕ → ℕ → State → Onward → Type 0
  Next c k t (go u) = Fine s token_room error_room c u × (u.at ≡ t.at + k)
  Next c k t (stop o) = o ≡ 0 → ⊥

  -- the newlines among a token's bytes raise the line from where it begins
  begins_of : (kind k m : ℕ) (w : Words) (t : State) → newlines (take k (drop t.at s)) ≡ m → (kind ≡ 1 → 1 ≤ k → m ≡ 1) → Begins s (token_at t.at t.line kind k m w)
  begins_of kind k m w t among newline = record {
    counted = ap (λ (j : ℕ). t.line + j) among;
    newline = λ e l. ap (λ (j : ℕ). t.line + j) (sym (newline e l));
    empty = λ e. let z : m ≡ 0 = sym among ∙ ap (λ (j : ℕ). newlines (take j (drop t.at s))) e in omega arith;
  }

  fine_token : (c d kind k m : ℕ) (w : Words) (t : State) → Fine s token_room error_room c t → Told kind k m (drop t.at s) → m ≤ k → t.at + k ≤ n → c + 1 ≤ k + d
      → Next d k t (token token_room error_room kind k m w t)
  fine_token c d kind k m w t f told ml le cd = at (ltb t.token_count token_room) refl
    where
      x : TokenData
      x = token_at t.at t.line kind k m w

      at : (b : Bool) → ltb t.token_count token_room ≡ b
          → Next d k t (pick_onward b (go (with_token kind k m w t)) (stop 5))
      at true e =
          let r : t.token_count < token_room = ltb-true t.token_count token_room e in
          let lf = f.line_from in
          let lt = f.line_to in
          let fw = f.few in
          let o = f.order in (
            record {
              tokens_good = more f.tokens_good x (record { kind_from = told.kind_from; kind_to = told.kind_to; inside = le; begins_from = lf; begins_to = omega arith; line_to = omega arith });
              tokens_begin = more f.tokens_begin x (begins_of kind k m w t told.among told.newline);
              errors_good = f.errors_good;
              order = (t.at + k, t.line + m, behind o.2 x o.3 o.4 (omega arith), le_refl (t.at + k), le_refl (t.line + m));
              inside = le;
              line_from = omega arith;
              line_to = omega arith;
              few = omega arith;
              token_room_held = omega arith;
              error_room_held = f.error_room_held;
            },
            refl,
          )
      at false e = λ h. omega arith

  fine_error : (c e k m : ℕ) (t : State) → Fine s token_room error_room c t → (1 ≤ e) × (e ≤ 3) → m ≤ k → 1 ≤ k → t.at + k ≤ n
      → Next c k t (error token_room error_room e k m t)
  fine_error c e k m t f es ml some le = at (ltb t.error_count error_room) refl
    where
      x : InterpreterError
      x = record { message = e; line = t.line + m; pos = t.at }

      at : (b : Bool) → ltb t.error_count error_room ≡ b
          → Next c k t (pick_onward b (go (with_error e k m t)) (stop 6))
      at true h =
          let r : t.error_count < error_room = ltb-true t.error_count error_room h in
          let lf = f.line_from in
          let lt = f.line_to in
          let fw = f.few in
          let o = f.order in (
            record {
              tokens_good = f.tokens_good;
              tokens_begin = f.tokens_begin;
              order = (o.0, o.1, o.2, omega arith, omega arith);
              errors_good = more f.errors_good x (record { message_from = es.0; message_to = es.1; inside = omega arith; line_from = omega arith; line_to = omega arith });
              inside = le;
              line_from = omega arith;
              line_to = omega arith;
              few = omega arith;
              token_room_held = f.token_room_held;
              error_room_held = omega arith;
            },
            refl,
          )
      at false h = λ z. omega arith

  fine_passed : (c k : ℕ) (t : State) → Fine s token_room error_room c t → t.at + k ≤ n → Next c k t (go (passed k t))
  fine_passed c k t f le =
      let lt = f.line_to in
      let fw = f.few in
      let o = f.order in (
        record {
          tokens_good = f.tokens_good;
          tokens_begin = f.tokens_begin;
          errors_good = f.errors_good;
          order = (o.0, o.1, o.2, omega arith, o.4);
          inside = le;
          line_from = f.line_from;
          line_to = omega arith;
          few = omega arith;
          token_room_held = f.token_room_held;
          error_room_held = f.error_room_held;
        },
        refl,
      )

  fine_step : (x : Item) (t : State) → Sound x (drop t.at s) → Fine s token_room error_room 0 t → t.at + size_of x ≤ n → Next 0 (size_of x) t (step token_room error_room x t)
  fine_step Space t z f le = fine_passed 0 1 t f le
  fine_step (Comment k) t z f le = fine_passed 0 k t f le
  fine_step (Name kind k) t z f le = fine_token 0 0 kind k 0 no_value t f z.0 z.2 le (omega arith)
  fine_step (Text k m l) t z f le = fine_token 0 0 26 k m (words_of (literals.Text (span_of k t) l)) t f z.0 z.2 le (omega arith)
  fine_step (Number x) t z f le = at x.cut
    where
      at : (b : Bool) → Next 0 x.size t (pick_onward b (stop 2) (token token_room error_room 27 x.size 0 (words_of (value_of x.whole x.places (span_of x.size t))) t))
      at true = λ h. omega arith
      at false = fine_token 0 0 27 x.size 0 (words_of (value_of x.whole x.places (span_of x.size t))) t f z.0 z.2 le (omega arith)
  fine_step (Mark kind k m) t z f le = fine_token 0 0 kind k m no_value t f z.0 z.2 le (omega arith)
  fine_step (Wrong e k m) t z f le = fine_error 0 e k m t f z.0 z.2 z.1 le

  -- ---- what is kept
  kept_short : (c o : ℕ) (t : State) → c ≤ 1 → (o ≡ 0 → ⊥) → Fine s token_room error_room c t → Keeps s token_room error_room (kept o t)
  kept_short c o t le ne f =
      let fw = f.few in
      let i = f.inside in
      let o = f.order in
      record { ending = short ne f.tokens_good (omega arith); begins = f.tokens_begin; order = (o.0, o.1, o.2); errors = f.errors_good; token_room_held = f.token_room_held; error_room_held = f.error_room_held }

  then_keeps : (a : Onward) (c d k : ℕ) (t : State) (j : State → Result) → d ≤ 1 → Fine s token_room error_room d t → Next c k t a
      → ((u : State) → Fine s token_room error_room c u → u.at ≡ t.at + k → Keeps s token_room error_room (j u)) → Keeps s token_room error_room (and_then a t j)
  then_keeps (go u) c d k t j le f h i = i u h.0 h.1
  then_keeps (stop o) c d k t j le f h i = kept_short d o t le h f

  eof_keeps : (t : State) → t.at ≡ n → Fine s token_room error_room 1 t → Keeps s token_room error_room (and_then (token token_room error_room 0 0 0 no_value t) t (kept 0))
  eof_keeps t end f = at (ltb t.token_count token_room) refl
    where
      d : TokenData
      d = token_at t.at t.line 0 0 0 no_value

      at : (b : Bool) → ltb t.token_count token_room ≡ b
          → Keeps s token_room error_room (and_then (pick_onward b (go (with_token 0 0 0 no_value t)) (stop 5)) t (kept 0))
      at true e =
          let r : t.token_count < token_room = ltb-true t.token_count token_room e in
          let lf = f.line_from in
          let lt = f.line_to in
          let fw = f.few in
          let i = f.inside in
          let o = f.order in
          record {
            begins = more f.tokens_begin d (begins_of 0 0 0 no_value t refl (λ e l. absurd (omega arith)));
            order = (t.at + 0, t.line + 0, behind o.2 d o.3 o.4 (omega arith));
            ending =
                whole t.tokens t.token_count d refl f.tokens_good (omega arith)
                (record { kind_is = refl; start_is = end; length_is = refl; begins_is = omega arith; line_from = omega arith; line_to = omega arith }) refl refl;
            errors = f.errors_good;
            token_room_held = omega arith;
            error_room_held = f.error_room_held;
          }
      at false e = kept_short 1 5 t (lit≤ tt) (λ h. omega arith) f

  looser : (t : State) → Fine s token_room error_room 0 t → Fine s token_room error_room 1 t
  looser t f =
      let fw = f.few in
      record {
        tokens_good = f.tokens_good;
        tokens_begin = f.tokens_begin;
        errors_good = f.errors_good;
        order = f.order;
        inside = f.inside;
        line_from = f.line_from;
        line_to = f.line_to;
        few = omega arith;
        token_room_held = f.token_room_held;
        error_room_held = f.error_room_held;
      }

  closing_fine : (t : State) → Fine s token_room error_room 0 t → Next 1 0 t (closing token_room error_room t)
  closing_fine t f = at (ltb 0 t.token_count && not (eqb t.last 1))
    where
      at : (b : Bool) → Next 1 0 t (pick_onward b (token token_room error_room 1 0 0 no_value t) (go t))
      at true =
          let i = f.inside in
          fine_token 0 1 1 0 0 no_value t f (record { kind_from = lit≤ tt; kind_to = lit≤ tt; among = refl; newline = λ e l. absurd (omega arith) }) (omega arith) (omega arith) (omega arith)
      at false = (looser t f, omega arith)

  finish_keeps : (t : State) → t.at ≡ n → Fine s token_room error_room 0 t → Keeps s token_room error_room (finish token_room error_room t)
  finish_keeps t end f =
      then_keeps (closing token_room error_room t) 1 0 0 t (λ u. and_then (token token_room error_room 0 0 0 no_value u) u (kept 0)) (omega arith) f (closing_fine t f)
      (λ u g e. eof_keeps u (omega arith) g)

  emit_keeps : (xs : List Item) (t : State) → Sounds xs (drop t.at s) → t.at + total xs ≡ n → Fine s token_room error_room 0 t → Keeps s token_room error_room (emit token_room error_room xs t)
  emit_keeps [] t z e f = finish_keeps t (omega arith) f
  emit_keeps (x ∷ xs) t z e f =
      then_keeps (step token_room error_room x t) 0 0 (size_of x) t (emit token_room error_room xs) (omega arith) f (fine_step x t z.0 f (omega arith))
      (λ u g h. emit_keeps xs u (subst (Sounds xs) (drop-drop (size_of x) t.at s ∙ ap (λ (j : ℕ). drop j s) (sym h)) z.1) (omega arith) g)

-- every lexing keeps good tokens and errors, within the rooms
pub lexed_keeps : (rule : ℕ) (s : List ℕ) (token_room error_room : ℕ) → Keeps s token_room error_room (lexed rule s token_room error_room)
unfolding lexed
lexed_keeps rule s token_room error_room =
    let e : total (items rule s 0) + 0 ≡ length s = items_total rule s 0 (omega arith) in
    emit_keeps s token_room error_room (items rule s 0) fresh (items_sound rule s 0) (omega arith)
    (record {
      tokens_good = none;
      tokens_begin = none;
      errors_good = none;
      order = (0, 1, first, lit≤ tt, lit≤ tt);
      inside = omega arith;
      line_from = lit≤ tt;
      line_to = lit≤ tt;
      few = lit≤ tt;
      token_room_held = omega arith;
      error_room_held = omega arith;
    })
