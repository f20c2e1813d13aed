-- The lexing over the tables is the lexing of the definition: the kept records stand at the front, and after them every word is as it was.
-- Assumes nothing.
use mathlib.Core.Path.{◌≡◌, refl, sym, ap, ◌∙◌, subst⁻¹}
use mathlib.Core.Bool.{Bool, true, false, not, ◌&&◌}
use mathlib.Core.List.{List, [], ◌∷◌, ◌++◌}
use Prim.Native.Nat.{ℕ, ◌+◌, ◌*◌, ◌≤◌, ◌<◌}
use native.Mathlib.Omega.{arith}
use borrow.Author.Tests.{ltb-true, ltb-false, lt-ltb, le-ltb}
use lib.Dec.{ltb, eqb}
use lib.ListN.{length, take, drop, take-append-drop}
use lib.Seq.{length-take-le, drop-drop}
use Rattle.token.specs.Kind as kinds
use Rattle.literal.specs.declared.Words.{Words}
use Rattle.records.specs.Table.{room, put, token_width, error_width}
use Rattle.records.specs.Words.{token_words, error_words}
use Rattle.records.specs.declared.Outcome.{Outcome}
use Rattle.records.specs.declared.Outcome.TheVariants as outcomes
use Rattle.records.specs.Outcomes.{outcome_number, number_at_end}
use Rattle.records.specs.Outcomes as numbers
use Rattle.records.proofs.Rooms.{room_fits, room_length, next_start}
use Rattle.records.proofs.Put.{put_none, put_take, put_drop, put_length}
use Rattle.text.specs.Text.{is_text}
use Rattle.rules.specs.Rules.{known}
use Rattle.lexer.specs.declared.Lexer.{Lexer}
use Rattle.lexer.specs.declared.Scanned.{Scanned}
use Rattle.std.specs.Prelude.{Ok, Err}
use Rattle.lexer.specs.declared.Stop.{Stop}
use Rattle.items.specs.declared.Item.{Item}
use Rattle.items.specs.declared.Item.TheVariants.{Space, Comment, Name, Text, Number, Mark, Wrong}
use Rattle.items.specs.Items.{items}
use Rattle.lexer.specs.Lex.{State, Result, Onward, go, stop, pick_onward, kept, and_then, no_value, token, error, step, closing, finish, emit, lexed, refusal, pick_result, lexed_of, Lexing}
use Rattle.lexer.specs.Steps.{Next, stop_at, stopped, pick_next, Did, pick_did, on_in, emit_next, emit_table, emit_in, error_next, error_table, token_more, token_of, error_more, error_of, string_words, number_words, step_in, close_in, then_in, eof_in, finish_in, scan_in, start, answer_of, Does}

-- ---- a table t that was u at first, with n records of w words written at its front
pub record Grown (w : ℕ) (u t : List ℕ) (n : ℕ) : Type 0 where
  pub same : length t ≡ length u
  pub fits : w * n ≤ length t
  pub rest : drop (w * n) t ≡ drop (w * n) u

grown_put : (w : ℕ) (u t : List ℕ) (n : ℕ) (ws : List ℕ) → length ws ≡ w → n < room w t → Grown w u t n → Grown w u (put w t n ws) (n + 1)
grown_put w u t n ws long h g =
    let e : w * (n + 1) ≡ w * n + w = next_start w n in
    let f : w * n + w ≤ length t = room_fits w t n h in
    let l : length (put w t n ws) ≡ length t = put_length w t n ws long in
    record {
      same = l ∙ g.same;
      fits = omega arith;
      rest =
          put_drop w t n ws long h
          ∙ ap (λ (k : ℕ). drop k t) e
          ∙ sym (drop-drop w (w * n) t)
          ∙ ap (drop w) g.rest
          ∙ drop-drop w (w * n) u
          ∙ ap (λ (k : ℕ). drop k u) (sym e);
    }

-- the table is its records, and what followed them at first
grown_whole : (w : ℕ) (u t : List ℕ) (n : ℕ) → Grown w u t n → t ≡ take (w * n) t ++ drop (length (take (w * n) t)) u
grown_whole w u t n g =
    sym (take-append-drop (w * n) t)
    ∙ ap (λ (l : List ℕ). take (w * n) t ++ l) (g.rest ∙ ap (λ (m : ℕ). drop m u) (sym (length-take-le (w * n) t g.fits)))

-- the room is that of the table at first
grown_room : (w : ℕ) (u t : List ℕ) (n : ℕ) → Grown w u t n → room w t ≡ room w u
grown_room w u t n g = room_length w t u g.same

-- the definition's state, read off the code's state and the tables
abbrev state_of : Lexer → List ℕ → List ℕ → State
state_of l t e = record {
  at = l.current;
  line = l.line;
  token_count = l.tokens;
  last = l.last;
  tokens = take (token_width * l.tokens) t;
  error_count = l.errors;
  errors = take (error_width * l.errors) e;
}

-- the same state with other words
abbrev with_tokens : State → List ℕ → State
with_tokens v x = record { at = v.at; line = v.line; token_count = v.token_count; last = v.last; tokens = x; error_count = v.error_count; errors = v.errors }

abbrev with_errors : State → List ℕ → State
with_errors v x = record { at = v.at; line = v.line; token_count = v.token_count; last = v.last; tokens = v.tokens; error_count = v.error_count; errors = x }

-- ---- for tables that were u and f at first
module _ (u f : List ℕ) where
  abbrev Both : Lexer → List ℕ → List ℕ → Type 0
  Both l t e = Grown token_width u t l.tokens × Grown error_width f e l.errors

  -- a step of the definition and one from l over the tables t, e that leaves t', e'
  abbrev Agree : Lexer → List ℕ → List ℕ → List ℕ → List ℕ → Onward → Next → Type 0
  Agree l t e t' e' (go v) (Ok m) = (v ≡ state_of m t' e') × Both m t' e'
  Agree l t e t' e' (go v) (Err s) = ⊥
  Agree l t e t' e' (stop a) (Ok m) = ⊥
  Agree l t e t' e' (stop a) (Err s) = (a ≡ outcome_number s.outcome) × (s ≡ stop_at s.outcome l) × (t' ≡ t) × (e' ≡ e)

  abbrev Says : Result → Did → Type 0
  Says d o = Lexing d (answer_of o.next) u o.tokens f o.errors

  -- what is kept when it ends
  says_kept : (o : Outcome) (l : Lexer) (t e : List ℕ) → Both l t e → Says (kept (outcome_number o) (state_of l t e)) (record { next = stopped o l; tokens = t; errors = e })
  says_kept o l t e g = record {
    outcome_is = refl;
    tokens_are = refl;
    errors_are = refl;
    token_table = grown_whole token_width u t l.tokens g.0;
    error_table_lem = grown_whole error_width f e l.errors g.1;
  }

  -- a stop keeps what came before
  says_stop : (a : ℕ) (s : Stop) (l : Lexer) (t e t' e' : List ℕ) → Both l t e → Agree l t e t' e' (stop a) (Err s)
      → Says (kept a (state_of l t e)) (record { next = Err s; tokens = t'; errors = e' })
  says_stop a s l t e t' e' g h =
      subst⁻¹ (λ (b : ℕ). Says (kept b (state_of l t e)) (record { next = Err s; tokens = t'; errors = e' })) h.0
      (subst⁻¹ (λ (z : Stop). Says (kept (outcome_number s.outcome) (state_of l t e)) (record { next = Err z; tokens = t'; errors = e' })) h.1
      (subst⁻¹ (λ (v : List ℕ). Says (kept (outcome_number s.outcome) (state_of l t e)) (record { next = stopped s.outcome l; tokens = v; errors = e' })) h.2
      (subst⁻¹ (λ (v : List ℕ). Says (kept (outcome_number s.outcome) (state_of l t e)) (record { next = stopped s.outcome l; tokens = t; errors = v })) h.3 (says_kept s.outcome l t e g))))

  -- on with the next state, or a stop
  says_then : (a : Onward) (x : Next) (l : Lexer) (t e t' e' : List ℕ) (k : State → Result) (j : Lexer → List ℕ → List ℕ → Did)
      → Both l t e → Agree l t e t' e' a x → ((m : Lexer) → Both m t' e' → Says (k (state_of m t' e')) (j m t' e'))
      → Says (and_then a (state_of l t e) k) (then_in x t' e' j)
  says_then (go v) (Ok m) l t e t' e' k j g h c = subst⁻¹ (λ (s : State). Says (k s) (j m t' e')) h.0 (c m h.1)
  says_then (go v) (Err s) l t e t' e' k j g h c = absurd h
  says_then (stop a) (Ok m) l t e t' e' k j g h c = absurd h
  says_then (stop a) (Err s) l t e t' e' k j g h c = says_stop a s l t e t' e' g h

  -- the last step
  says_end : (a : Onward) (x : Next) (l : Lexer) (t e t' e' : List ℕ) → Both l t e → Agree l t e t' e' a x
      → Says (and_then a (state_of l t e) (kept numbers.ended)) (record { next = x; tokens = t'; errors = e' })
  says_end (go v) (Ok m) l t e t' e' g h = subst⁻¹ (λ (s : State). Says (kept numbers.ended s) (record { next = Ok m; tokens = t'; errors = e' })) h.0 (says_kept outcomes.Ended m t' e' h.1)
  says_end (go v) (Err s) l t e t' e' g h = absurd h
  says_end (stop a) (Ok m) l t e t' e' g h = absurd h
  says_end (stop a) (Err s) l t e t' e' g h = says_stop a s l t e t' e' g h

  -- ---- each step agrees
  -- a record that has room, or has none; the definition tests the room of the table at first
  push_agrees : (b c : Bool) (v : State) (m : Lexer) (o : Outcome) (l : Lexer) (t e t' e' : List ℕ) → c ≡ b → (b ≡ true → (v ≡ state_of m t' e') × Both m t' e') → (b ≡ false → (t' ≡ t) × (e' ≡ e))
      → Agree l t e t' e' (pick_onward c (go v) (stop (outcome_number o))) (pick_next b (Ok m) (stopped o l))
  push_agrees b c v m o l t e t' e' same some none =
      subst⁻¹ (λ (d : Bool). Agree l t e t' e' (pick_onward d (go v) (stop (outcome_number o))) (pick_next b (Ok m) (stopped o l))) same (at b some none)
    where
      at : (d : Bool) → (d ≡ true → (v ≡ state_of m t' e') × Both m t' e') → (d ≡ false → (t' ≡ t) × (e' ≡ e)) → Agree l t e t' e' (pick_onward d (go v) (stop (outcome_number o))) (pick_next d (Ok m) (stopped o l))
      at true some none = some refl
      at false some none = (refl, refl, (none refl).0, (none refl).1)

  module _ (l : Lexer) (t e : List ℕ) (g : Both l t e) where
    token_agrees : (kind n m : ℕ) (w : Words)
        → Agree l t e (emit_table l kind n m w t) e (token (room token_width u) (room error_width f) kind n m w (state_of l t e)) (emit_next l kind n m t)
    token_agrees kind n m w =
        let ws = token_words (token_of l kind n m w) in
        let r = room token_width t in
        push_agrees (ltb l.tokens r) _ _ (token_more l kind n m) outcomes.NoTokenRoom l t e _ e (ap (ltb l.tokens) (sym (grown_room token_width u t l.tokens g.0)))
        (λ h. (
          ap (λ (x : List ℕ). with_tokens (state_of (token_more l kind n m) t e) x) (sym (put_take token_width t l.tokens ws refl (ltb-true l.tokens r h))),
          (grown_put token_width u t l.tokens ws refl (ltb-true l.tokens r h) g.0, g.1),
        ))
        (λ h. (put_none token_width t l.tokens ws (ltb-false l.tokens r h), refl))

    error_agrees : (message n m : ℕ)
        → Agree l t e t (error_table l message m e) (error (room token_width u) (room error_width f) message n m (state_of l t e)) (error_next l n m e)
    error_agrees message n m =
        let ws = error_words (error_of l message m) in
        let r = room error_width e in
        push_agrees (ltb l.errors r) _ _ (error_more l n m) outcomes.NoErrorRoom l t e t _ (ap (ltb l.errors) (sym (grown_room error_width f e l.errors g.1)))
        (λ h. (
          ap (λ (x : List ℕ). with_errors (state_of (error_more l n m) t e) x) (sym (put_take error_width e l.errors ws refl (ltb-true l.errors r h))),
          (g.0, grown_put error_width f e l.errors ws refl (ltb-true l.errors r h) g.1),
        ))
        (λ h. (refl, put_none error_width e l.errors ws (ltb-false l.errors r h)))

    -- one of two
    either : (b : Bool) (x y : Onward) (c d : Did) → Agree l t e c.tokens c.errors x c.next → Agree l t e d.tokens d.errors y d.next
        → Agree l t e (pick_did b c d).tokens (pick_did b c d).errors (pick_onward b x y) (pick_did b c d).next
    either true x y c d h i = h
    either false x y c d h i = i

    step_agrees : (x : Item)
        → Agree l t e (step_in x l t e).tokens (step_in x l t e).errors (step (room token_width u) (room error_width f) x (state_of l t e)) (step_in x l t e).next
    step_agrees Space = (refl, g)
    step_agrees (Comment n) = (refl, g)
    step_agrees (Name k n) = token_agrees k n 0 no_value
    step_agrees (Text n m d) = token_agrees kinds.string_kind n m (string_words l n d)
    step_agrees (Number x) =
        either x.cut (stop number_at_end) _ (record { next = stopped outcomes.NumberAtEnd l; tokens = t; errors = e }) (emit_in l kinds.number_kind x.size 0 (number_words l x.size x.whole x.places) t e)
        (refl, refl, refl, refl) (token_agrees kinds.number_kind x.size 0 (number_words l x.size x.whole x.places))
    step_agrees (Mark k n m) = token_agrees k n m no_value
    step_agrees (Wrong message n m) = error_agrees message n m

    close_agrees : Agree l t e (close_in l t e).tokens (close_in l t e).errors (closing (room token_width u) (room error_width f) (state_of l t e)) (close_in l t e).next
    close_agrees =
        either (ltb 0 l.tokens && not (eqb l.last kinds.newline_kind)) _ (go (state_of l t e)) (emit_in l kinds.newline_kind 0 0 no_value t e) (on_in l t e) (token_agrees kinds.newline_kind 0 0 no_value) (refl, g)

  -- ---- the whole
  finish_says : (l : Lexer) (t e : List ℕ) → Both l t e → Says (finish (room token_width u) (room error_width f) (state_of l t e)) (finish_in l t e)
  finish_says l t e g =
      says_then (closing (room token_width u) (room error_width f) (state_of l t e)) (close_in l t e).next l t e (close_in l t e).tokens (close_in l t e).errors
      (λ v. and_then (token (room token_width u) (room error_width f) kinds.eof_kind 0 0 no_value v) v (kept numbers.ended)) eof_in g (close_agrees l t e g)
      (λ m b. says_end _ _ m _ _ _ _ b (token_agrees m (close_in l t e).tokens (close_in l t e).errors b kinds.eof_kind 0 0 no_value))

  scan_says : (xs : List Item) (l : Lexer) (t e : List ℕ) → Both l t e → Says (emit (room token_width u) (room error_width f) xs (state_of l t e)) (scan_in xs l t e)
  scan_says [] l t e g = finish_says l t e g
  scan_says (x ∷ xs) l t e g =
      says_then (step (room token_width u) (room error_width f) x (state_of l t e)) (step_in x l t e).next l t e (step_in x l t e).tokens (step_in x l t e).errors
      (emit (room token_width u) (room error_width f) xs) (scan_in xs) g (step_agrees l t e g x)
      (λ m b. scan_says xs m (step_in x l t e).tokens (step_in x l t e).errors b)

-- ---- from fresh tables: what the code did is the lexing
pub lexes : (rule : ℕ) (s u f u' f' : List ℕ) (r : Next) → Does (scan_in (items rule s 0) start u f) r u' f'
    → Lexing (lexed rule s (room token_width u) (room error_width f)) (answer_of r) u u' f f'
unfolding lexed
lexes rule s u f u' f' r d =
    rw (d.next_is, d.tokens_are, d.errors_are)
    (scan_says u f (items rule s 0) start u f (record { same = refl; fits = omega arith; rest = refl }, record { same = refl; fits = omega arith; rest = refl }))

-- ---- the entry: the rule is tested first, then the length, then the text
module _ (rule : ℕ) (s u f u' f' : List ℕ) (r : Scanned) where
  refusing : (o : ℕ) → r ≡ record { outcome = o; tokens = 0; errors = 0 } → u' ≡ u → f' ≡ f → Lexing (refusal o) r u u' f f'
  refusing o e g h = record {
    outcome_is = ap (λ (x : Scanned). x.outcome) e;
    tokens_are = ap (λ (x : Scanned). x.tokens) e;
    errors_are = ap (λ (x : Scanned). x.errors) e;
    token_table = g;
    error_table_lem = h;
  }

  -- by the three tests
  abbrev tested : Bool → Bool → Bool → Result
  tested k a b = pick_result (not k) (refusal numbers.wrong_rule) (pick_result a (refusal numbers.too_long) (pick_result (not b) (refusal numbers.not_text) (lexed rule s (room token_width u) (room error_width f))))

  abbrev Lexes : Result → Type 0
  Lexes d = Lexing d r u u' f f'

  by : (k a b : Bool) → known rule ≡ k → ltb 65535 (length s) ≡ a → is_text s ≡ b → Lexes (tested k a b) → Lexes (lexed_of rule s (room token_width u) (room error_width f))
  unfolding lexed_of
  by k a b e g h d =
      subst⁻¹ (λ (c : Bool). Lexes (tested c (ltb 65535 (length s)) (is_text s))) e
      (subst⁻¹ (λ (c : Bool). Lexes (tested k c (is_text s))) g
      (subst⁻¹ (λ (c : Bool). Lexes (tested k a c)) h d))

  pub wrong_rule_case : known rule ≡ false → r ≡ record { outcome = numbers.wrong_rule; tokens = 0; errors = 0 } → u' ≡ u → f' ≡ f
      → Lexes (lexed_of rule s (room token_width u) (room error_width f))
  wrong_rule_case w e g h = by false (ltb 65535 (length s)) (is_text s) w refl refl (refusing numbers.wrong_rule e g h)

  pub too_long_case : known rule ≡ true → 65535 < length s → r ≡ record { outcome = numbers.too_long; tokens = 0; errors = 0 } → u' ≡ u → f' ≡ f
      → Lexes (lexed_of rule s (room token_width u) (room error_width f))
  too_long_case w l e g h = by true true (is_text s) w (lt-ltb _ _ l) refl (refusing numbers.too_long e g h)

  pub no_text : known rule ≡ true → length s ≤ 65535 → is_text s ≡ false → r ≡ record { outcome = numbers.not_text; tokens = 0; errors = 0 } → u' ≡ u → f' ≡ f
      → Lexes (lexed_of rule s (room token_width u) (room error_width f))
  no_text w l n e g h = by true false false w (le-ltb _ _ l) n (refusing numbers.not_text e g h)

-- and where all three pass, what the code did is the lexing
pub text_case : (rule : ℕ) (s u f u' f' : List ℕ) (r : Next) → known rule ≡ true → length s ≤ 65535 → is_text s ≡ true
    → Does (scan_in (items rule s 0) start u f) r u' f' → Lexing (lexed_of rule s (room token_width u) (room error_width f)) (answer_of r) u u' f f'
text_case rule s u f u' f' r w l n d = by rule s u f u' f' (answer_of r) true false true w (le-ltb _ _ l) n (lexes rule s u f u' f' r d)
