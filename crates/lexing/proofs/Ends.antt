-- How a lexing ends; under rule two it is never with 2. Assumes nothing.
use mathlib.Core.Path.{◌≡◌, refl, sym, subst, ◌∙◌}
use mathlib.Core.Bool.{Bool, true, false, not, ◌&&◌}
use mathlib.Core.List.{List, [], ◌∷◌}
use Prim.Native.Nat.{ℕ, zero, suc}
use native.Mathlib.Omega.{arith}
use lib.Dec.{T, ltb, eqb}
use lib.ListN.{length}
use Rattle.std.specs.Prelude.{Option, Some, None, Ok, Err}
use Rattle.rules.specs.Rules.{two, known, is_two}
use Rattle.text.specs.Text.{is_text}
use Rattle.numbers.specs.Number.{number_of}
use Rattle.strings.specs.Strings.{Ended, read_of, begun}
use Rattle.items.specs.declared.Sign.TheVariants.{Newline, Blank, Hash, Quote, Single, Pair, Illegal}
use Rattle.items.specs.declared.Item.{Item}
use Rattle.items.specs.declared.Item.TheVariants.{Space, Comment, Name, Text, Number, Mark, Wrong}
use Rattle.items.specs.Items.{Class, letter, digit, sign, class_of, pick_item, text_item, lone, pair_at, item_as, item_of, size_of, less, items}
use Rattle.lexer.specs.Lex.{State, Result, Onward, go, stop, pick_onward, kept, and_then, no_value, token, step, closing, emit, fresh, refusal, pick_result, lexed, lexed_of}
use Rattle.lexing.specs.Ends.{Lexed, ended, cut, token_room_held, error_room_held, Ends, wrong_rule_case, too_long_case, not_text_case, lexes}

module _ (rule : ℕ) where
  -- ---- where lexing stops at a number, the rule is not two
  abbrev pub Sound : Item → Type 0
  Sound Space = Unit {0}
  Sound (Comment n) = Unit {0}
  Sound (Name k n) = Unit {0}
  Sound (Text n m l) = Unit {0}
  Sound (Number x) = x.cut ≡ true → is_two rule ≡ false
  Sound (Mark k n m) = Unit {0}
  Sound (Wrong e n m) = Unit {0}

  lone_sound : (k : Option ℕ) → Sound (lone k)
  lone_sound None = tt
  lone_sound (Some k) = tt

  pair_sound : (k : Option ℕ) (l : ℕ) (s : List ℕ) → Sound (pair_at k l s)
  pair_sound k l [] = lone_sound k
  pair_sound k l (x ∷ s) = at (eqb x 61)
    where
      at : (b : Bool) → Sound (pick_item b (Mark l 2 0) (lone k))
      at true = tt
      at false = lone_sound k

  text_sound : (x : Ended) → Sound (text_item x)
  text_sound (Ok c) = tt
  text_sound (Err b) = tt

  -- a number that is cut, and a rule that stops at it
  number_sound : (b c : Bool) → not b && c ≡ true → b ≡ false
  number_sound true c h = sym h
  number_sound false c h = refl

  item_sound : (z : Class) (b : ℕ) (s : List ℕ) → Sound (item_as rule z b s)
  item_sound letter b s = tt
  item_sound digit b s = number_sound (is_two rule) (number_of b s).cut
  item_sound (sign Newline) b s = tt
  item_sound (sign Blank) b s = tt
  item_sound (sign Hash) b s = tt
  item_sound (sign Quote) b s = text_sound (read_of s begun)
  item_sound (sign (Single k)) b s = tt
  item_sound (sign (Pair k l)) b s = pair_sound k l s
  item_sound (sign Illegal) b s = tt

  abbrev pub Sounds : List Item → Type 0
  Sounds [] = Unit {0}
  Sounds (x ∷ xs) = Sound x × Sounds xs

  items_sound : (s : List ℕ) (k : ℕ) → Sounds (items rule s k)
  items_sound [] k = tt
  items_sound (b ∷ s) zero = (item_sound (class_of b) b s, items_sound s (less (size_of (item_of rule b s))))
  items_sound (b ∷ s) (suc k) = items_sound s k

  -- ---- where a step stops, it is with such an outcome
  abbrev Stops : Onward → Type 0
  Stops (go u) = Unit {0}
  Stops (stop o) = Lexed rule o

  pick_stops : (b : Bool) (x y : Onward) → (b ≡ true → Stops x) → Stops y → Stops (pick_onward b x y)
  pick_stops true x y g h = g refl
  pick_stops false x y g h = h

  then_ends : (x : Onward) (t : State) (k : State → Result) → Stops x → ((u : State) → Lexed rule (k u).outcome) → Lexed rule (and_then x t k).outcome
  then_ends (go u) t k g h = h u
  then_ends (stop o) t k g h = g

  module _ (a b : ℕ) where
    token_stops : (k n m : ℕ) (w : _) (t : State) → Stops (token a b k n m w t)
    token_stops k n m w t = pick_stops (ltb t.token_count a) _ _ (λ _. tt) token_room_held

    step_stops : (x : Item) → Sound x → (t : State) → Stops (step a b x t)
    step_stops Space h t = tt
    step_stops (Comment n) h t = tt
    step_stops (Name k n) h t = token_stops k n 0 _ t
    step_stops (Text n m l) h t = token_stops 26 n m _ t
    step_stops (Number x) h t = pick_stops x.cut _ _ (λ c. cut (h c)) (token_stops 27 x.size 0 _ t)
    step_stops (Mark k n m) h t = token_stops k n m _ t
    step_stops (Wrong e n m) h t = pick_stops (ltb t.error_count b) _ _ (λ _. tt) error_room_held

    emit_ends : (xs : List Item) → Sounds xs → (t : State) → Lexed rule (emit a b xs t).outcome
    emit_ends [] h t =
        then_ends (closing a b t) t (λ u. and_then (token a b 0 0 0 no_value u) u (kept 0))
        (pick_stops (ltb 0 t.token_count && not (eqb t.last 1)) _ _ (λ _. token_stops 1 0 0 _ t) tt) λ u.
        then_ends (token a b 0 0 0 no_value u) u (kept 0) (token_stops 0 0 0 _ u) λ v. ended
    emit_ends (x ∷ xs) h t = then_ends (step a b x t) t (emit a b xs) (step_stops x h.0 t) (emit_ends xs h.1)

  -- a lexing ends so
  pub lexed_ends : (s : List ℕ) (a b : ℕ) → Lexed rule (lexed rule s a b).outcome
  unfolding lexed
  lexed_ends s a b = emit_ends a b (items rule s 0) (items_sound s 0) fresh

  -- of any bytes
  pub lexing_ends : (s : List ℕ) (a b : ℕ) → Ends rule (lexed_of rule s a b).outcome
  unfolding lexed_of
  lexing_ends s a b = at (known rule) refl (ltb 65535 (length s)) (is_text s)
    where
      at : (k : Bool) → known rule ≡ k → (x y : Bool)
          → Ends rule (pick_result (not k) (refusal 13) (pick_result x (refusal 4) (pick_result (not y) (refusal 3) (lexed rule s a b)))).outcome
      at false h x y = wrong_rule_case h
      at true h true y = too_long_case h
      at true h false false = not_text_case h
      at true h false true = lexes _ h (lexed_ends s a b)

-- ---- by the outcome: whatever holds of each that a lexing can end with holds of the one it ends with
pub ends_cases : (rule : ℕ) (P : ℕ → Type 0) → (known rule ≡ false → P 13)
    → (known rule ≡ true → P 4 × P 3 × P 0 × P 5 × P 6) → (known rule ≡ true → is_two rule ≡ false → P 2) → (o : ℕ) → Ends rule o → P o
ends_cases rule P w p c _ (wrong_rule_case h) = w h
ends_cases rule P w p c _ (too_long_case h) = (p h).0
ends_cases rule P w p c _ (not_text_case h) = (p h).1
ends_cases rule P w p c _ (lexes _ h ended) = (p h).2
ends_cases rule P w p c _ (lexes _ h (cut i)) = c h i
ends_cases rule P w p c _ (lexes _ h token_room_held) = (p h).3
ends_cases rule P w p c _ (lexes _ h error_room_held) = (p h).4

-- ---- rule two never ends with 2
pub ends_two : (rule o : ℕ) → is_two rule ≡ true → Ends rule o → o ≡ 2 → ⊥
ends_two rule o i x =
    ends_cases rule (λ (o : ℕ). o ≡ 2 → ⊥) (λ h e. omega (arith, e))
    (λ h. (λ e. omega (arith, e), λ e. omega (arith, e), λ e. omega (arith, e), λ e. omega (arith, e), λ e. omega (arith, e)))
    (λ h f e. subst T (sym i ∙ f) tt) o x

-- OUTCOME 2 NEVER OCCURS UNDER RULE TWO, in lexing
pub two_never : (s : List ℕ) (a b : ℕ) → (lexed_of two s a b).outcome ≡ 2 → ⊥
two_never s a b = ends_two two _ refl (lexing_ends two s a b)
