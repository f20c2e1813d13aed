-- One item further: in the items, and in the lexing over the tables. Assumes nothing.
use mathlib.Core.Path.{◌≡◌, refl, sym, ap, ◌∙◌, subst}
use mathlib.Core.Bool.{Bool, true, false}
use mathlib.Core.List.{List, [], ◌∷◌}
use Prim.Native.Nat.{ℕ, zero, suc, ◌+◌, ◌≤◌, ◌<◌}
use native.Mathlib.Nat.{add-zero}
use native.Mathlib.Omega.{arith}
use lib.Dec.{ltb}
use lib.ListN.{length, drop}
use lib.Seq.{drop-cons, drop-drop, drop-nil}
use Rattle.std.specs.Prelude.{Ok, Err}
use Rattle.records.specs.Table.{room, token_width, error_width}
use Rattle.lexer.specs.declared.Lexer.{Lexer}
use Rattle.lexer.specs.declared.Stop.{Stop}
use Rattle.items.specs.declared.Item.{Item}
use Rattle.items.specs.declared.Item.TheVariants.{Space, Comment, Name, Text, Number, Mark, Wrong}
use Rattle.items.proofs.Bounds.{bounded_at}
use Rattle.items.specs.Items.{size_of, lines_of, item_at, less, items}
use Rattle.lexer.specs.Steps.{Next, pick_next, Did, pick_did, emit_next, step_in, then_in, scan_in, Does}

skip : (rule : ℕ) (l : List ℕ) (k : ℕ) → items rule l k ≡ items rule (drop k l) 0
skip rule [] k = rw drop-nil
skip rule (b ∷ s) zero = refl
skip rule (b ∷ s) (suc k) = skip rule s k

less_suc : (n : ℕ) → 1 ≤ n → suc (less n) ≡ n
less_suc zero h = absurd (omega arith)
less_suc (suc n) h = refl

pub turn : (rule : ℕ) (s : List ℕ) (i : ℕ) (x : Item) → i < length s → x ≡ item_at rule (drop i s) → 1 ≤ size_of x
    → items rule (drop i s) 0 ≡ x ∷ items rule (drop (i + size_of x) s) 0
turn rule s i x h e p =
    let first : items rule (drop i s) 0 ≡ item_at rule (drop i s) ∷ items rule (drop (suc i) s) (less (size_of (item_at rule (drop i s)))) = rw (drop-cons s i 0) in
    let place : suc i + less (size_of x) ≡ i + size_of x = omega (arith, less_suc (size_of x) p) in
    first
    ∙ ap (λ (y : Item). y ∷ items rule (drop (suc i) s) (less (size_of y))) (sym e)
    ∙ ap (λ (l : List Item). x ∷ l)
    (skip rule (drop (suc i) s) (less (size_of x)) ∙ ap (λ (l : List ℕ). items rule l 0) (drop-drop (less (size_of x)) (suc i) s ∙ ap (λ (m : ℕ). drop m s) place))

-- ---- n bytes and k newlines further, where it goes on
abbrev pub Moved : Lexer → ℕ → ℕ → Next → Type 0
Moved l n k (Ok m) = (m.current ≡ l.current + n) × (m.line ≡ l.line + k)
Moved l n k (Err s) = Unit

picked : (b : Bool) (l m : Lexer) (s : Stop) (n k : ℕ) → Moved l n k (Ok m) → Moved l n k (pick_next b (Ok m) (Err s))
picked true l m s n k h = h
picked false l m s n k h = tt

either : (b : Bool) (l : Lexer) (n k : ℕ) (x y : Did) → Moved l n k x.next → Moved l n k y.next → Moved l n k (pick_did b x y).next
either true l n k x y h i = h
either false l n k x y h i = i

emit_moved : (l : Lexer) (kind n k : ℕ) (t : List ℕ) → Moved l n k (emit_next l kind n k t)
emit_moved l kind n k t = picked (ltb l.tokens (room token_width t)) l _ _ n k (refl, refl)

step_moved : (x : Item) (l : Lexer) (t e : List ℕ) → Moved l (size_of x) (lines_of x) (step_in x l t e).next
step_moved Space l t e = (refl, sym (add-zero l.line))
step_moved (Comment n) l t e = (refl, sym (add-zero l.line))
step_moved (Name k n) l t e = emit_moved l k n 0 t
step_moved (Text n m d) l t e = emit_moved l _ n m t
step_moved (Number x) l t e = either x.cut l x.size 0 _ _ tt (emit_moved l _ x.size 0 t)
step_moved (Mark k n m) l t e = emit_moved l k n m t
step_moved (Wrong message n m) l t e = picked (ltb l.errors (room error_width e)) l _ _ n m (refl, refl)

-- ---- the lexing over the tables, by a step that the code did for the item at its place
module _ (rule : ℕ) (s t e t' e' : List ℕ) (l : Lexer) (x : Item) (r : Next)
    (h : l.current < length s) (is : x ≡ item_at rule (drop l.current s)) (d : Does (step_in x l t e) r t' e') where
  abbrev rest : Lexer → List ℕ → List ℕ → Did
  rest = scan_in (items rule (drop (l.current + size_of x) s) 0)

  step : scan_in (items rule (drop l.current s) 0) l t e ≡ then_in r t' e' rest
  step =
      ap (λ (xs : List Item). scan_in xs l t e) (turn rule s l.current x h is (bounded_at rule s l.current x h is).0)
      ∙ ap (λ (y : Next). then_in y (step_in x l t e).tokens (step_in x l t e).errors rest) (sym d.next_is)
      ∙ ap (λ (u : List ℕ). then_in r u (step_in x l t e).errors rest) (sym d.tokens_are)
      ∙ ap (λ (f : List ℕ). then_in r t' f rest) (sym d.errors_are)

  -- it goes on at the next place, where the rest is lexed
  pub goes_on : (m : Lexer) → r ≡ Ok m → l.line ≤ l.current + 1
      → (l.current < m.current) × (m.current ≤ length s) × (m.line ≤ m.current + 1)
      × (scan_in (items rule (drop l.current s) 0) l t e ≡ scan_in (items rule (drop m.current s) 0) m t' e')
  goes_on m f k =
      let z = bounded_at rule s l.current x h is in
      let g : Moved l (size_of x) (lines_of x) (Ok m) = subst (Moved l (size_of x) (lines_of x)) (sym d.next_is ∙ f) (step_moved x l t e) in (
        omega arith,
        omega arith,
        omega arith,
        step ∙ ap (λ (y : Next). then_in y t' e' rest) f ∙ ap (λ (j : ℕ). scan_in (items rule (drop j s) 0) m t' e') (sym g.0),
      )

  -- or stops there
  pub stops : (z : Stop) → r ≡ Err z → scan_in (items rule (drop l.current s) 0) l t e ≡ record { next = Err z; tokens = t'; errors = e' }
  stops z f = step ∙ ap (λ (y : Next). then_in y t' e' rest) f
