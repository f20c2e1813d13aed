-- Where two scripts are alike a string ends alike: a byte that may be exchanged for another has the same effect. Assumes nothing.
use mathlib.Core.Path.{◌≡◌, refl, sym, ap, ◌∙◌, subst}
use mathlib.Core.Bool.{Bool, true, false, not, ◌||◌, cond}
use mathlib.Core.List.{List, [], ◌∷◌}
use Prim.Native.Nat.{ℕ, zero, suc, ◌+◌, ◌≤◌}
use native.Mathlib.Omega.{arith}
use borrow.Author.Tests.{not-true}
use lib.Dec.{T, eqb, eqb→eq}
use lib.Ieee.Fits.{and_l, and_r}
use Rattle.std.specs.Prelude.{Ok, Err}
use Rattle.std.specs.declared.ops.ControlFlow.TheVariants.{Continue, Break}
use Rattle.strings.specs.declared.Reading.{Reading}
use Rattle.strings.specs.Strings.{Ended, Step, closed, broken, is_escape, pick_step, step_of, and_then, read_of, begun}
use Rattle.items.specs.Items.{text_item, size_of, less}
use Rattle.blackout.specs.Blackout.{Place, string, other, place_of, next, is_firm, may, alike_from}
use Rattle.blackout.proofs.Near.{is_true}

-- ---- strings
abbrev pub end_at : Ended → ℕ
end_at (Ok c) = c.size
end_at (Err b) = b.size

-- where a string's later bytes stand
abbrev pub place_in : Ended → Bool → Place
place_in (Ok c) e = string e
place_in (Err b) e = other

-- what a step does: one byte further, and the place of the next byte
abbrev pub Onward : ℕ → ℕ → Bool → Step → Type 0
Onward n b e (Continue u) = (u.at ≡ n + 1) × ((x : Ended) → next (place_in x e) b ≡ place_in x u.escaped)
Onward n b e (Break x) = end_at x ≡ n + 1

pub onward : (e : Bool) (n l m b : ℕ) → Onward n b e (step_of e n l m b)
onward true n l m b = go (is_escape b)
  where
    go : (t : Bool) → Onward n b true (pick_step t (Continue (record { escaped = false; at = n + 1; length = l + 1; lines = m })) (Break (broken (n + 1) m)))
    go true = (refl, λ x. elim x as (λ y. next (place_in y true) b ≡ place_in y false) [ Ok i ↦ refl | Err i ↦ refl ])
    go false = refl
onward false n l m b = go (eqb b 34) (eqb b 92) (eqb b 10) refl
  where
    go : (p q r : Bool) → eqb b 92 ≡ q
        → Onward n b false (pick_step p (Break (closed (n + 1) m l)) (pick_step q (Continue (record { escaped = true; at = n + 1; length = l; lines = m })) (pick_step r (Continue (record { escaped = false; at = n + 1; length = l + 1; lines = m + 1 })) (Continue (record { escaped = false; at = n + 1; length = l + 1; lines = m })))))
    go true q r e = refl
    go false true r e = (refl, λ x. elim x as (λ y. next (place_in y false) b ≡ place_in y true) [ Ok i ↦ ap string e | Err i ↦ refl ])
    go false false true e = (refl, λ x. elim x as (λ y. next (place_in y false) b ≡ place_in y false) [ Ok i ↦ ap string e | Err i ↦ refl ])
    go false false false e = (refl, λ x. elim x as (λ y. next (place_in y false) b ≡ place_in y false) [ Ok i ↦ ap string e | Err i ↦ refl ])

pub grows : (s : List ℕ) (t : Reading) → t.at ≤ end_at (read_of s t)
grows [] t = omega arith
grows (b ∷ s) t = go (step_of t.escaped t.at t.length t.lines b) (onward t.escaped t.at t.length t.lines b) (λ u. grows s u)
  where
    go : (x : Step) → Onward t.at b t.escaped x → ((u : Reading) → u.at ≤ end_at (read_of s u)) → t.at ≤ end_at (and_then x (read_of s))
    go (Continue u) o ih = omega (arith, ih u, o.0)
    go (Break y) o ih = omega arith

-- ---- by the rule
module _ (rule : ℕ) where
  -- a byte that may stand there has the same effect
  may_step : (x : Ended) (e : Bool) (n l m b c : ℕ) → T (may rule (place_in x e) b c) → step_of e n l m b ≡ step_of e n l m c
  may_step (Ok x) true n l m b c h = ap (step_of true n l m) (eqb→eq b c h)
  may_step (Ok x) false n l m b c h = go (is_firm b) refl h
    where
      go : (t : Bool) → is_firm b ≡ t → T (cond t (eqb b c) (not (is_firm c))) → step_of false n l m b ≡ step_of false n l m c
      go true e h = ap (step_of false n l m) (eqb→eq b c h)
      go false e h = soft b e ∙ sym (soft c (not-true (is_firm c) (is_true (not (is_firm c)) h)))
        where
          soft : (x : ℕ) → is_firm x ≡ false → step_of false n l m x ≡ Continue (record { escaped = false; at = n + 1; length = l + 1; lines = m })
          soft x e = at (eqb x 34) (eqb x 92) (eqb x 10) e
            where
              at : (p q r : Bool) → (p || (q || r)) ≡ false
                  → pick_step p (Break (closed (n + 1) m l)) (pick_step q (Continue (record { escaped = true; at = n + 1; length = l; lines = m })) (pick_step r (Continue (record { escaped = false; at = n + 1; length = l + 1; lines = m + 1 })) (Continue (record { escaped = false; at = n + 1; length = l + 1; lines = m }))))
                  ≡ Continue (record { escaped = false; at = n + 1; length = l + 1; lines = m })
              at true q r e = absurd (subst T e tt)
              at false true r e = absurd (subst T e tt)
              at false false true e = absurd (subst T e tt)
              at false false false e = refl
  may_step (Err x) e n l m b c h = ap (step_of e n l m) (eqb→eq b c h)

  read_same : (s r : List ℕ) (t : Reading) (k : ℕ) → end_at (read_of s t) ≡ t.at + k → T (alike_from rule (place_in (read_of s t) t.escaped) s r k) → read_of s t ≡ read_of r t
  read_same [] [] t k e h = refl
  read_same [] (c ∷ r) t k e h = absurd h
  read_same (b ∷ s) [] t k e h = absurd h
  read_same (b ∷ s) (c ∷ r) t zero e h = absurd (go (step_of t.escaped t.at t.length t.lines b) (onward t.escaped t.at t.length t.lines b) e)
    where
      go : (x : Step) → Onward t.at b t.escaped x → end_at (and_then x (read_of s)) ≡ t.at + 0 → ⊥
      go (Continue u) o e = omega (arith, grows s u, o.0)
      go (Break y) o e = omega arith
  read_same (b ∷ s) (c ∷ r) t (suc k) e h =
      go (step_of t.escaped t.at t.length t.lines b) (onward t.escaped t.at t.length t.lines b) e (λ u. read_same s r u k) (and_r (may rule (place_in (read_of (b ∷ s) t) t.escaped) b c) _ h)
      ∙ ap (λ (x : Step). and_then x (read_of r)) (may_step (read_of (b ∷ s) t) t.escaped t.at t.length t.lines b c (and_l (may rule (place_in (read_of (b ∷ s) t) t.escaped) b c) _ h))
    where
      go : (x : Step) → Onward t.at b t.escaped x → end_at (and_then x (read_of s)) ≡ t.at + suc k
          → ((u : Reading) → end_at (read_of s u) ≡ u.at + k → T (alike_from rule (place_in (read_of s u) u.escaped) s r k) → read_of s u ≡ read_of r u)
          → T (alike_from rule (next (place_in (and_then x (read_of s)) t.escaped) b) s r k) → and_then x (read_of s) ≡ and_then x (read_of r)
      go (Continue u) o e ih h = ih u (omega (arith, o.0)) (subst (λ (z : Place). T (alike_from rule z s r k)) (o.1 (read_of s u)) h)
      go (Break y) o e ih h = refl

  pub text_same : (s r : List ℕ) → T (alike_from rule (place_of (text_item (read_of s begun))) s r (less (size_of (text_item (read_of s begun))))) → read_of s begun ≡ read_of r begun
  text_same s r h = read_same s r begun (end_at (read_of s begun)) (omega arith) (go (read_of s begun) h)
    where
      go : (x : Ended) → T (alike_from rule (place_of (text_item x)) s r (less (size_of (text_item x)))) → T (alike_from rule (place_in x false) s r (end_at x))
      go (Ok x) h = h
      go (Err x) h = h
