-- A name's letters as a number: among the words of its length the number tells which it is, or that it is none. Assumes nothing.
use mathlib.Core.Path.{◌≡◌, refl, sym, ap, ◌∙◌}
use mathlib.Core.Bool.{Bool, true, false, cond}
use mathlib.Core.List.{List, [], ◌∷◌}
use Prim.Native.Nat.{ℕ, suc, ◌+◌, ◌*◌}
use Prim.Native.String.{String}
use native.Mathlib.Omega.{arith}
use mir.Syntax.{w8}
use mir.Val.{Fits}
use lib.Dec.{T, ltb, ltb→lt}
use lib.Ieee.Fits.{and_l, and_r}
use lib.ListN.{length, get_or}
use lib.Pow.{are_bytes}
use Rattle.token.specs.Keyword.{same, Entry, lookup, table, keyword_of}
use Rattle.token.specs.Page.{spelt, sized, letters_from}
use Rattle.token.proofs.Same.{same_true}
use Rattle.token.proofs.Sized.{of_length}

-- ---- of one length no two words have the same number
one_word : (p q : ℕ) (x w : List ℕ) → ((i : ℕ) → Fits w8 (get_or x i 0)) → T (are_bytes w) → length x ≡ length w → letters_from p x ≡ letters_from q w → (p ≡ q) × (x ≡ w)
one_word p q [] [] f t l e = (e, refl)
one_word p q [] (b ∷ w) f t l e = absurd (omega arith)
one_word p q (a ∷ x) [] f t l e = absurd (omega arith)
one_word p q (a ∷ x) (b ∷ w) f t l e =
    let (h, k) = one_word (p * 256 + a) (q * 256 + b) x w (λ i. f (suc i)) (and_r (ltb b 256) (are_bytes w) t) (omega arith) e in
    let g = f 0 in
    let d = ltb→lt b 256 (and_l (ltb b 256) (are_bytes w) t) in
    let o : a ≡ b = omega arith in
    (omega arith, rw (o, k))

-- a name with the length and the number of a text is that text
pub found : (s : String) (x : List ℕ) {n : ℕ} → ((i : ℕ) → Fits w8 (get_or x i 0)) → T (are_bytes (spelt s)) → length x ≡ length (spelt s)
    → n ≡ letters_from 0 x → n ≡ letters_from 0 (spelt s) → keyword_of (spelt s) ≡ keyword_of x
found s x f t l e h = ap keyword_of (sym (one_word 0 0 x (spelt s) f t l (sym e ∙ h)).1)

-- ---- a number that no word has
-- A, and n is the number of no word of ks: a pair for each word, as a `match` has it in its last arm
abbrev Apart : Type 0 → ℕ → List Entry → Type 0
Apart A n [] = A
Apart A n (k ∷ ks) = Apart (A × (n ≡ letters_from 0 k.word → ⊥)) n ks

none : (A : Type 0) (n : ℕ) (x : List ℕ) (ks : List Entry) → n ≡ letters_from 0 x → Apart A n ks → A × (lookup x ks ≡ 25)
none A n x [] e a = (a, refl)
none A n x (k ∷ ks) e a = go (same x k.word) refl (none (A × (n ≡ letters_from 0 k.word → ⊥)) n x ks e a)
  where
    go : (t : Bool) → same x k.word ≡ t → (A × (n ≡ letters_from 0 k.word → ⊥)) × (lookup x ks ≡ 25) → A × (cond t k.kind (lookup x ks) ≡ 25)
    go true s r = absurd (r.0.1 (e ∙ ap (letters_from 0) (same_true x k.word s)))
    go false s r = (r.0.0, r.1)

-- a name of l letters whose number no word of l letters has is no keyword
pub missed : (l : ℕ) (x : List ℕ) {n : ℕ} → length x ≡ l → n ≡ letters_from 0 x → Apart (Unit {0}) n (sized l table) → 25 ≡ keyword_of x
missed l x {n} h e a = sym (sym (of_length x l h) ∙ (none (Unit {0}) n x (sized l table) e a).1)
