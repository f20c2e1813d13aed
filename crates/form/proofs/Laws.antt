-- A text grows in a buffer, byte by byte, as far as there is room. Assumes nothing.
use mathlib.Core.Path.{◌≡◌, refl, sym, ap, subst, ◌∙◌}
use mathlib.Core.List.{List, [], ◌∷◌, ◌++◌, append-nil, append_assoc}
use Prim.Native.Nat.{ℕ, suc, ◌+◌, ◌*◌, ◌≤◌, ◌<◌}
use native.Mathlib.Numerals.{add-one}
use native.Mathlib.Omega.{arith}
use lib.ListN.{length, get_or, take, drop, set, length-append, length-drop}
use lib.Seq.{take_all, take-suc, take_at, take-append-le, drop-append-add, drop-drop, length-take-le, set_split}
use Rattle.io.specs.Digits.{last_digits, IsDigitCount}
use Rattle.form.specs.declared.Page.{Page}
use Rattle.form.specs.Text.{Holds, Adds, field, fields, line_of, lines_of}
use Rattle.form.proofs.Decimal.{decimal_is}

-- nothing is held in front
pub holds_nothing : (u : List ℕ) → Holds [] u u 0
holds_nothing u = record { count = omega arith; bytes = refl }

-- a buffer keeps its size
pub holds_length : (t B u : List ℕ) (at : ℕ) → Holds t B u at → length u ≡ length B
holds_length t B u at h =
    let c = h.count in
    let e = length-append (take at t) (drop at B) in
    let f = length-take-le at t (omega arith) in
    let g = length-drop at B in
    ap length h.bytes ∙ omega arith

-- what is held lies within the buffer
pub holds_within : (t B u : List ℕ) (at : ℕ) → Holds t B u at → at ≤ length u
holds_within t B u at h = let c = h.count in let l = holds_length t B u at h in omega arith

-- a byte finds room
pub push_in : (t B u : List ℕ) (at b : ℕ) → at < length u → Holds t B u at → Holds (t ++ (b ∷ [])) B (set u at b) (at + 1)
push_in t B u at b l h =
    let m = holds_length t B u at h in
    let e : at ≡ length t = (let c = h.count in omega arith) in
    let n = length-append t (b ∷ []) in
    let f : u ≡ t ++ drop at B = h.bytes ∙ ap (λ (x : List ℕ). x ++ drop at B) (take_all at t (omega arith)) in
    let g : take at u ≡ t = ap (take at) f ∙ take_at t (drop at B) at (sym e) in
    let d : drop (suc at) u ≡ drop (at + 1) B =
    ap (λ (k : ℕ). drop k u) (sym (add-one at)) ∙ ap (drop (at + 1)) f ∙ ap (λ (k : ℕ). drop (k + 1) (t ++ drop at B)) e ∙ drop-append-add t (drop at B) 1 ∙ drop-drop 1 at B
    in
    record {
      count = omega arith;
      bytes =
          set_split u at b l ∙ ap (λ (x : List ℕ). x ++ (b ∷ drop (suc at) u)) g ∙ ap (λ (x : List ℕ). t ++ (b ∷ x)) d ∙ sym (append_assoc t (b ∷ []) (drop (at + 1) B))
          ∙ ap (λ (x : List ℕ). x ++ drop (at + 1) B) (sym (take_all (at + 1) (t ++ (b ∷ [])) (omega arith)));
    }

-- a byte finds none
pub push_out : (t B u : List ℕ) (at b : ℕ) → length u ≤ at → Holds t B u at → Holds (t ++ (b ∷ [])) B u at
push_out t B u at b l h =
    let m = length-append t (b ∷ []) in
    let n = holds_length t B u at h in
    let c = h.count in
    record { count = omega arith; bytes = h.bytes ∙ ap (λ (x : List ℕ). x ++ drop at B) (sym (take-append-le at t (b ∷ []) (omega arith))) }

-- ---- texts one after the other
pub adds_nothing : (p : Page) → Adds [] p p
adds_nothing p = record { same = refl; holds = λ t B h. subst (λ (x : List ℕ). Holds x B p.out.now p.at) (sym (append-nil t)) h }

pub adds_then : {a b : List ℕ} {p q r : Page} → Adds a p q → Adds b q r → Adds (a ++ b) p r
adds_then {a} {b} {p} {q} {r} f g = record { same = g.same ∙ f.same; holds = λ t B h. subst (λ (x : List ℕ). Holds x B r.out.now r.at) (append_assoc t a b) (g.holds (t ++ a) B (f.holds t B h)) }

-- the same text, otherwise put together
pub adds_same : {a b : List ℕ} {p q : Page} → a ≡ b → Adds a p q → Adds b p q
adds_same {a} {b} {p} {q} e f = subst (λ (x : List ℕ). Adds x p q) e f

-- from the front of a buffer on
pub adds_first : (a u : List ℕ) (p q : Page) → Adds a p q → p.out.now ≡ u → p.at ≡ 0 → (v : List ℕ) → v ≡ q.out.now → Holds a u v q.at
adds_first a u p q f e z v g =
    subst (λ (x : List ℕ). Holds a u x q.at) (sym g)
    (f.holds [] u (subst (λ (x : List ℕ). Holds [] u x p.at) (sym e) (subst (λ (k : ℕ). Holds [] u u k) (sym z) (holds_nothing u))))

-- ---- a byte more of a text
pub text_more : (s : List ℕ) (i : ℕ) → i < length s → take i s ++ (get_or s i 0 ∷ []) ≡ take (i + 1) s
text_more s i l = sym (take-suc s i 0 l) ∙ ap (λ (k : ℕ). take k s) (sym (add-one i))

-- ---- a number
pub number_is : (ds : List ℕ) (k m n : ℕ) → m ≡ n → ds ≡ last_digits 10 k m → IsDigitCount 10 1 m k → n ≤ 4294967295 → (32 ∷ []) ++ ds ≡ field n
number_is ds k m n z e f l = ap (λ (x : List ℕ). 32 ∷ x) (e ∙ decimal_is k m (omega (arith, z)) f) ∙ ap field z

-- ---- a line's words, one after the other
fields_append : (row : List ℕ) (from : ℕ) (ks ls : List ℕ) → fields row from (ks ++ ls) ≡ fields row from ks ++ fields row from ls
unfolding fields
fields_append row from [] ls = refl
fields_append row from (k ∷ ks) ls =
    ap (λ (x : List ℕ). field (get_or row (from + k) 0) ++ x) (fields_append row from ks ls) ∙ sym (append_assoc (field (get_or row (from + k) 0)) (fields row from ks) (fields row from ls))

pub fields_none : (row : List ℕ) (from : ℕ) → [] ≡ fields row from []
unfolding fields
fields_none row from = refl

-- one word more
pub fields_more : (row : List ℕ) (from : ℕ) (ks : List ℕ) (i n : ℕ) → i < length ks → n ≡ get_or row (from + get_or ks i 0) 0
    → fields row from (take i ks) ++ field n ≡ fields row from (take (i + 1) ks)
unfolding fields
fields_more row from ks i n l e =
    ap (λ (m : ℕ). fields row from (take i ks) ++ field m) e
    ∙ ap (λ (x : List ℕ). fields row from (take i ks) ++ x) (sym (append-nil (field (get_or row (from + get_or ks i 0) 0))))
    ∙ sym (fields_append row from (take i ks) (get_or ks i 0 ∷ []))
    ∙ ap (fields row from) (text_more ks i l)

pub line_is : (row : List ℕ) (letter from : ℕ) (ks : List ℕ) (i : ℕ) → length ks ≤ i → (letter ∷ []) ++ fields row from (take i ks) ++ (10 ∷ []) ≡ line_of letter row from ks
line_is row letter from ks i l = ap (λ (j : List ℕ). letter ∷ (fields row from j ++ (10 ∷ []))) (take_all i ks l)

-- ---- the lines of a table, one after the other
pub lines_none : (row : List ℕ) (letter w : ℕ) (ks : List ℕ) → [] ≡ lines_of letter row w ks 0
unfolding lines_of
lines_none row letter w ks = refl

pub lines_more : (row : List ℕ) (letter w : ℕ) (ks : List ℕ) (i : ℕ) → lines_of letter row w ks i ++ line_of letter row (w * i) ks ≡ lines_of letter row w ks (i + 1)
unfolding lines_of
lines_more row letter w ks i = ap (λ (j : ℕ). lines_of letter row w ks j) (sym (add-one i))
