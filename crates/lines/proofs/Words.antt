-- The words of an index: what a turn of the loop adds, what the whole index has, and that only the kinds decide. Assumes nothing.
use mathlib.Core.Path.{◌≡◌, refl, sym, ap, ◌∙◌}
use mathlib.Core.Bool.{Bool, true, false, cond}
use mathlib.Core.List.{List, ◌∷◌, ◌++◌, append-nil}
use Prim.Native.Nat.{ℕ, zero, suc, ◌+◌, ◌*◌, ◌-◌, ◌≤◌, ◌<◌}
use native.Mathlib.Numerals.{add-one}
use native.Mathlib.Omega.{arith}
use borrow.Author.Tests.{eq-eqb, ne_eqb, eqb-true, eqb-false, le-leb, lt-leb}
use lib.Dec.{eqb}
use lib.ListN.{length, get_or, take, drop, set, get_or-append, length-append, length-drop, take-append-drop}
use lib.Seq.{length-take-le, append_snoc, set-append_left, take-set-lt, take-suc-set}
use Rattle.token.specs.Kind.{newline_kind}
use Rattle.records.specs.Table.{room, field, index_width}
use Rattle.records.proofs.Rooms.{room_length}
use Rattle.records.proofs.Field.{field_room}
use Rattle.parser.specs.Tokens.{kind_at, lines_from}
use Rattle.lines.specs.Lines.{line_word, line_words, line_index, Indexed}
use Rattle.lines.proofs.Walk.{lines_on, lines_off, lines_none, lines_kinds}

-- a token that is a Newline has the word of the next one, any other its own reference
pub word_line : (t : List ℕ) (i w : ℕ) → kind_at t i ≡ 1 → w ≡ cond (eqb (kind_at t i) newline_kind) w (i + 1)
word_line t i w e = sym (rw (eq-eqb _ _ e) refl)

pub word_own : (t : List ℕ) (i w : ℕ) → (kind_at t i ≡ 1 → ⊥) → i + 1 ≡ cond (eqb (kind_at t i) newline_kind) w (i + 1)
word_own t i w e = sym (rw (ne_eqb _ _ e) refl)

-- the word of a token with k more after it
pub line_word_lem : (t : List ℕ) (i k : ℕ) → line_word t (i + suc k) i ≡ i + lines_from k t i + 1
unfolding line_word
line_word_lem t i k = let e : i + suc k - 1 - i ≡ k = omega arith in ap (λ (m : ℕ). i + lines_from m t i + 1) e

-- the word in hand before token i, with k tokens from there on: that of token i, and the last token's reference where there is none left
abbrev pub in_hand : List ℕ → ℕ → ℕ → ℕ
in_hand t i zero = i
in_hand t i (suc k) = line_word t (i + suc k) i

-- a turn of the loop finds the next word
pub word_step : (t : List ℕ) (i k : ℕ) → cond (eqb (kind_at t i) newline_kind) (in_hand t (i + 1) k) (i + 1) ≡ line_word t (i + suc k) i
word_step t i k = go (eqb (kind_at t i) newline_kind) refl k ∙ sym (line_word_lem t i k)
  where
    go : (b : Bool) → eqb (kind_at t i) newline_kind ≡ b → (k : ℕ) → cond b (in_hand t (i + 1) k) (i + 1) ≡ i + lines_from k t i + 1
    go true e zero = let z : lines_from 0 t i ≡ 0 = lines_none t i in omega arith
    go true e (suc k) =
        let s : lines_from (suc k) t i ≡ suc (lines_from k t (i + 1)) = lines_on t k i (eqb-true _ _ e) in
        let w : line_word t (i + 1 + suc k) (i + 1) ≡ i + 1 + lines_from k t (i + 1) + 1 = line_word_lem t (i + 1) k in
        omega arith
    go false e k = let z : lines_from k t i ≡ 0 = lines_off t k i (eqb-false _ _ e) in omega arith

pub words_length : (t : List ℕ) (i k : ℕ) → length (line_words t i k) ≡ k
unfolding line_words
words_length t i zero = refl
words_length t i (suc k) = ap suc (words_length t (i + 1) k)

-- the index as the loop leaves it before token i: from token i on as it is to be, before it as it was
abbrev pub filled : List ℕ → List ℕ → ℕ → ℕ → List ℕ
filled t x n i = take i x ++ line_words t i (n - i) ++ drop n x

-- before the first turn, and after the last one
pub filled_none : (t x : List ℕ) (n : ℕ) → x ≡ filled t x n n
unfolding line_words
filled_none t x n =
    let e : n - n ≡ 0 = omega arith in
    sym (take-append-drop n x)
    ∙ ap (λ (l : List ℕ). l ++ drop n x) (sym (append-nil (take n x)))
    ∙ ap (λ (k : ℕ). take n x ++ line_words t n k ++ drop n x) (sym e)

pub filled_all : (t x : List ℕ) (n i : ℕ) → i ≡ 0 → filled t x n i ≡ line_index t n x
unfolding line_index
filled_all t x n i e =
    let z : n - 0 ≡ n = omega arith in
    ap (λ (i : ℕ). filled t x n i) e ∙ ap (λ (k : ℕ). line_words t 0 k ++ drop n x) z

-- a turn
pub filled_more : (t x : List ℕ) (n i w : ℕ) → i + 1 ≤ n → n ≤ length x → w ≡ line_word t n i → set (filled t x n (i + 1)) i w ≡ filled t x n i
unfolding line_words
filled_more t x n i w h l e =
    let k = n - (i + 1) in
    let a : n - i ≡ suc k = omega arith in
    let b : n ≡ i + suc k = omega arith in
    let r = drop n x in
    let ws = line_words t (i + 1) k in
    let p : length (take (i + 1) x) ≡ i + 1 = length-take-le (i + 1) x (omega arith) in
    set-append_left (take (i + 1) x ++ ws) r i w (omega (arith, length-append (take (i + 1) x) ws))
    ∙ ap (λ (l : List ℕ). l ++ r) (set-append_left (take (i + 1) x) ws i w (omega arith))
    ∙ ap (λ (l : List ℕ). l ++ ws ++ r) (sym (take-set-lt (i + 1) x i w (omega arith)))
    ∙ ap (λ (j : ℕ). take j (set x i w) ++ ws ++ r) (add-one i)
    ∙ ap (λ (l : List ℕ). l ++ ws ++ r) (take-suc-set x i w (omega arith))
    ∙ ap (λ (l : List ℕ). l ++ r) (append_snoc (take i x) w ws)
    ∙ ap (λ (v : ℕ). take i x ++ (v ∷ ws) ++ r) (e ∙ ap (λ (m : ℕ). line_word t m i) b)
    ∙ ap (λ (k : ℕ). take i x ++ line_words t i k ++ r) (sym a)

-- what is answered and left where there is room, and where there is none
pub written : (t x : List ℕ) (n : ℕ) (u : List ℕ) → n ≤ room index_width x → u ≡ line_index t n x → Indexed t x n true u
written t x n u h e = record { answer = sym (le-leb _ _ h); index = e ∙ sym (rw (le-leb _ _ h) refl) }

pub unwritten : (t x : List ℕ) (n : ℕ) → room index_width x < n → Indexed t x n false x
unwritten t x n h = record { answer = sym (lt-leb _ _ h); index = sym (rw (lt-leb _ _ h) refl) }

-- the word in hand before any turn
pub hand_none : (t : List ℕ) (n : ℕ) → n ≡ in_hand t n (n - n)
hand_none t n = let e : n - n ≡ 0 = omega arith in ap (λ (k : ℕ). in_hand t n k) (sym e)

-- a turn at token i, the one before token j, with the word in hand and the index that the turns before it left
module _ (t x : List ℕ) (n i j : ℕ) (e : j ≡ i + 1) (h : j ≤ n) (w v : ℕ) (is : w ≡ in_hand t j (n - j)) (new : v ≡ cond (eqb (kind_at t i) newline_kind) w (i + 1)) where
  turn_word : v ≡ line_word t n i
  turn_word =
      let k = n - (i + 1) in
      let b : i + suc k ≡ n = omega arith in
      new
      ∙ ap (λ (w : ℕ). cond (eqb (kind_at t i) newline_kind) w (i + 1)) (is ∙ ap (λ (j : ℕ). in_hand t j (n - j)) e)
      ∙ word_step t i k
      ∙ ap (λ (m : ℕ). line_word t m i) b

  pub turn_hand : v ≡ in_hand t i (n - i)
  turn_hand =
      let k = n - (i + 1) in
      let a : suc k ≡ n - i = omega arith in
      let b : n ≡ i + suc k = omega arith in
      turn_word ∙ ap (λ (m : ℕ). line_word t m i) b ∙ ap (λ (k : ℕ). in_hand t i k) a

  pub turn_index : (u : List ℕ) → u ≡ filled t x n j → n ≤ length x → set u i v ≡ filled t x n i
  turn_index u f l = ap (λ (u : List ℕ). set u i v) (f ∙ ap (λ (j : ℕ). filled t x n j) e) ∙ filled_more t x n i v (omega arith) l turn_word

-- the word of a token, of the k from token i on
pub words_at : (t : List ℕ) (i k j : ℕ) → j < k → get_or (line_words t i k) j 0 ≡ line_word t (i + k) (i + j)
unfolding line_words
words_at t i zero j h = absurd (omega arith)
words_at t i (suc k) zero h = let e : i ≡ i + 0 = omega arith in ap (λ (j : ℕ). line_word t (i + suc k) j) e
words_at t i (suc k) (suc j) h =
    let a : i + 1 + k ≡ i + suc k = omega arith in
    let b : i + 1 + j ≡ i + suc j = omega arith in
    words_at t (i + 1) k j (omega arith) ∙ (λ z. line_word t (a z) (b z))

-- an index is as long as it was, and has the word of every token
pub index_length : (t : List ℕ) (n : ℕ) (x : List ℕ) → n ≤ length x → length (line_index t n x) ≡ length x
unfolding line_index
index_length t n x h = length-append (line_words t 0 n) (drop n x) ∙ omega (arith, words_length t 0 n, length-drop n x)

pub index_words : (t : List ℕ) (n : ℕ) (x : List ℕ) (i : ℕ) → i < n → n ≤ room index_width x → field index_width 0 (line_index t n x) i ≡ line_word t n i
unfolding line_index
index_words t n x i h f =
    let l : length (line_words t 0 n) ≡ n = words_length t 0 n in
    let r : room index_width (line_index t n x) ≡ room index_width x = room_length index_width (line_index t n x) x (index_length t n x (omega arith)) in
    let e : index_width * i + 0 ≡ i = omega arith in
    let a : 0 + n ≡ n = omega arith in
    let b : 0 + i ≡ i = omega arith in
    field_room index_width 0 (line_index t n x) i (omega arith)
    ∙ ap (λ (j : ℕ). get_or (line_index t n x) j 0) e
    ∙ get_or-append (line_words t 0 n) (drop n x) 0 i (omega arith)
    ∙ words_at t 0 n i h
    ∙ (λ z. line_word t (a z) (b z))

-- tables that have the same kinds of these tokens have the same words
pub words_same : (t t' : List ℕ) (i k : ℕ) → ((j : ℕ) → i ≤ j → j < i + k → kind_at t j ≡ kind_at t' j) → line_words t i k ≡ line_words t' i k
unfolding line_words
words_same t t' i zero same = refl
words_same t t' i (suc k) same =
    let w : line_word t (i + suc k) i ≡ line_word t' (i + suc k) i =
    line_word_lem t i k ∙ ap (λ (l : ℕ). i + l + 1) (lines_kinds t t' k i (λ j p q. same j p (omega arith))) ∙ sym (line_word_lem t' i k) in
    let r : line_words t (i + 1) k ≡ line_words t' (i + 1) k = words_same t t' (i + 1) k (λ j p q. same j (omega arith) (omega arith)) in
    λ z. w z ∷ r z
