-- What an item says of its bytes: the kind of its token and the newlines among them, or which message they are. Assumes nothing.
use mathlib.Core.Path.{◌≡◌, refl, sym, ap, subst, ◌∙◌}
use mathlib.Core.Bool.{Bool, true, false, ◌&&◌, cond}
use mathlib.Core.List.{List, [], ◌∷◌, ◌++◌, tail}
use Prim.Native.Nat.{ℕ, suc, ◌+◌, ◌≤◌}
use native.Mathlib.Omega.{arith}
use borrow.Author.Tests.{ne_eqb}
use lib.Dec.{T, leb, eqb, leb→le, lit≤}
use lib.Ieee.Fits.{and_l, and_r}
use lib.ListN.{take, drop}
use lib.Seq.{take-add}
use Rattle.std.specs.Prelude.{Option, Some, None, Ok, Err}
use Rattle.std.specs.declared.ops.ControlFlow.TheVariants.{Continue, Break}
use Rattle.token.specs.Kind as kinds
use Rattle.token.proofs.Range.{kind_range}
use Rattle.spans.specs.Span.{is_alpha, is_digit, run, count}
use Rattle.rules.specs.Rules.{is_named}
use Rattle.rules.proofs.Laws.{newline_ends}
use Rattle.numbers.specs.Number.{point_size, pointed, number_size}
use Rattle.strings.specs.declared.Reading.{Reading}
use Rattle.strings.specs.Strings.{Ended, Step, closed, broken, is_escape, pick_step, step_of, and_then, read_of, begun}
use Rattle.items.specs.declared.Sign.{Sign}
use Rattle.items.specs.declared.Sign.TheVariants.{Newline, Blank, Hash, Quote, Single, Pair, Illegal}
use Rattle.items.specs.declared.Item.{Item}
use Rattle.items.specs.declared.Item.TheVariants.{Space, Comment, Name, Text, Number, Mark, Wrong}
use Rattle.items.specs.Items.{Row, find, pick_sign, signs, sign_of, letter, digit, sign, pick_class, pick_item, text_item, lone, pair_at, item_as, item_of}
use Rattle.lexing.specs.Begins.{newlines}

-- ---- newlines among bytes
newlines_append : (s r : List ℕ) → newlines (s ++ r) ≡ newlines s + newlines r
newlines_append [] r = omega arith
newlines_append (b ∷ s) r = let h = newlines_append s r in omega arith

-- a byte that is none counts for nothing
quiet : (b : ℕ) (s : List ℕ) → eqb b 10 ≡ false → newlines (b ∷ s) ≡ newlines s
quiet b s e = let z : ◌≡◌ {A = ℕ} (cond (eqb b 10) 1 0) 0 = ap (λ (c : Bool). cond c 1 0) e in omega arith

module _ (p : ℕ → Bool) (no : p 10 ≡ false) where
  -- a byte that passes a test is no newline, where a newline does not pass it
  no_newline : (b : ℕ) → p b ≡ true → eqb b 10 ≡ false
  no_newline b h = ne_eqb b 10 λ e. subst T (sym h ∙ ap p e ∙ no) tt

  -- nor is any byte of a run
  run_quiet : (s : List ℕ) → newlines (take (run p s) s) ≡ 0
  run_quiet [] = refl
  run_quiet (b ∷ s) = at (p b) refl (run_quiet s)
    where
      at : (c : Bool) → p b ≡ c → newlines (take (run p s) s) ≡ 0 → newlines (take (count c (run p s)) (b ∷ s)) ≡ 0
      at true h z = quiet b (take (run p s) s) (no_newline b h) ∙ z
      at false h z = refl

-- ---- a number
point_quiet : (s : List ℕ) → newlines (take (point_size s) s) ≡ 0
point_quiet [] = refl
point_quiet (b ∷ s) = at (eqb b 46) refl
  where
    at : (c : Bool) → eqb b 46 ≡ c → newlines (take (cond c (suc (run is_digit s)) 0) (b ∷ s)) ≡ 0
    at true h = quiet b (take (run is_digit s) s) (no_newline (λ x. eqb x 46) refl b h) ∙ run_quiet is_digit refl s
    at false h = refl

number_quiet : (s : List ℕ) → newlines (take (number_size s) s) ≡ 0
number_quiet s =
    let a = run_quiet is_digit refl s in
    let b = point_quiet (drop (run is_digit s) s) in
    ap newlines (take-add (run is_digit s) (pointed s) s) ∙ newlines_append (take (run is_digit s) s) (take (pointed s) (drop (run is_digit s) s)) ∙ omega arith

-- ---- a string that closes: every newline in it raises the line, since a backslash takes none
abbrev Counts : List ℕ → Reading → Ended → Type 0
Counts s t (Ok c) = (k : ℕ) × (c.size ≡ t.at + k) × (c.lines ≡ t.lines + newlines (take k s))
Counts s t (Err b) = Unit

-- one byte before
counts_on : (b : ℕ) (s : List ℕ) (t u : Reading) (x : Ended) → u.at ≡ t.at + 1 → u.lines ≡ t.lines + cond (eqb b 10) 1 0 → Counts s u x → Counts (b ∷ s) t x
counts_on b s t u (Ok x) a c h = (suc h.0, omega arith, omega arith)
counts_on b s t u (Err x) a c h = tt

module _ (b : ℕ) (s : List ℕ) (t : Reading) (ih : (u : Reading) → Counts s u (read_of s u)) where
  abbrev After : Step → Type 0
  After x = Counts (b ∷ s) t (and_then x (read_of s))

  -- what a byte adds to the newlines
  adds : (c : Bool) → eqb b 10 ≡ c → ◌≡◌ {A = ℕ} (cond (eqb b 10) 1 0) (cond c 1 0)
  adds c e = ap (λ (d : Bool). cond d 1 0) e

  on : (u : Reading) → u.at ≡ t.at + 1 → u.lines ≡ t.lines + cond (eqb b 10) 1 0 → After (Continue u)
  on u a c = counts_on b s t u (read_of s u) a c (ih u)

  after_slash : (p : Bool) → is_escape b ≡ p → (n l : ℕ)
      → After (pick_step p (Continue (record { escaped = false; at = t.at + 1; length = l; lines = t.lines })) (Break (broken n t.lines)))
  after_slash true h n l = let z = adds false (no_newline is_escape refl b h) in on _ refl (omega arith)
  after_slash false h n l = tt

  plainly : (p q r : Bool) → eqb b 34 ≡ p → eqb b 92 ≡ q → eqb b 10 ≡ r
      → After (pick_step p (Break (closed (t.at + 1) t.lines t.length))
      (pick_step q (Continue (record { escaped = true; at = t.at + 1; length = t.length; lines = t.lines }))
      (pick_step r (Continue (record { escaped = false; at = t.at + 1; length = t.length + 1; lines = t.lines + 1 }))
      (Continue (record { escaped = false; at = t.at + 1; length = t.length + 1; lines = t.lines })))))
  plainly true q r h i j = let z = adds false (no_newline (λ x. eqb x 34) refl b h) in (1, refl, omega arith)
  plainly false true r h i j = let z = adds false (no_newline (λ x. eqb x 92) refl b i) in on _ refl (omega arith)
  plainly false false true h i j = let z = adds true j in on _ refl (omega arith)
  plainly false false false h i j = let z = adds false j in on _ refl (omega arith)

  byte : (e : Bool) → After (step_of e t.at t.length t.lines b)
  byte true = after_slash (is_escape b) refl (t.at + 1) (t.length + 1)
  byte false = plainly (eqb b 34) (eqb b 92) (eqb b 10) refl refl refl

counts : (s : List ℕ) (t : Reading) → Counts s t (read_of s t)
counts [] t = tt
counts (b ∷ s) t = byte b s t (λ u. counts s u) t.escaped

-- ---- what an item says
-- a token of this kind whose n bytes stand in front: the kind is one from Newline to Catch, m newlines are among the bytes, and a Newline that has bytes is one
pub record Told (kind n m : ℕ) (s : List ℕ) : Type 0 where
  pub kind_from : 1 ≤ kind
  pub kind_to : kind ≤ 49
  pub among : newlines (take n s) ≡ m
  pub newline : kind ≡ 1 → 1 ≤ n → m ≡ 1

-- of the item at the front of s
abbrev pub Tells : Item → List ℕ → Type 0
Tells Space s = Unit
Tells (Comment n) s = Unit
Tells (Name k n) s = Told k n 0 s
Tells (Text n m l) s = Told kinds.string_kind n m s
Tells (Number x) s = Told kinds.number_kind x.size 0 s
Tells (Mark k n m) s = Told k n m s
Tells (Wrong e n m) s = (1 ≤ e) × (e ≤ 3)

-- a kind that is no Newline's
no_line : (kind n m : ℕ) (s : List ℕ) → (2 ≤ kind) × (kind ≤ 49) → newlines (take n s) ≡ m → Told kind n m s
no_line kind n m s k e = record { kind_from = omega arith; kind_to = k.1; among = e; newline = λ h l. absurd (omega arith) }

-- the kinds of marks
abbrev is_mark : ℕ → Bool
is_mark k = leb 2 k && leb k 49

mark_kind : (k : ℕ) → T (is_mark k) → (2 ≤ k) × (k ≤ 49)
mark_kind k t = (leb→le 2 k (and_l (leb 2 k) (leb k 49) t), leb→le k 49 (and_r (leb 2 k) (leb k 49) t))

-- of a mark that may stand alone; one that has no kind then is message 1
abbrev fit_alone : Option ℕ → Bool
fit_alone None = true
fit_alone (Some k) = is_mark k

-- a sign that is no newline, with kinds of marks
abbrev fit : Sign → Bool
fit Newline = false
fit Blank = true
fit Hash = true
fit Quote = true
fit (Single k) = is_mark k
fit (Pair k l) = fit_alone k && is_mark l
fit Illegal = true

abbrev all_fit : List Row → Bool
all_fit [] = true
all_fit (x ∷ xs) = fit x.is && all_fit xs

find_fit : (b : ℕ) (xs : List Row) → T (all_fit xs) → T (fit (find b xs))
find_fit b [] t = tt
find_fit b (x ∷ xs) t = at (eqb b x.byte) (find_fit b xs (and_r (fit x.is) (all_fit xs) t))
  where
    at : (c : Bool) → T (fit (find b xs)) → T (fit (pick_sign c x.is (find b xs)))
    at true h = and_l (fit x.is) (all_fit xs) t
    at false h = h

module _ (b : ℕ) (s : List ℕ) (e : eqb b 10 ≡ false) where
  mark_tells : (k : ℕ) → T (is_mark k) → Told k 1 0 (b ∷ s)
  mark_tells k t = no_line k 1 0 (b ∷ s) (mark_kind k t) (quiet b [] e)

  -- alone, a mark that has a kind
  lone_tells : (k : Option ℕ) → T (fit_alone k) → Tells (lone k) (b ∷ s)
  lone_tells None t = (lit≤ tt, lit≤ tt)
  lone_tells (Some k) t = mark_tells k t

  text_tells : (x : Ended) → Counts s begun x → Tells (text_item x) (b ∷ s)
  text_tells (Ok x) h =
      let k : x.size ≡ h.0 = (let a = h.1 in omega arith) in
      let z : newlines (take x.size s) ≡ newlines (take h.0 s) = ap (λ (j : ℕ). newlines (take j s)) k in
      let a = h.2 in
      let c = quiet b (take x.size s) e in
      no_line kinds.string_kind (suc x.size) x.lines (b ∷ s) (lit≤ tt, lit≤ tt) (omega arith)
  text_tells (Err x) h = (lit≤ tt, lit≤ tt)

pair_tells : (k : Option ℕ) (l b : ℕ) (s : List ℕ) → eqb b 10 ≡ false → T (fit_alone k) → T (is_mark l) → Tells (pair_at k l s) (b ∷ s)
pair_tells k l b [] e t u = lone_tells b [] e k t
pair_tells k l b (x ∷ s) e t u = at (eqb x 61) refl
  where
    at : (c : Bool) → eqb x 61 ≡ c → Tells (pick_item c (Mark l 2 0) (lone k)) (b ∷ x ∷ s)
    at true h = no_line l 2 0 (b ∷ x ∷ s) (mark_kind l u) (quiet b (x ∷ []) e ∙ quiet x [] (no_newline (λ c. eqb c 61) refl x h))
    at false h = lone_tells b (x ∷ s) e k t

sign_tells : (rule : ℕ) (z : Sign) (b : ℕ) (s : List ℕ) → eqb b 10 ≡ false → T (fit z) → Tells (item_as rule (sign z) b s) (b ∷ s)
sign_tells rule Newline b s e t = absurd t
sign_tells rule Blank b s e t = tt
sign_tells rule Hash b s e t = tt
sign_tells rule Quote b s e t = text_tells b s e (read_of s begun) (counts s begun)
sign_tells rule (Single k) b s e t = mark_tells b s e k t
sign_tells rule (Pair k l) b s e t = pair_tells k l b s e (and_l (fit_alone k) (is_mark l) t) (and_r (fit_alone k) (is_mark l) t)
sign_tells rule Illegal b s e t = (lit≤ tt, lit≤ tt)

-- the first sign of the table is the newline
pub item_tells : (rule b : ℕ) (s : List ℕ) → Tells (item_of rule b s) (b ∷ s)
unfolding sign_of
item_tells rule b s = at (is_alpha b) (is_digit b) (eqb b 10) refl refl refl
  where
    at : (p q r : Bool) → is_alpha b ≡ p → is_digit b ≡ q → eqb b 10 ≡ r
        → Tells (item_as rule (pick_class p letter (pick_class q digit (sign (pick_sign r Newline (find b (tail signs)))))) b s) (b ∷ s)
    at true q r h i j =
        let k = kind_range (b ∷ take (run (is_named rule) s) s) in
        no_line _ _ _ _ (omega arith, k.1) (quiet b (take (run (is_named rule) s) s) (no_newline is_alpha refl b h) ∙ run_quiet (is_named rule) (newline_ends rule) s)
    at false true r h i j = no_line _ _ _ _ (lit≤ tt, lit≤ tt) (quiet b (take (number_size s) s) (no_newline is_digit refl b i) ∙ number_quiet s)
    at false false true h i j = record { kind_from = lit≤ tt; kind_to = lit≤ tt; among = ap (λ (c : Bool). cond c 1 0 + 0) j; newline = λ e l. refl }
    at false false false h i j = sign_tells rule (find b (tail signs)) b s j (find_fit b (tail signs) tt)
