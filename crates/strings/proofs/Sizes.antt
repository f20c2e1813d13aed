-- How far rule 5 reads, how many newlines it passes, and how many bytes it decodes. Assumes nothing.
use mathlib.Core.Path.{◌≡◌, subst}
use mathlib.Core.Bool.{Bool, true, false}
use mathlib.Core.List.{List, [], ◌∷◌}
use Prim.Native.Nat.{ℕ, suc, ◌+◌, ◌≤◌}
use native.Mathlib.Omega.{arith}
use lib.Dec.{eqb}
use lib.ListN.{length}
use Rattle.strings.specs.declared.Reading.{Reading}
use Rattle.std.specs.Prelude.{Ok, Err}
use Rattle.strings.specs.declared.Closed.{Closed}
use Rattle.strings.specs.declared.Broken.{Broken}
use Rattle.std.specs.declared.ops.ControlFlow.TheVariants.{Continue}
use Rattle.strings.specs.Strings.{Ended, Step, is_escape, pick_step, step_of, and_then, read_of, begun, unless_closed, plain, decoded_from}

-- from a state on, with k bytes left, of which d decoded bytes come
abbrev Within : ℕ → ℕ → Reading → Ended → Type 0
Within k d t (Ok c) = (t.at + 1 ≤ c.size) × (c.size ≤ t.at + k) × (c.lines + t.at ≤ t.lines + c.size) × (c.length + t.at ≤ t.length + c.size) × (c.length ≡ t.length + d)
Within k d t (Err b) = (b.size ≤ t.at + k) × (b.lines + t.at ≤ t.lines + b.size)

-- from the state before a byte, where it holds from the state after it
more : (t u : Reading) (k d f : ℕ) (x : Ended) → u.at ≡ t.at + 1 → u.lines ≤ t.lines + 1 → u.length ≤ t.length + 1 → u.length + f ≡ t.length + d
    → Within k f u x → Within (suc k) d t x
more t u k d f (Ok x) a b c e w = omega arith
more t u k d f (Err x) a b c e w = omega arith

module _ (b : ℕ) (s : List ℕ) (t : Reading) (ih : (u : Reading) → Within (length s) (length (decoded_from s u.escaped)) u (read_of s u)) where
  -- the reading that a step begins
  abbrev After : ℕ → Step → Type 0
  After d x = Within (suc (length s)) d t (and_then x (read_of s))

  on : (u : Reading) (d : ℕ) → u.at ≡ t.at + 1 → u.lines ≤ t.lines + 1 → u.length ≤ t.length + 1 → u.length + length (decoded_from s u.escaped) ≡ t.length + d
      → After d (Continue u)
  on u d a b c e = more t u (length s) d (length (decoded_from s u.escaped)) (read_of s u) a b c e (ih u)

  after_slash : (p : Bool) (x y : Step) (d : ℕ) → After d x → After d y → After d (pick_step p x y)
  after_slash true x y d h k = h
  after_slash false x y d h k = k

  plainly : (p q r : Bool) (x y z w : Step)
      → After 0 x → After (length (decoded_from s true)) y → After (suc (length (decoded_from s false))) z → After (suc (length (decoded_from s false))) w
      → After (length (unless_closed p (plain q b (decoded_from s q)))) (pick_step p x (pick_step q y (pick_step r z w)))
  plainly true q r x y z w h i j k = h
  plainly false true r x y z w h i j k = i
  plainly false false true x y z w h i j k = j
  plainly false false false x y z w h i j k = k

  byte : (e : Bool) → After (length (decoded_from (b ∷ s) e)) (step_of e t.at t.length t.lines b)
  byte true = after_slash (is_escape b) _ _ _ (on _ _ (omega arith) (omega arith) (omega arith) (omega arith)) (omega arith)
  byte false =
      plainly (eqb b 34) (eqb b 92) (eqb b 10) _ _ _ _ (omega arith)
      (on _ _ (omega arith) (omega arith) (omega arith) (omega arith))
      (on _ _ (omega arith) (omega arith) (omega arith) (omega arith))
      (on _ _ (omega arith) (omega arith) (omega arith) (omega arith))

within : (s : List ℕ) (t : Reading) → Within (length s) (length (decoded_from s t.escaped)) t (read_of s t)
within [] t = omega arith
within (b ∷ s) t = byte b s t (λ u. within s u) t.escaped

-- what a whole string comes to, with k bytes after its opening quote: the bytes passed, the newlines and the decoded bytes among them
abbrev pub Sized : ℕ → Ended → Type 0
Sized k (Ok c) = (1 ≤ c.size) × (c.size ≤ k) × (c.lines ≤ c.size) × (c.length ≤ c.size)
Sized k (Err b) = (b.size ≤ k) × (b.lines ≤ b.size)

pub sized : (s : List ℕ) → Sized (length s) (read_of s begun)
sized s = at (read_of s begun) (within s begun)
  where
    at : (x : Ended) → Within (length s) (length (decoded_from s false)) begun x → Sized (length s) x
    at (Ok c) w = omega arith
    at (Err b) w = omega arith

-- a string lies within the source
pub closed_within : (s : List ℕ) (c : Closed) → read_of s begun ≡ Ok c → c.size ≤ length s
closed_within s c e = (subst (Sized (length s)) e (sized s)).1

pub broken_within : (s : List ℕ) (b : Broken) → read_of s begun ≡ Err b → b.size ≤ length s
broken_within s b e = (subst (Sized (length s)) e (sized s)).0

-- the length that a closed string says is that of its decoded bytes
pub decoded_length : (s : List ℕ) (c : Closed) → read_of s begun ≡ Ok c → length (decoded_from s false) ≡ c.length
decoded_length s c e =
    let w : Within (length s) (length (decoded_from s false)) begun (Ok c) = subst (Within (length s) (length (decoded_from s false)) begun) e (within s begun) in
    omega arith
