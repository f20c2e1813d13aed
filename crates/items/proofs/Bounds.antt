-- An item has a byte at least and lies within the source; its newlines and its decoded bytes are among its bytes. Assumes nothing.
use mathlib.Core.Bool.{Bool, true, false}
use mathlib.Core.Path.{◌≡◌, subst⁻¹}
use mathlib.Core.List.{List, [], ◌∷◌}
use Prim.Native.Nat.{ℕ, suc, ◌+◌, ◌≤◌, ◌<◌}
use native.Mathlib.Omega.{arith}
use lib.Dec.{eqb}
use lib.ListN.{length, get_or, drop, length-drop}
use lib.Seq.{drop-cons}
use Rattle.spans.specs.Span.{is_inner}
use Rattle.spans.proofs.Run.{run_le}
use Rattle.rules.specs.Rules.{is_named}
use Rattle.numbers.proofs.Join.{number_le}
use Rattle.std.specs.Prelude.{Option, Some, None, Ok, Err}
use Rattle.strings.specs.Strings.{Ended, read_of, begun}
use Rattle.strings.proofs.Sizes.{Sized, sized}
use Rattle.items.specs.declared.Sign.TheVariants.{Newline, Blank, Hash, Quote, Single, Pair, Illegal}
use Rattle.items.specs.declared.Item.{Item}
use Rattle.items.specs.declared.Item.TheVariants.{Mark}
use Rattle.items.specs.Items.{Class, letter, digit, sign, class_of, pick_item, text_item, lone, pair_at, item_as, item_of, item_at, size_of, lines_of, decoded_of}

abbrev pub Bounded : ℕ → Item → Type 0
Bounded k x = (1 ≤ size_of x) × (size_of x ≤ k) × (lines_of x ≤ size_of x) × (decoded_of x ≤ size_of x)

either : (b : Bool) (k : ℕ) (x y : Item) → Bounded k x → Bounded k y → Bounded k (pick_item b x y)
either true k x y h i = h
either false k x y h i = i

lone_bounded : (k : Option ℕ) (n : ℕ) → Bounded (suc n) (lone k)
lone_bounded None n = omega arith
lone_bounded (Some k) n = omega arith

pair_bounded : (k : Option ℕ) (l : ℕ) (s : List ℕ) → Bounded (suc (length s)) (pair_at k l s)
pair_bounded k l [] = lone_bounded k 0
pair_bounded k l (x ∷ s) = either (eqb x 61) (suc (suc (length s))) (Mark l 2 0) (lone k) (omega arith) (lone_bounded k (suc (length s)))

text_bounded : (k : ℕ) (x : Ended) → Sized k x → Bounded (suc k) (text_item x)
text_bounded k (Ok c) h = omega arith
text_bounded k (Err b) h = omega arith

as_bounded : (rule : ℕ) (z : Class) (b : ℕ) (s : List ℕ) → Bounded (suc (length s)) (item_as rule z b s)
as_bounded rule letter b s = let h = run_le (is_named rule) s in omega arith
as_bounded rule digit b s = let h = number_le s in omega arith
as_bounded rule (sign Newline) b s = omega arith
as_bounded rule (sign Blank) b s = omega arith
as_bounded rule (sign Hash) b s = let h = run_le is_inner s in omega arith
as_bounded rule (sign Quote) b s = text_bounded (length s) (read_of s begun) (sized s)
as_bounded rule (sign (Single k)) b s = omega arith
as_bounded rule (sign (Pair k l)) b s = pair_bounded k l s
as_bounded rule (sign Illegal) b s = omega arith

pub item_bounded : (rule b : ℕ) (s : List ℕ) → Bounded (suc (length s)) (item_of rule b s)
item_bounded rule b s = as_bounded rule (class_of b) b s

-- at a place of the source
pub bounded_at : (rule : ℕ) (s : List ℕ) (i : ℕ) (x : Item) → i < length s → x ≡ item_at rule (drop i s)
    → (1 ≤ size_of x) × (i + size_of x ≤ length s) × (lines_of x ≤ size_of x) × (decoded_of x ≤ size_of x)
bounded_at rule s i x h e =
    let d : drop i s ≡ get_or s i 0 ∷ drop (suc i) s = drop-cons s i 0 h in
    let y : Bounded (suc (length (drop (suc i) s))) (item_at rule (drop i s)) =
    subst⁻¹ (λ (l : List ℕ). Bounded (suc (length (drop (suc i) s))) (item_at rule l)) d (item_bounded rule (get_or s i 0) (drop (suc i) s)) in
    let z : Bounded (suc (length (drop (suc i) s))) x = subst⁻¹ (Bounded (suc (length (drop (suc i) s)))) e y in
    omega (arith, length-drop (suc i) s)
