-- Rule one is the original's: what its items are, by the class of the first byte, said without a rule. Assumes nothing.
use mathlib.Core.Path.{◌≡◌, refl}
use mathlib.Core.List.{List, ◌∷◌}
use Prim.Native.Nat.{ℕ, suc}
use lib.ListN.{take}
use Rattle.token.specs.Keyword.{keyword_of}
use Rattle.spans.specs.Span.{is_alpha, run}
use Rattle.rules.specs.Rules.{one}
use Rattle.numbers.specs.Number.{number_of}
use Rattle.items.specs.declared.Sign.{Sign}
use Rattle.items.specs.declared.Sign.TheVariants.{Newline, Blank, Hash, Quote, Single, Pair, Illegal}
use Rattle.items.specs.declared.Item.TheVariants.{Name, Number}
use Rattle.items.specs.Items.{letter, digit, sign, item_as}

-- a name has letters and _
pub one_name : (b : ℕ) (s : List ℕ) → item_as one letter b s ≡ Name (keyword_of (b ∷ take (run is_alpha s) s)) (suc (run is_alpha s))
one_name b s = refl

-- a number is what `numbers` says, a stop at the end too
pub one_number : (b : ℕ) (s : List ℕ) → item_as one digit b s ≡ Number (number_of b s)
one_number b s = refl

-- every other byte gives the same item by every rule
pub any_sign : (rule : ℕ) (z : Sign) (b : ℕ) (s : List ℕ) → item_as rule (sign z) b s ≡ item_as one (sign z) b s
any_sign rule Newline b s = refl
any_sign rule Blank b s = refl
any_sign rule Hash b s = refl
any_sign rule Quote b s = refl
any_sign rule (Single k) b s = refl
any_sign rule (Pair k l) b s = refl
any_sign rule Illegal b s = refl
