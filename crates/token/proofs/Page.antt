-- The page is the table in another order: its groups together are the 22 rows, each in the group of its length. Assumes nothing.
use mathlib.Core.Path.{◌≡◌, refl, sym, ap, ◌∙◌}
use mathlib.Core.Bool.{Bool, true, false, ◌&&◌, ◌||◌, cond}
use mathlib.Core.List.{List, [], ◌∷◌, ◌++◌, map}
use Prim.Native.Nat.{ℕ, zero, suc, ◌-◌}
use borrow.Author.Tests.{eqb-true, eqb-false}
use lib.Dec.{T, eqb}
use lib.ListN.{length, get_or}
use Rattle.token.specs.Keyword.{Entry, lookup, table, keyword_of}
use Rattle.token.specs.Kind as kinds
use Rattle.token.specs.Page.{two, three, four, five, six, eight, decided, sized}
use Rattle.token.proofs.Sized.{of_length, no_length}

-- ---- by computation
-- each group has the rows of its length, in the table's order
pub groups : (sized 2 table ≡ two) × (sized 3 table ≡ three) × (sized 4 table ≡ four) × (sized 5 table ≡ five) × (sized 6 table ≡ six) × (sized 8 table ≡ eight)
groups = (refl, refl, refl, refl, refl, refl)

-- a row of the table by its number, from 1
abbrev pub nth : ℕ → Entry
nth i = get_or table (i - 1) (record { word = []; kind = kinds.identifier_kind })

-- the numbers that stand on the page, from its top
abbrev pub places : List ℕ
places = 5 ∷ 7 ∷ 10 ∷ 20 ∷ 1 ∷ 6 ∷ 9 ∷ 17 ∷ 19 ∷ 21 ∷ 3 ∷ 8 ∷ 15 ∷ 16 ∷ 2 ∷ 4 ∷ 12 ∷ 14 ∷ 18 ∷ 22 ∷ 11 ∷ 13 ∷ []

pub placed : two ++ (three ++ (four ++ (five ++ (six ++ eight)))) ≡ map nth places
placed = refl

-- whether i is one of them, and whether all from 1 to n are
abbrev pub among : List ℕ → ℕ → Bool
among [] i = false
among (j ∷ js) i = eqb i j || among js i

abbrev pub all_up_to : List ℕ → ℕ → Bool
all_up_to js zero = true
all_up_to js (suc n) = among js (suc n) && all_up_to js n

-- the page has 22 rows, the table has 22, and each row of the table is on the page; so none stands there twice
pub whole : (length places ≡ 22) × (length table ≡ 22) × T (all_up_to places 22)
whole = (refl, refl, tt)

-- ---- for every name the page decides as the table does
choice : (w : List ℕ) (n : ℕ) (a b : List Entry) → sized n table ≡ a → ((length w ≡ n → ⊥) → lookup w b ≡ keyword_of w)
    → lookup w (cond (eqb (length w) n) a b) ≡ keyword_of w
choice w n a b is rest = go (eqb (length w) n) refl
  where
    go : (t : Bool) → eqb (length w) n ≡ t → lookup w (cond t a b) ≡ keyword_of w
    go true e = ap (lookup w) (sym is) ∙ of_length w n (eqb-true _ _ e)
    go false e = rest (eqb-false _ _ e)

pub decides : (w : List ℕ) → decided w ≡ keyword_of w
decides w =
    choice w 2 two _ refl
    λ a. choice w 3 three _ refl
    λ b. choice w 4 four _ refl
    λ c. choice w 5 five _ refl
    λ d. choice w 6 six _ refl
    λ e. choice w 8 eight _ refl
    λ f. sym (no_length w a b c d e f)
