-- What of a script may be blacked out, and what may stand there instead (docs/RULES.md, 'Blacking out'): the premise of the theorems in `alike`. Two scripts are walked together, by the items of the first. A Bool says whether the second is the first with such parts blacked out.
use Rattle.std.specs.Prelude.{ℕ, zero, suc, ◌≤◌, ◌≡◌, Bool, true, false, not, ◌&&◌, ◌||◌, cond, List, [], ◌∷◌, T, leb, eqb, length, take}
use Rattle.token.specs.Kind.{identifier_kind}
use Rattle.token.specs.Keyword.{keyword_of}
use Rattle.text.specs.Text.{is_text}
use Rattle.spans.specs.Span.{is_alpha, is_inner}
use Rattle.rules.specs.Rules.{is_named}
use Rattle.items.specs.declared.Item.{Item}
use Rattle.items.specs.declared.Item.TheVariants.{Space, Comment, Name, Text, Number, Mark, Wrong}
use Rattle.items.specs.Items.{item_of, size_of, less}

-- ---- the second differs only in comments, in strings that the first closes properly, and in names
-- where a byte of the first stands: in a comment, in a name that is no keyword, in a string that closes (true: the byte that a backslash takes), or in anything else
pub data Place : Type 0 where
  comment : Place
  name : Place
  string : Bool → Place
  other : Place

-- the first where the test holds, else the second
abbrev pub pick_place : Bool → Place → Place → Place
pick_place true a b = a
pick_place false a b = b

-- where the bytes of an item stand; a keyword is no name here, and a string that isn't closed, which is message 3, is no string here
abbrev pub place_of : Item → Place
place_of Space = other
place_of (Comment n) = comment
place_of (Name k n) = pick_place (eqb k identifier_kind) name other
place_of (Text n m l) = string false
place_of (Number x) = other
place_of (Mark k n m) = other
place_of (Wrong e n m) = other

-- where the item's next byte stands, after the byte b. The byte matters only in strings, since a backslash takes the next one
abbrev pub next : Place → ℕ → Place
next comment b = comment
next name b = name
next (string true) b = string false
next (string false) b = string (eqb b 92)
next other b = other

-- ---- comments keep their # and gain no newline; in strings, the quotes, the escapes (a backslash and the one byte it takes) and the newlines stay as they are, and no other quote, backslash or newline appears; a name becomes a name of the same length
-- a quote, a backslash or a newline
abbrev pub is_firm : ℕ → Bool
is_firm b = eqb b 34 || (eqb b 92 || eqb b 10)

-- whether the second may have c, and r after it, where the first has b, the first byte of an item of n bytes: a comment keeps its #, a string its opening quote; a name begins with a letter or _ by either rule, and its n bytes are no keyword; anything else stays
abbrev pub may_begin : Place → ℕ → ℕ → ℕ → List ℕ → Bool
may_begin comment n b c r = eqb b c
may_begin name n b c r = is_alpha c && eqb (keyword_of (take n (c ∷ r))) identifier_kind
may_begin (string e) n b c r = eqb b c
may_begin other n b c r = eqb b c

-- what follows goes by the rule, which is the same for both scripts
module _ (rule : ℕ) where
  -- whether the second may have c where the first has b, which is not an item's first byte: in a comment any byte but a newline; in a name a byte that goes on with a name of the rule; in a string an escape's byte stays, and so do a quote, a backslash and a newline, and any other byte becomes none of these; anything else stays
  abbrev pub may : Place → ℕ → ℕ → Bool
  may comment b c = is_inner c
  may name b c = is_named rule c
  may (string true) b c = eqb b c
  may (string false) b c = cond (is_firm b) (eqb b c) (not (is_firm c))
  may other b c = eqb b c

  -- both scripts from here on, with k bytes of the first's last item still to come, which stand at p; they end together
  abbrev pub alike_from : Place → List ℕ → List ℕ → ℕ → Bool
  alike_from p [] [] k = true
  alike_from p [] (c ∷ r) k = false
  alike_from p (b ∷ s) [] k = false
  alike_from p (b ∷ s) (c ∷ r) zero = let x = item_of rule b s in may_begin (place_of x) (size_of x) b c r && alike_from (place_of x) s r (less (size_of x))
  alike_from p (b ∷ s) (c ∷ r) (suc k) = may p b c && alike_from (next p b) s r k

  -- r differs from s only where and how that is allowed
  unfoldable pub alike : List ℕ → List ℕ → Bool
  alike s r = alike_from other s r 0

  -- ---- two scripts of equal length within the limit, both passing the text test
  -- the premise, computed
  unfoldable pub blackout : List ℕ → List ℕ → Bool
  blackout s r = leb (length s) 65535 && (eqb (length s) (length r) && (is_text s && (is_text r && alike s r)))

-- the premise, clause by clause
pub record Blackout (rule : ℕ) (s r : List ℕ) : Type 0 where
  pub within : length s ≤ 65535
  pub equal_length : length s ≡ length r
  pub first_text : T (is_text s)
  pub second_text : T (is_text r)
  pub differs_only : T (alike rule s r)
