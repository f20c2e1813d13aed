-- Rules 1 to 6 of docs/RULES.md, 'Lexing', first phase: bytes to items. An item has all that its bytes give, and no place, no line and no byte. `Rules` says what rule two changes.
use Rattle.std.specs.Prelude.{ℕ, zero, suc, Bool, true, false, Option, Some, None, Ok, Err, List, [], ◌∷◌, eqb, take}
use Rattle.token.specs.Kind as kinds
use Rattle.token.specs.Keyword.{keyword_of}
use Rattle.spans.specs.Span.{is_alpha, is_digit, is_inner, run}
use Rattle.rules.specs.Rules.{is_named, stops_at}
use Rattle.numbers.specs.declared.Numeral.{Numeral}
use Rattle.numbers.specs.Number.{number_of}
use Rattle.strings.specs.Strings.{Ended, read_of, begun}
use Rattle.records.specs.Messages.{lone_bang, illegal_character, unclosed_string}
use Rattle.items.specs.declared.Sign.{Sign}
use Rattle.items.specs.declared.Sign.TheVariants.{Newline, Blank, Hash, Quote, Single, Pair, Illegal}
use Rattle.items.specs.declared.Item.{Item}
use Rattle.items.specs.declared.Item.TheVariants.{Space, Comment, Name, Text, Number, Mark, Wrong}

-- ---- what a byte is that is no letter and no digit
-- a byte, and what it is
pub record Row : Type 0 where
  pub byte : ℕ
  pub is : Sign

-- the first where the test holds, else the second
abbrev pub pick_sign : Bool → Sign → Sign → Sign
pick_sign true a b = a
pick_sign false a b = b

-- the row of b; illegal where it has none
abbrev pub find : ℕ → List Row → Sign
find b [] = Illegal
find b (x ∷ xs) = pick_sign (eqb b x.byte) x.is (find b xs)

-- the marks with their kinds; of a mark that may have = after it the kind alone (! has none, being no token then) and the kind with it
abbrev pub signs : List Row
signs =
    record { byte = 10; is = Newline } ∷  -- newline
    record { byte = 32; is = Blank } ∷  -- space
    record { byte = 9; is = Blank } ∷  -- tab
    record { byte = 13; is = Blank } ∷  -- carriage return
    record { byte = 35; is = Hash } ∷  -- #
    record { byte = 34; is = Quote } ∷  -- "
    record { byte = 33; is = Pair None kinds.bang_equal_kind } ∷  -- !
    record { byte = 61; is = Pair (Some kinds.equal_kind) kinds.equal_equal_kind } ∷  -- =
    record { byte = 62; is = Pair (Some kinds.greater_kind) kinds.greater_equal_kind } ∷  -- >
    record { byte = 60; is = Pair (Some kinds.less_kind) kinds.less_equal_kind } ∷  -- <
    record { byte = 40; is = Single kinds.left_paren_kind } ∷  -- (
    record { byte = 41; is = Single kinds.right_paren_kind } ∷  -- )
    record { byte = 91; is = Single kinds.left_brace_kind } ∷  -- [
    record { byte = 93; is = Single kinds.right_brace_kind } ∷  -- ]
    record { byte = 125; is = Single kinds.right_curly_brace_kind } ∷  -- }
    record { byte = 123; is = Single kinds.left_curly_brace_kind } ∷  -- {
    record { byte = 44; is = Single kinds.comma_kind } ∷  -- ,
    record { byte = 46; is = Single kinds.dot_kind } ∷  -- .
    record { byte = 45; is = Single kinds.minus_kind } ∷  -- -
    record { byte = 43; is = Single kinds.plus_kind } ∷  -- +
    record { byte = 47; is = Single kinds.slash_kind } ∷  -- /
    record { byte = 37; is = Single kinds.mod_kind } ∷  -- %
    record { byte = 42; is = Single kinds.star_kind } ∷  -- *
    record { byte = 94; is = Single kinds.power_kind } ∷  -- ^
    record { byte = 58; is = Single kinds.colon_kind } ∷  -- :
    record { byte = 59; is = Single kinds.semicolon_kind } ∷  -- ;
    []

-- what the byte b is
unfoldable pub sign_of : ℕ → Sign
sign_of b = find b signs

-- ---- the class of a first byte
pub data Class : Type 0 where
  letter : Class
  digit : Class
  sign : Sign → Class

-- the first where the test holds, else the second
abbrev pub pick_class : Bool → Class → Class → Class
pick_class true a b = a
pick_class false a b = b

-- a letter begins a name, a digit a number; every other byte is a sign
abbrev pub class_of : ℕ → Class
class_of b = pick_class (is_alpha b) letter (pick_class (is_digit b) digit (sign (sign_of b)))

-- ---- items
-- the first where the test holds, else the second
abbrev pub pick_item : Bool → Item → Item → Item
pick_item true a b = a
pick_item false a b = b

-- rule 5: a string that closes is a token; else it is a message
abbrev pub text_item : Ended → Item
text_item (Ok c) = Text (suc c.size) c.lines c.length
text_item (Err b) = Wrong unclosed_string (suc b.size) b.lines

-- rule 6: a message for a lone !, which has no kind
abbrev pub lone : Option ℕ → Item
lone None = Wrong lone_bang 1 0
lone (Some k) = Mark k 1 0

-- rule 6: ==, !=, <= and >= are one token where the two bytes stand together; 61 is =
abbrev pub pair_at : Option ℕ → ℕ → List ℕ → Item
pair_at k l [] = lone k
pair_at k l (x ∷ s) = pick_item (eqb x 61) (Mark l 2 0) (lone k)

-- the item at a place, by the rule
module _ (rule : ℕ) where
  -- rule 3: a name, and its kind
  abbrev pub name_of : ℕ → List ℕ → Item
  name_of b s = Name (keyword_of (b ∷ take (run (is_named rule) s) s)) (suc (run (is_named rule) s))

  -- rule 3, where a name begins the bytes
  abbrev pub name_at : List ℕ → Item
  name_at [] = Space
  name_at (b ∷ s) = name_of b s

  -- rule 4: a number, and whether lexing stops at it
  abbrev pub number_item : Numeral → Item
  number_item x = Number (record { size = x.size; whole = x.whole; places = x.places; cut = stops_at rule x.cut })

  -- the item whose first byte is b, of that class, with s after it
  abbrev pub item_as : Class → ℕ → List ℕ → Item
  item_as letter b s = name_of b s
  item_as digit b s = number_item (number_of b s)
  item_as (sign Newline) b s = Mark kinds.newline_kind 1 1
  item_as (sign Blank) b s = Space
  item_as (sign Hash) b s = Comment (suc (run is_inner s))
  item_as (sign Quote) b s = text_item (read_of s begun)
  item_as (sign (Single k)) b s = Mark k 1 0
  item_as (sign (Pair k l)) b s = pair_at k l s
  item_as (sign Illegal) b s = Wrong illegal_character 1 0

  -- the item whose first byte is b, with s after it
  abbrev pub item_of : ℕ → List ℕ → Item
  item_of b s = item_as (class_of b) b s

  -- the item at the front
  abbrev pub item_at : List ℕ → Item
  item_at [] = Space
  item_at (b ∷ s) = item_of b s

-- how many bytes an item has
abbrev pub size_of : Item → ℕ
size_of Space = 1
size_of (Comment n) = n
size_of (Name k n) = n
size_of (Text n m l) = n
size_of (Number x) = x.size
size_of (Mark k n m) = n
size_of (Wrong e n m) = n

-- how many newlines raise the line in it
abbrev pub lines_of : Item → ℕ
lines_of Space = 0
lines_of (Comment n) = 0
lines_of (Name k n) = 0
lines_of (Text n m l) = m
lines_of (Number x) = 0
lines_of (Mark k n m) = m
lines_of (Wrong e n m) = m

-- the decoded length of a string
abbrev pub decoded_of : Item → ℕ
decoded_of Space = 0
decoded_of (Comment n) = 0
decoded_of (Name k n) = 0
decoded_of (Text n m l) = l
decoded_of (Number x) = 0
decoded_of (Mark k n m) = 0
decoded_of (Wrong e n m) = 0

-- one less
abbrev pub less : ℕ → ℕ
less zero = zero
less (suc n) = n

-- all items, by the rule; k bytes of the last one are still to be passed
abbrev pub items : ℕ → List ℕ → ℕ → List Item
items rule [] k = []
items rule (b ∷ s) zero = let x = item_of rule b s in x ∷ items rule s (less (size_of x))
items rule (b ∷ s) (suc k) = items rule s k
