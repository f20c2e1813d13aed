-- A promise allows one answer only: any two results that it allows coincide, in the answer and in every lent word. The promises that are
-- equations for one value, as most are, say so by themselves; these are the ones in several parts. Assumes nothing.
use mathlib.Core.Path.{◌≡◌, sym, ap, ◌∙◌}
use mathlib.Core.Bool.{Bool}
use mathlib.Core.List.{List}
use Prim.Native.Nat.{ℕ}
use Rattle.records.specs.Table.{Pushed}
use Rattle.decoding.specs.declared.Decoded.{Decoded}
use Rattle.decoding.specs.Decode.{Decode, Decoding}
use Rattle.lexer.specs.declared.Scanned.{Scanned}
use Rattle.lexer.specs.Lex.{Result, Lexing}
use Rattle.parser.specs.declared.Parsed as answers
use Rattle.parser.specs.Whole.{Parsed, Parsing}
use Rattle.entry.specs.declared.Answer.{Answer}
use Rattle.lines.specs.Lines.{Indexed}
use Rattle.entry.specs.Entry.{Entered, index_after, Indexes, Enters}
use Rattle.entry.specs.Reading.{Reading, Answers}

-- two that equal a third
meet : {A : Type 0} {x y z : A} → x ≡ z → y ≡ z → x ≡ y
meet p q = p ∙ sym q

-- `records::push`
pub one_push : (w n : ℕ) (t ws : List ℕ) (r r' : Bool) (u u' : List ℕ) → Pushed w t n ws r u → Pushed w t n ws r' u' → (r ≡ r') × (u ≡ u')
one_push w n t ws r r' u u' x y = (meet x.answer y.answer, meet x.table y.table)

-- `decoding::decode`, `kettleplume_decode`
pub one_decoding : (d : Decode) (b : List ℕ) (r r' : Decoded) (B B' : List ℕ) → Decoding d r b B → Decoding d r' b B' → (r ≡ r') × (B ≡ B')
one_decoding d b r r' B B' x y = (
  λ i. record { outcome = meet x.outcome_is y.outcome_is i; length = meet x.length_is y.length_is i },
  meet x.buffer_is y.buffer_is,
)

-- an answer of lexing is its three numbers
scanned : (r r' : Scanned) → r.outcome ≡ r'.outcome → r.tokens ≡ r'.tokens → r.errors ≡ r'.errors → r ≡ r'
scanned r r' o t e = λ i. record { outcome = o i; tokens = t i; errors = e i }

-- `lexer::scan`, `kettleplume_scan`
pub one_lexing : (d : Result) (t e : List ℕ) (r r' : Scanned) (T T' E E' : List ℕ) → Lexing d r t T e E → Lexing d r' t T' e E' → (r ≡ r') × (T ≡ T') × (E ≡ E')
one_lexing d t e r r' T T' E E' x y = (
  scanned r r' (meet x.outcome_is y.outcome_is) (meet x.tokens_are y.tokens_are) (meet x.errors_are y.errors_are),
  meet x.token_table y.token_table,
  meet x.error_table_lem y.error_table_lem,
)

-- `statements::parse`
pub one_parsing : (d : Parsed) (r r' : answers.Parsed) (E E' N N' : List ℕ) → Parsing d r E N → Parsing d r' E' N' → (r ≡ r') × (E ≡ E') × (N ≡ N')
one_parsing d r r' E E' N N' x y = (
  λ i. record { outcome = meet x.outcome_is y.outcome_is i; errors = meet x.errors_are y.errors_are i; nodes = meet x.nodes_are y.nodes_are i; first = meet x.first_is y.first_is i; looks = meet x.looks_are y.looks_are i },
  meet x.error_table_lem y.error_table_lem,
  meet x.node_table y.node_table,
)

-- `lines::index_lines`
pub one_index : (t x : List ℕ) (n : ℕ) (r r' : Bool) (u u' : List ℕ) → Indexed t x n r u → Indexed t x n r' u' → (r ≡ r') × (u ≡ u')
one_index t x n r r' u u' a b = (meet a.answer b.answer, meet a.index b.index)

-- `entry::index_on`: the index that is left goes by the outcome
pub one_indexing : (t : List ℕ) (o n : ℕ) (x : List ℕ) (r r' : ℕ) (u u' : List ℕ) → Indexes t o n x r u → Indexes t o n x r' u' → (r ≡ r') × (u ≡ u')
one_indexing t o n x r r' u u' a b =
    let e : r ≡ r' = meet a.outcome_is b.outcome_is in
    (e, a.index_is ∙ ap (λ (k : ℕ). index_after k t n x) e ∙ sym b.index_is)

-- `entry::enter`
pub one_entry : (d : Entered) (r r' : Scanned) (T T' E E' N N' X X' : List ℕ) → Enters d r T E N X → Enters d r' T' E' N' X' → (r ≡ r') × (T ≡ T') × (E ≡ E') × (N ≡ N') × (X ≡ X')
one_entry d r r' T T' E E' N N' X X' x y = (
  scanned r r' (meet x.outcome_is y.outcome_is) (meet x.tokens_are y.tokens_are) (meet x.errors_are y.errors_are),
  meet x.token_table y.token_table,
  meet x.error_table_lem y.error_table_lem,
  meet x.node_table y.node_table,
  meet x.index_table y.index_table,
)

-- `reader::read`, `kettleplume_read`
pub one_reading : (d : Reading) (r r' : Answer) (T T' E E' N N' X X' : List ℕ) → Answers d r T E N X → Answers d r' T' E' N' X' → (r ≡ r') × (T ≡ T') × (E ≡ E') × (N ≡ N') × (X ≡ X')
one_reading d r r' T T' E E' N N' X X' x y = (
  λ i. record { outcome = meet x.outcome_is y.outcome_is i; tokens = meet x.tokens_are y.tokens_are i; errors = meet x.errors_are y.errors_are i; nodes = meet x.nodes_are y.nodes_are i; first = meet x.first_is y.first_is i; looks = meet x.looks_are y.looks_are i },
  meet x.token_table y.token_table,
  meet x.error_table_lem y.error_table_lem,
  meet x.node_table y.node_table,
  meet x.index_table y.index_table,
)
