-- What a well-formed node table is (docs/RULES.md, 'Nodes'): which tokens and children each kind of node has, and where they stand.
use Rattle.std.specs.Prelude.{ℕ, zero, suc, ◌+◌, ◌-◌, ◌≤◌, ◌<◌, ◌≡◌, Bool, true, false, cond, ◌&&◌, ◌||◌, List, [], ◌∷◌, ◌⊎◌, leb, eqb}
use Rattle.records.specs.Table.{field, node_width}
use Rattle.records.specs.Kinds.{fn_expr_kind, var_expr_kind, access_expr_kind, binary_expr_kind, logical_expr_kind, empty_expr_kind, fn_stmt_kind, let_stmt_kind, expr_stmt_kind, elif_branch_kind, parameter_name_kind}
use Rattle.records.specs.declared.Node as rows
use Rattle.token.specs.Kind.{or_kind, and_kind, equal_equal_kind, bang_equal_kind, greater_kind, greater_equal_kind, less_kind, less_equal_kind, plus_kind, minus_kind, slash_kind, mod_kind, star_kind, power_kind}
use Rattle.parser.specs.Tokens.{count, kind_at}
use Rattle.parser.specs.Nodes.{row}

-- what a column may ask for: any expression or statement, or nodes of one kind
pub data Sort : Type 0 where
  Expression Statement Variable Index Binding Function Branch Parameter : Sort

-- whether nodes of a kind are of a sort: kinds 1 to 17 are expressions, 18 to 30 statements
abbrev pub is_of : Sort → ℕ → Bool
is_of Expression k = leb fn_expr_kind k && leb k empty_expr_kind
is_of Statement k = leb fn_stmt_kind k && leb k expr_stmt_kind
is_of Variable k = eqb k var_expr_kind
is_of Index k = eqb k access_expr_kind
is_of Binding k = eqb k let_stmt_kind
is_of Function k = eqb k fn_stmt_kind
is_of Branch k = eqb k elif_branch_kind
is_of Parameter k = eqb k parameter_name_kind

-- a child column: not used, one node, one node or 0, a list
pub data Column : Type 0 where
  Unused : Column
  One : Sort → Column
  Maybe : Sort → Column
  Many : Sort → Column

-- which of the token columns and what child columns a kind has
pub record Shape : Type 0 where
  pub token1 : Bool
  pub token2 : Bool
  pub token3 : Bool
  pub child1 : Column
  pub child2 : Column
  pub child3 : Column
  pub child4 : Column

-- a kind with one token or none
abbrev pub shape : Bool → Column → Column → Column → Column → Shape
shape token c1 c2 c3 c4 = record { token1 = token; token2 = false; token3 = false; child1 = c1; child2 = c2; child3 = c3; child4 = c4 }

-- no token and no child
abbrev pub no_shape : Shape
no_shape = shape false Unused Unused Unused Unused

-- the table: expr.rs, stmt.rs, an elif branch, a parameter or loop name; entry k is kind k's
abbrev pub shapes : List Shape
shapes =
    no_shape ∷  -- 0 no node
    shape false (Many Parameter) (Many Statement) Unused Unused ∷  -- 1 Fn expression
    shape true Unused Unused Unused Unused ∷  -- 2 Var
    shape true (Many Expression) Unused Unused Unused ∷  -- 3 List
    shape true (Many Expression) Unused Unused Unused ∷  -- 4 Dictionary
    shape true (One Expression) (Maybe Index) Unused Unused ∷  -- 5 Assign
    record { token1 = true; token2 = true; token3 = true; child1 = One Expression; child2 = Maybe Expression; child3 = Maybe Expression; child4 = Maybe Expression } ∷  -- 6 Access
    shape true (One Expression) (One Expression) Unused Unused ∷  -- 7 Binary
    shape true (One Expression) (Many Expression) Unused Unused ∷  -- 8 Call
    shape true (One Expression) Unused Unused Unused ∷  -- 9 Get
    shape true (One Expression) (One Expression) (Maybe Index) Unused ∷  -- 10 Set
    record { token1 = true; token2 = true; token3 = false; child1 = Unused; child2 = Unused; child3 = Unused; child4 = Unused } ∷  -- 11 Super
    shape false (One Expression) Unused Unused Unused ∷  -- 12 Grouping
    shape true Unused Unused Unused Unused ∷  -- 13 Literal
    shape true (One Expression) (One Expression) Unused Unused ∷  -- 14 Logical
    shape true Unused Unused Unused Unused ∷  -- 15 This
    shape true (One Expression) Unused Unused Unused ∷  -- 16 Unary
    no_shape ∷  -- 17 Empty
    shape true (Many Parameter) (Many Statement) Unused Unused ∷  -- 18 Fn statement
    shape true (Maybe Expression) Unused Unused Unused ∷  -- 19 Let
    shape false (Many Statement) Unused Unused Unused ∷  -- 20 Block
    shape true (Many Function) (Many Function) (Maybe Variable) Unused ∷  -- 21 Class
    shape true (Maybe Binding) (One Expression) (One Expression) (One Statement) ∷  -- 22 ClassicFor
    shape true (Many Parameter) (One Expression) (One Statement) Unused ∷  -- 23 EnhancedFor
    shape true (One Expression) (One Statement) Unused Unused ∷  -- 24 While
    shape true (One Expression) (Many Statement) (Many Branch) (Many Statement) ∷  -- 25 If
    shape true Unused Unused Unused Unused ∷  -- 26 Continue
    shape true (Maybe Expression) Unused Unused Unused ∷  -- 27 Return
    shape true Unused Unused Unused Unused ∷  -- 28 Break
    shape true (One Statement) (One Statement) Unused Unused ∷  -- 29 TryCatch
    shape true (One Expression) Unused Unused Unused ∷  -- 30 Expr statement
    shape false (One Expression) (Many Statement) Unused Unused ∷  -- 31 elif branch
    shape true Unused Unused Unused Unused ∷  -- 32 parameter or loop name
    []

-- entry k of a table; none past its end
abbrev pub entry : List Shape → ℕ → Shape
entry [] k = no_shape
entry (s ∷ ss) zero = s
entry (s ∷ ss) (suc k) = entry ss k

-- the columns of a kind
abbrev pub shape_of : ℕ → Shape
shape_of k = entry shapes k

-- child column k of a shape, 1 to 4
abbrev pub column_of : Shape → ℕ → Column
column_of s zero = Unused
column_of s (suc zero) = s.child1
column_of s (suc (suc zero)) = s.child2
column_of s (suc (suc (suc zero))) = s.child3
column_of s (suc (suc (suc (suc zero)))) = s.child4
column_of s (suc (suc (suc (suc (suc k))))) = Unused

-- the child in column k of a row
abbrev pub child_of : rows.Node → ℕ → ℕ
child_of r zero = 0
child_of r (suc zero) = r.child1
child_of r (suc (suc zero)) = r.child2
child_of r (suc (suc (suc zero))) = r.child3
child_of r (suc (suc (suc (suc zero)))) = r.child4
child_of r (suc (suc (suc (suc (suc k))))) = 0

-- whether a column may hold, or list, a node of a kind
abbrev pub permits : Column → ℕ → Bool
permits Unused k = false
permits (One s) k = is_of s k
permits (Maybe s) k = is_of s k
permits (Many s) k = is_of s k

-- whether a node of a kind may stand in column `column` of a node of kind `kind`, or in the list there
abbrev pub allows : ℕ → ℕ → ℕ → Bool
allows kind column child = permits (column_of (shape_of kind) column) child

-- the kind of the node that reference n names
abbrev pub kind_of : List ℕ → ℕ → ℕ
kind_of N n = field node_width 0 N (n - 1)

-- the next of the node that reference n names
abbrev pub next_of : List ℕ → ℕ → ℕ
next_of N n = field node_width 8 N (n - 1)

-- row j, all words but next
abbrev pub row_at : List ℕ → ℕ → rows.Node
row_at N j = row (field node_width 0 N j) (field node_width 1 N j) (field node_width 2 N j) (field node_width 3 N j) (field node_width 4 N j) (field node_width 5 N j) (field node_width 6 N j) (field node_width 7 N j)

-- m is the node n, or a later member of the list that n begins
pub data Reaches (N : List ℕ) : ℕ → ℕ → Type 0 where
  here : (n : ℕ) → Reaches N n n
  there : (n m : ℕ) → 1 ≤ next_of N n → Reaches N (next_of N n) m → Reaches N n m

-- a list: its nodes from the first to the last, each of the sort, each next larger than its own
pub data Chain (N : List ℕ) (s : Sort) : ℕ → ℕ → Type 0 where
  single : (n : ℕ) → is_of s (kind_of N n) ≡ true → Chain N s n n
  more : (n last : ℕ) → is_of s (kind_of N n) ≡ true → n < next_of N n → Chain N s (next_of N n) last → Chain N s n last

-- a child: above d, not above j, of the sort, and its next is 0
pub record Child (N : List ℕ) (d j : ℕ) (s : Sort) (c : ℕ) : Type 0 where
  pub above : d < c
  pub below : c ≤ j
  pub kind : is_of s (kind_of N c) ≡ true
  pub alone : next_of N c ≡ 0

-- a list's first node: it and every later member is above d, not above j and of the sort, and the last one's next is 0
pub record Members (N : List ℕ) (d j : ℕ) (s : Sort) (c : ℕ) : Type 0 where
  pub above : d < c
  pub last : ℕ
  pub chain : Chain N s c last
  pub below : last ≤ j
  pub closed : next_of N last ≡ 0

-- a child column holds what it may
abbrev pub Fits : List ℕ → ℕ → ℕ → Column → ℕ → Type 0
Fits N d j Unused c = c ≡ 0
Fits N d j (One s) c = Child N d j s c
Fits N d j (Maybe s) c = (c ≡ 0) ⊎ Child N d j s c
Fits N d j (Many s) c = (c ≡ 0) ⊎ Members N d j s c

-- a token column: a reference up to m, or 0 where it is not used
abbrev pub Spot : Bool → ℕ → ℕ → Type 0
Spot true m t = t ≤ m
Spot false m t = t ≡ 0

-- whether a number is in the list
abbrev pub among : List ℕ → ℕ → Bool
among [] k = false
among (x ∷ xs) k = eqb k x || among xs k

-- how tight an operator binds, by its token's kind: 1 is the loosest, 8 is no binary operator
unfoldable pub binding : ℕ → ℕ
binding k =
    cond (among (or_kind ∷ []) k) 1 (
    cond (among (and_kind ∷ []) k) 2 (
    cond (among (equal_equal_kind ∷ bang_equal_kind ∷ []) k) 3 (
    cond (among (greater_kind ∷ greater_equal_kind ∷ less_kind ∷ less_equal_kind ∷ []) k) 4 (
    cond (among (plus_kind ∷ minus_kind ∷ []) k) 5 (
    cond (among (slash_kind ∷ mod_kind ∷ star_kind ∷ []) k) 6 (
    cond (among (power_kind ∷ []) k) 7 8))))))

-- whether a kind is Binary or Logical
abbrev pub is_operation : ℕ → Bool
is_operation k = eqb k binary_expr_kind || eqb k logical_expr_kind

-- how tight a row binds: a Binary or Logical as its operator, all others 8
abbrev pub tightness : List ℕ → rows.Node → ℕ
tightness T r = cond (is_operation r.kind) (binding (kind_at T (r.token1 - 1))) 8

-- how tight the node binds that reference n names
abbrev pub tight_of : List ℕ → List ℕ → ℕ → ℕ
tight_of T N n = tightness T (row_at N (n - 1))

-- of a Binary or Logical, the left child binds at least as tight, and the right child tighter
abbrev pub Binds : Bool → List ℕ → List ℕ → rows.Node → Type 0
Binds true T N r = (tightness T r ≤ tight_of T N r.child1) × (tightness T r < tight_of T N r.child2)
Binds false T N r = Unit {0}

-- a row is well formed as row j: its kind is one of 1 to 32, its columns hold what the kind's may, and what it refers to is above d and not above j
pub record Formed (T N : List ℕ) (d j : ℕ) (r : rows.Node) : Type 0 where
  pub kind : (leb fn_expr_kind r.kind && leb r.kind parameter_name_kind) ≡ true
  pub token1 : Spot (shape_of r.kind).token1 (count T) r.token1
  pub token2 : Spot (shape_of r.kind).token2 (count T) r.token2
  pub token3 : Spot (shape_of r.kind).token3 (count T) r.token3
  pub child1 : Fits N d j (shape_of r.kind).child1 r.child1
  pub child2 : Fits N d j (shape_of r.kind).child2 r.child2
  pub child3 : Fits N d j (shape_of r.kind).child3 r.child3
  pub child4 : Fits N d j (shape_of r.kind).child4 r.child4
  pub binds : Binds (is_operation r.kind) T N r

-- row j's next is 0, or larger than its own reference and among the first u
abbrev pub Next : List ℕ → ℕ → ℕ → Type 0
Next N u j = (field node_width 8 N j ≡ 0) ⊎ ((j + 1 < field node_width 8 N j) × (field node_width 8 N j ≤ u))

-- the rows from b up to u are well formed, and refer to none before them; their nexts are as they may be
pub record Forest (T : List ℕ) (b u : ℕ) (N : List ℕ) : Type 0 where
  pub formed : (j : ℕ) → b ≤ j → j < u → Formed T N b j (row_at N j)
  pub nexts : (j : ℕ) → b ≤ j → j < u → Next N u j

-- a kept tree: the first n rows of the table are well formed, and `first` is 0 or the first of a list of statements
pub record Tree (T : List ℕ) (n first : ℕ) (N : List ℕ) : Type 0 where
  pub rows : Forest T 0 n N
  pub statements : (first ≡ 0) ⊎ Members N 0 n Statement first
