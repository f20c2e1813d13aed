-- The cases of the two calls, in the form that the code's facts have. Assumes nothing.
use mathlib.Core.Path.{◌≡◌, sym, ap, ◌∙◌}
use mathlib.Core.Bool.{Bool, true, false}
use mathlib.Core.List.{List}
use Prim.Native.Nat.{ℕ}
use lib.Dec.{eqb}
use borrow.Author.Tests.{eq-eqb, ne_eqb}
use Rattle.rules.specs.Rules.{known}
use Rattle.records.specs.Table.{linked}
use Rattle.lexer.specs.declared.Scanned.{Scanned}
use Rattle.parser.specs.declared.State as state
use Rattle.parser.specs.declared.Found.{Found}
use Rattle.parser.specs.Tables.{Got}
use Rattle.parser.specs.Tables.{Node, Stop}
use Rattle.parser.specs.Tokens.{kind_at, indexed}
use Rattle.parser.specs.Tables.{Reply, reply}
use Rattle.parser.specs.Whole.{top_level}
use Rattle.entry.specs.Entry.{entered, Enters}
use Rattle.entry.proofs.Entry.{standing, stands_as_lem}
use Rattle.host.specs.declared.Parser.{Parser}
use Rattle.host.specs.Kept.{fresh, state_of, marked_as, behind, stopped_at}
use Rattle.host.specs.Fits.{fits_in}
use Rattle.steps.specs.declared.Stepped.{Stepped}
use Rattle.steps.specs.Steps.{Called, left, leaving, final, pick_call, rest_of, begun_by, begun_after, begun, refused_as, after_one, one_of, ruled_of, next_of}

-- the five parts of a call
pub parts : (c d : Called) → c ≡ d → (c.stepped ≡ d.stepped) × (c.tokens ≡ d.tokens) × (c.errors ≡ d.errors) × (c.nodes ≡ d.nodes) × (c.index ≡ d.index)
parts c d e = (ap (λ (x : Called). x.stepped) e, ap (λ (x : Called). x.tokens) e, ap (λ (x : Called). x.errors) e, ap (λ (x : Called). x.nodes) e, ap (λ (x : Called). x.index) e)

-- ---- at a token
module _ (T : List ℕ) (p : Parser) (E N X : List ℕ) (k : ℕ) (is : k ≡ kind_at T p.current) where
  at_eof : k ≡ 0 → eqb (kind_at T p.current) 0 ≡ true
  at_eof z = ap (λ (i : ℕ). eqb i 0) (sym is) ∙ eq-eqb k 0 z

  before_eof : (k ≡ 0 → ⊥) → eqb (kind_at T p.current) 0 ≡ false
  before_eof z = ap (λ (i : ℕ). eqb i 0) (sym is) ∙ ne_eqb k 0 z

  -- nothing is left to be read
  pub rest_ends : k ≡ 0 → rest_of T p E N X ≡ final 0 p T E N X
  unfolding rest_of
  rest_ends z = ap (λ (b : Bool). pick_call b (λ _. final 0 p T E N X) λ _. left (leaving (marked_as 0 19 p)) T E N X) (at_eof z)

  -- a token before EOF is left
  pub rest_stays : (k ≡ 0 → ⊥) → rest_of T p E N X ≡ left (leaving (marked_as 0 19 p)) T E N X
  unfolding rest_of
  rest_stays z = ap (λ (b : Bool). pick_call b (λ _. final 0 p T E N X) λ _. left (leaving (marked_as 0 19 p)) T E N X) (before_eof z)

  -- there is no statement at EOF
  pub one_ends : k ≡ 0 → one_of T p E N X ≡ final 0 p T E N X
  unfolding one_of
  one_ends z = ap (λ (b : Bool). pick_call b (λ _. final 0 p T E N X) λ _. after_one T X p (top_level (indexed T X) (state_of p) E N)) (at_eof z)

  module _ (z : k ≡ 0 → ⊥) (q : state.State) (g : Got) (E' N' : List ℕ) (e : reply q g E' N' ≡ top_level (indexed T X) (state_of p) E N) where
    -- a statement was read, and what came of it decides
    one_came : one_of T p E N X ≡ after_one T X p (reply q g E' N')
    unfolding one_of
    one_came = ap (λ (b : Bool). pick_call b (λ _. final 0 p T E N X) λ _. after_one T X p (top_level (indexed T X) (state_of p) E N)) (before_eof z) ∙ ap (λ (r : Reply). after_one T X p r) (sym e)

    -- it stopped the reading
    pub one_stops : (o : ℕ) → g ≡ Stop o → (m : Parser) → m ≡ stopped_at p q → final o m T E' N' X ≡ one_of T p E N X
    one_stops o s m h = ap (λ (m : Parser). final o m T E' N' X) h ∙ sym (one_came ∙ ap (λ (g : Got). after_one T X p (reply q g E' N')) s)

    -- it is linked after the last one
    pub one_linked : (n : Found) → g ≡ Node n → (m : Parser) → m ≡ behind p q n.node → (N'' : List ℕ) → N'' ≡ linked N' p.last n.node → rest_of T m E' N'' X ≡ one_of T p E N X
    one_linked n s m h N'' l = (λ i. rest_of T (h i) E' (l i) X) ∙ sym (one_came ∙ ap (λ (g : Got). after_one T X p (reply q g E' N')) s)

-- ---- after lexing
module _ (s t e n x : List ℕ) (p : Parser) where
  -- by whether the rule is known
  abbrev ruled : Bool → Called
  ruled b = pick_call b (λ _. begun_after p (entered p.rule p.way s t e n x)) λ _. left (refused_as 13 p) t e n x

  -- the rule is not known: 13
  pub begun_refuses : known p.rule ≡ false → (m : Stepped) → m ≡ refused_as 13 p → left m t e n x ≡ begun s t e n x p
  unfolding begun
  begun_refuses k m h = (λ i. left (h i) t e n x) ∙ ap ruled (sym k)

  -- the rule is known: the source is lexed
  pub begun_known : known p.rule ≡ true → begun_after p (entered p.rule p.way s t e n x) ≡ begun s t e n x p
  unfolding begun
  begun_known k = ap ruled (sym k)

module _ (s t e n x : List ℕ) (p : Parser) (k : known p.rule ≡ true) (T E N X : List ℕ) (d : Scanned) (l : Enters (entered p.rule p.way s t e n x) d T E N X) where
  -- by the test
  begun_by_lem : (b : Bool) → eqb d.outcome 0 ≡ b
      → begun_by b p (standing d T E N X) ≡ begun s t e n x p
  begun_by_lem b h =
      ap (λ (b : Bool). begun_by b p (standing d T E N X)) (sym h)
      ∙ ap (begun_after p) (stands_as_lem (entered p.rule p.way s t e n x) d T E N X l)
      ∙ begun_known s t e n x p k

  module _ (q : Parser) (new : q ≡ fresh p d.tokens d.errors) where
    -- what was lexed is read
    pub begun_reads : d.outcome ≡ 0 → rest_of T q E N X ≡ begun s t e n x p
    begun_reads z = ap (λ (q : Parser). rest_of T q E N X) new ∙ begun_by_lem true (eq-eqb d.outcome 0 z)

    -- its outcome is the final answer
    pub begun_ends : (d.outcome ≡ 0 → ⊥) → (m : Stepped) → m ≡ leaving (marked_as 1 d.outcome q) → left m T E N X ≡ begun s t e n x p
    begun_ends z m h = (λ i. left (h i) T E N X) ∙ (λ i. left (leaving (marked_as 1 d.outcome (new i))) T E N X) ∙ begun_by_lem false (ne_eqb d.outcome 0 z)

-- ---- read
module _ (T E N X : List ℕ) (p : Parser) where
  -- whether the final answer was given
  abbrev by : Bool → Called
  by b = pick_call b (λ _. pick_call (fits_in T E N X p) (λ _. ruled_of T E N X p) λ _. left (refused_as 18 p) T E N X) λ _. left (leaving p) T E N X

  -- whether the parser fits the tables
  abbrev fitting : Bool → Called
  fitting b = pick_call b (λ _. ruled_of T E N X p) λ _. left (refused_as 18 p) T E N X

  -- whether its rule is known
  abbrev ruling : Bool → Called
  ruling b = pick_call b (λ _. one_of T p E N X) λ _. left (refused_as 13 p) T E N X

  -- the final answer once more
  pub next_again : (p.ended ≡ 0 → ⊥) → left (leaving p) T E N X ≡ next_of T E N X p
  unfolding next_of
  next_again z = ap by (sym (ne_eqb p.ended 0 z))

  module _ (z : p.ended ≡ 0) where
    next_tests : fitting (fits_in T E N X p) ≡ next_of T E N X p
    unfolding next_of
    next_tests = ap by (sym (eq-eqb p.ended 0 z))

    -- the parser does not fit the tables: 18
    pub next_refuses : fits_in T E N X p ≡ false → (m : Stepped) → m ≡ refused_as 18 p → left m T E N X ≡ next_of T E N X p
    next_refuses h m is = (λ i. left (is i) T E N X) ∙ ap fitting (sym h) ∙ next_tests

    -- it fits them, but its rule is not known: 13
    pub next_unruled : fits_in T E N X p ≡ true → known p.rule ≡ false → (m : Stepped) → m ≡ refused_as 13 p → left m T E N X ≡ next_of T E N X p
    next_unruled h k m is = (λ i. left (is i) T E N X) ∙ ap ruling (sym k) ∙ ap fitting (sym h) ∙ next_tests

    -- it fits them, and its rule is known: one statement
    pub next_goes_on : fits_in T E N X p ≡ true → known p.rule ≡ true → one_of T p E N X ≡ next_of T E N X p
    next_goes_on h k = ap ruling (sym k) ∙ ap fitting (sym h) ∙ next_tests
