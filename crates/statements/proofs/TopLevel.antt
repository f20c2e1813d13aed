-- A turn of `parse`, in the form that the code's facts have. Assumes nothing.
use mathlib.Core.Path.{◌≡◌, sym, ap, subst, ◌∙◌}
use mathlib.Core.Bool.{Bool, true, false}
use mathlib.Core.List.{List}
use Prim.Native.Nat.{ℕ, suc, ◌<◌}
use lib.Dec.{eqb}
use Rattle.records.specs.Table.{linked, zeroed, node_width}
use Rattle.parser.specs.declared.State.{State}
use Rattle.parser.specs.declared.Found.{Found}
use Rattle.parser.specs.Tables.{Got}
use Rattle.parser.specs.Tables.{Node, Stop}
use Rattle.parser.specs.Tokens.{View, count, kind_at}
use Rattle.parser.specs.Tables.{Reply, reply, fresh_state}
use Rattle.parser.specs.Grammar.{first_of}
use Rattle.parser.specs.Whole.{Parsed, Parsing, ends, if_end, or_ends, top_level, statements, parsed}
use Rattle.progress.proofs.Moves.{Past}
use Rattle.progress.proofs.Fuel.{top_moves}

module _ (T : View) (f first last : ℕ) (p : State) (E N : List ℕ) where
  -- EOF is reached
  pub at_end_lem : eqb (kind_at T.tokens p.current) 0 ≡ true → statements (suc f) T first last p E N ≡ ends 0 first p.nodes p E N
  unfolding statements
  at_end_lem e = ap (λ (b : Bool). if_end b (λ _. ends 0 first p.nodes p E N) λ _. or_ends first p.nodes (top_level T p E N) λ n q E N. statements f T (first_of first n) n q E (linked N last n)) e

  module _ (q : State) (g : Got) (E' N' : List ℕ) (h : eqb (kind_at T.tokens p.current) 0 ≡ false) (e : reply q g E' N' ≡ top_level T p E N) where
    -- a statement was read, and what came of it decides
    went : statements (suc f) T first last p E N ≡ or_ends first p.nodes (reply q g E' N') λ n q E N. statements f T (first_of first n) n q E (linked N last n)
    unfolding statements
    went = ap (λ (b : Bool). if_end b (λ _. ends 0 first p.nodes p E N) λ _. or_ends first p.nodes (top_level T p E N) λ n q E N. statements f T (first_of first n) n q E (linked N last n)) h
        ∙ ap (λ (r : Reply). or_ends first p.nodes r λ n q E N. statements f T (first_of first n) n q E (linked N last n)) (sym e)

    -- it stopped the reading
    pub stops : (o : ℕ) → g ≡ Stop o → statements (suc f) T first last p E N ≡ ends o first p.nodes q E' N'
    stops o s = went ∙ ap (λ (g : Got). or_ends first p.nodes (reply q g E' N') λ n q E N. statements f T (first_of first n) n q E (linked N last n)) s

    -- it is linked after the last one, and the next is read
    pub goes_on_lem : (n : Found) → g ≡ Node n → statements (suc f) T first last p E N ≡ statements f T (first_of first n.node) n.node q E' (linked N' last n.node)
    goes_on_lem n s = went ∙ ap (λ (g : Got). or_ends first p.nodes (reply q g E' N') λ n q E N. statements f T (first_of first n) n q E (linked N last n)) s

    -- a statement begins at a token and ends after it
    pub statement_past : (n : Found) → g ≡ Node n → (p.current < count T.tokens) × (p.current < q.current)
    statement_past n s = let a = subst (λ (r : Reply). Past p.current (suc p.current) (p.current < count T.tokens) r) (sym e ∙ ap (λ (g : Got). reply q g E' N') s) (top_moves T p E N) in (a.past.1, a.past.0)

-- where a parsing comes to its end, this is its answer
pub ends_so : (d : Parsed) (o first kept : ℕ) (p : State) (E N : List ℕ) → d ≡ ends o first kept p E N → Parsing d (record { outcome = o; errors = p.errors; nodes = kept; first = first; looks = p.looks }) E (zeroed node_width N kept)
ends_so d o first kept p E N e =
    record {
      outcome_is = ap (λ (x : Parsed). x.outcome) (sym e);
      errors_are = ap (λ (x : Parsed). x.error_count) (sym e);
      nodes_are = ap (λ (x : Parsed). x.node_count) (sym e);
      first_is = ap (λ (x : Parsed). x.first) (sym e);
      looks_are = ap (λ (x : Parsed). x.looks) (sym e);
      error_table_lem = ap (λ (x : Parsed). x.errors) (sym e);
      node_table = ap (λ (x : Parsed). x.nodes) (sym e);
    }

-- at the loop's head what is left is the whole
pub before_statements : (T : View) (rule recorded : ℕ) (s : State) (E N : List ℕ) (d : Parsed) → s ≡ fresh_state rule recorded → d ≡ statements (suc (count T.tokens)) T 0 0 s E N → parsed rule T recorded E N ≡ d
unfolding parsed
before_statements T rule recorded s E N d f e = rw (← f) (sym e)
