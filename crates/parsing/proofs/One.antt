-- Whatever a promise over an answer and the tables allows is one answer and one pair of tables. Assumes nothing.
use mathlib.Core.Path.{◌≡◌, refl, sym, ap, ◌∙◌}
use mathlib.Core.List.{List, []}
use Prim.Native.Nat.{ℕ}
use Rattle.std.specs.Prelude.{Result, Ok, Err}
use Rattle.parser.specs.declared.State.{State}
use Rattle.parser.specs.declared.Found.{Found}
use Rattle.parser.specs.declared.Halted.{Halted}
use Rattle.parser.specs.Tables.{Got, Node, Stop, Reply, reply, answered}

-- the state, what was found, and the two tables are the same
pub record One (p q : State) (g h : Got) (E E' N N' : List ℕ) : Type 0 where
  pub states : p ≡ q
  pub found : g ≡ h
  pub errors : E ≡ E'
  pub nodes : N ≡ N'

abbrev state : Reply → State
state (reply p g E N) = p

abbrev got : Reply → Got
got (reply p g E N) = g

abbrev errors_of_lem : Reply → List ℕ
errors_of_lem (reply p g E N) = E

abbrev nodes_of_lem : Reply → List ℕ
nodes_of_lem (reply p g E N) = N

-- `declaration`, and whatever promises `reply .. ≡ d`
pub one_answer : (p q : State) (g h : Got) (E E' N N' : List ℕ) (d : Reply) → reply p g E N ≡ d → reply q h E' N' ≡ d → One p q g h E E' N N'
one_answer p q g h E E' N N' d a b =
    let e : reply p g E N ≡ reply q h E' N' = a ∙ sym b in
    record { states = ap state e; found = ap got e; errors = ap errors_of_lem e; nodes = ap nodes_of_lem e }

-- `make`: for every table of errors
pub one_node : (p q : State) (g h : Got) (N N' : List ℕ) (d : List ℕ → Reply) → ((E : List ℕ) → reply p g E N ≡ d E) → ((E : List ℕ) → reply q h E N' ≡ d E) → One p q g h [] [] N N'
one_node p q g h N N' d a b = one_answer p q g h [] [] N N' (d []) (a []) (b [])

-- `set_error`, `consume`, `require`: for every table of nodes
pub one_error : (p q : State) (g h : Got) (E E' : List ℕ) (d : List ℕ → Reply) → ((N : List ℕ) → reply p g E N ≡ d N) → ((N : List ℕ) → reply q h E' N ≡ d N) → One p q g h E E' [] []
one_error p q g h E E' d a b = one_answer p q g h E E' [] [] (d []) (a []) (b [])

-- ---- the same of the code's answers
-- the code's answer, read off a definition's
abbrev result_of : Reply → Result (State × Found) Halted
result_of (reply p (Node f) E N) = Ok (p, f)
result_of (reply p (Stop o) E N) = Err (record { p = p; outcome = o })

result_is : (r : Result (State × Found) Halted) (E N : List ℕ) → result_of (answered r E N) ≡ r
result_is (Ok f) E N = refl
result_is (Err s) E N = refl

-- a reader, and whatever promises `answered .. ≡ d`
pub one_result : (r r' : Result (State × Found) Halted) (E E' N N' : List ℕ) (d : Reply) → answered r E N ≡ d → answered r' E' N' ≡ d → (r ≡ r') × (E ≡ E') × (N ≡ N')
one_result r r' E E' N N' d a b =
    let e : answered r E N ≡ answered r' E' N' = a ∙ sym b in
    let t = tables r r' E E' N N' e in
    (sym (result_is r E N) ∙ ap result_of e ∙ result_is r' E' N', t.0, t.1)
  where
    tables : (r r' : Result (State × Found) Halted) (E E' N N' : List ℕ) → answered r E N ≡ answered r' E' N' → (E ≡ E') × (N ≡ N')
    tables (Ok f) (Ok g) E E' N N' e = (ap errors_of_lem e, ap nodes_of_lem e)
    tables (Ok f) (Err s) E E' N N' e = (ap errors_of_lem e, ap nodes_of_lem e)
    tables (Err s) (Ok f) E E' N N' e = (ap errors_of_lem e, ap nodes_of_lem e)
    tables (Err s) (Err u) E E' N N' e = (ap errors_of_lem e, ap nodes_of_lem e)
