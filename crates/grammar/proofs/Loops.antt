-- What a reader does before its loop, so that what is left is what its loop's invariant says. Assumes nothing.
use Rattle.std.proofs.Common.{◌≡◌, ℕ, suc, List, sym}
use Rattle.std.specs.Prelude.{Option, None, Result, Ok}
use Rattle.parser.specs.declared.State.{State}
use Rattle.parser.specs.declared.Found.{Found}
use Rattle.parser.specs.declared.Halted.{Halted}
use Rattle.parser.specs.Tokens.{View, count, check_at}
use Rattle.parser.specs.Tables.{Reply, answered, and_then, looked}
use Rattle.parser.specs.Programs.{run}
use Rattle.parser.specs.Grammar.{lower, arguments, arguments_from, call, call_from, primary}
use Rattle.operators.specs.Operators.{behind_first}

module _ (T : View) (l : ℕ) (r : Reply) where
  -- no argument stands there only if the mark does, which is asked for first
  pub before_arguments : (mark : ℕ) (m : Option ℕ) (p s : State) (E N : List ℕ) → m ≡ check_at T p.current mark → m ≡ None → s ≡ looked p 1 → r ≡ run T (lower T l) (arguments_from T mark (suc (count T.tokens)) 0 0 0) s E N → run T (lower T l) (arguments T mark) p E N ≡ r
  unfolding run arguments
  before_arguments mark m p s E N f n k e = rw (← f, n, ← k) (sym e)

  -- an operand was read
  pub before_operators : (looser : ℕ) (o : Result (State × Found) Halted) (x : State × Found) (E N : List ℕ) → o ≡ Ok x → r ≡ run T (lower T l) (behind_first T looser x.1) x.0 E N → (and_then (answered o E N) λ g q E N. run T (lower T l) (behind_first T looser g) q E N) ≡ r
  before_operators looser o x E N g e = rw g (sym e)

  -- what begins an expression was read
  pub before_suffixes : (p : State) (E N E' N' : List ℕ) (o : Result (State × Found) Halted) (x : State × Found) → answered o E' N' ≡ run T (lower T l) (primary T) p E N → o ≡ Ok x → r ≡ run T (lower T l) (call_from T (suc (count T.tokens)) x.1) x.0 E' N' → run T (lower T l) (call T) p E N ≡ r
  unfolding run call
  before_suffixes p E N E' N' o x h g e = rw (← h, g) (sym e)
