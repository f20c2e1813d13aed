use Rattle.parser.proofs.Exits.{given_up}
use Rattle.std.proofs.Common.{◌≡◌, suc, ◌+◌, ◌-◌, [], true, false, nat_lt, refl, ap, ◌∙◌, arith}
use Rattle.std.proofs.lemmas.Bool.{lt-ltb, le-ltb}
use Rattle.parser.specs.declared.State.{State}
use Rattle.parser.specs.Tokens.{view, count}
use Rattle.parser.specs.Programs.{Which, Reader, run}
use Rattle.parser.specs.Grammar.{parameters, parameters_from}
use Rattle.pieces.proofs.Turns.{found_past, require_past, make_on}
use Rattle.pieces.proofs.parameters.Goals as goal

pub returns-in-Some : goal.returns-in-Some
unfolding run parameters
returns-in-Some c = λ low. rw (← c.check.ensures, c.in-Some.is) (rw (← c.at_token.ensures, c.gives.ensures))

pub loop-n-init : goal.loop-n-init
loop-n-init c = record { fuel = count c.args.t.now.table.now; enough = omega arith; same = λ low. refl; errors = refl; nodes = refl }

pub returns-then-n-gt255 : goal.returns-then-n-gt255
unfolding run parameters parameters_from
returns-then-n-gt255 c = λ low.
    let h : nat_lt 255 c.loop-n.n ≡ true = lt-ltb _ _ c.if-n-gt255.true in
    rw (← c.check.ensures, c.in_default.is) (rw (← c.looked-s.ensures, ← c.loop-n.invariant.same low, h, ← c.fatal.ensures c.loop-n.nodes))

pub returns-in_err-q : goal.returns-in_err-q
unfolding run parameters parameters_from
returns-in_err-q c = λ low.
    let h : nat_lt 255 c.loop-n.n ≡ false = le-ltb _ _ (omega arith) in
    rw (given_up _ _ c.from_residual.ensures.1) (rw (← c.check.ensures, c.in_default.is) (rw (← c.looked-s.ensures, ← c.loop-n.invariant.same low, h, ← c.require.ensures c.loop-n.nodes, c.in_err-q.was)))

pub returns-in_err-u : goal.returns-in_err-u
unfolding run parameters parameters_from
returns-in_err-u c = λ low.
    let h : nat_lt 255 c.loop-n.n ≡ false = le-ltb _ _ (omega arith) in
    rw (given_up _ _ c.from_residual-in_err-u.ensures.1) (rw (← c.check.ensures, c.in_default.is) (rw (← c.looked-s.ensures, ← c.loop-n.invariant.same low, h, ← c.require.ensures c.loop-n.nodes, c.in_ok-q.was) (rw (← c.row.ensures, ← c.make.ensures c.require.new.errors, c.in_err-u.was))))

pub returns-in_default-matches : goal.returns-in_default-matches
unfolding run parameters parameters_from
returns-in_default-matches c = λ low.
    let h : nat_lt 255 c.loop-n.n ≡ false = le-ltb _ _ (omega arith) in
    rw (← c.check.ensures, c.in_default.is) (rw (← c.looked-s.ensures, ← c.loop-n.invariant.same low, h, ← c.require.ensures c.loop-n.nodes, c.in_ok-q.was) (rw (← c.row.ensures, ← c.make.ensures c.require.new.errors, c.in_ok-u.was) (rw (← c.and-list.ensures.next, ← c.matches.ensures, c.in_default-matches.is) (rw (← c.looked.ensures, c.gives-in_default-matches.ensures, c.and-list.ensures.members)))))

pub loop-n-smaller : goal.loop-n-smaller
loop-n-smaller c =
    let g = require_past _ _ _ _ _ _ _ _ [] _ [] (rw c.in_ok-q.was at (c.require.ensures [])) refl refl in
    let u = make_on _ _ _ _ [] _ [] _ (rw c.in_ok-u.was at (c.make.ensures [])) in
    let h = found_past _ _ _ _ _ c.matches.ensures c.in-Some-matches.is refl in
    let a = ap (λ (x : State). x.current) c.at_token-s.ensures in
    omega arith

-- the turn is one of the definition's
again : (c : goal.After-at_token-s) (low : Which → Reader)
    → run (view c.args.t.now) low (parameters_from (view c.args.t.now) c.args.message c.loop-n.invariant.fuel (c.loop-n.n + 1) c.and-list.result.first c.and-list.result.last) c.at_token-s.result c.require.new.errors c.and-list.new.nodes
    ≡ run (view c.args.t.now) low (parameters_from (view c.args.t.now) c.args.message (suc c.loop-n.invariant.fuel) c.loop-n.n c.loop-n.list.first c.loop-n.list.last) c.loop-n.s c.loop-n.errors c.loop-n.nodes
unfolding run parameters_from
again c low =
    let l : nat_lt 255 c.loop-n.n ≡ false = le-ltb _ _ (omega arith) in
    rw (l, ← c.require.ensures c.loop-n.nodes, c.in_ok-q.was) (rw (← c.row.ensures, ← c.make.ensures c.require.new.errors, c.in_ok-u.was) (rw (← c.and-list.ensures.next, c.and-list.ensures.members, ← c.matches.ensures, c.in-Some-matches.is) (rw (← c.at_token-s.ensures))))

pub loop-n-preserved : goal.loop-n-preserved
loop-n-preserved c =
    let g = require_past _ _ _ _ _ _ _ _ [] _ [] (rw c.in_ok-q.was at (c.require.ensures [])) refl refl in
    let u = make_on _ _ _ _ [] _ [] _ (rw c.in_ok-u.was at (c.make.ensures [])) in
    let h = found_past _ _ _ _ _ c.matches.ensures c.in-Some-matches.is refl in
    let a = ap (λ (x : State). x.current) c.at_token-s.ensures in
    let f : suc (c.loop-n.invariant.fuel - 1) ≡ c.loop-n.invariant.fuel = omega (arith, c.loop-n.invariant.enough) in
    record {
      fuel = c.loop-n.invariant.fuel - 1;
      enough = omega (arith, c.loop-n.invariant.enough);
      same = λ low. rw f (again c low ∙ c.loop-n.invariant.same low);
      errors = c.require.auto.errors ∙ c.loop-n.invariant.errors;
      nodes = c.and-list.auto.nodes ∙ c.make.auto.nodes ∙ c.loop-n.invariant.nodes;
    }
