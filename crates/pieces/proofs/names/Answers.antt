use Rattle.parser.proofs.Exits.{given_up}
use Rattle.std.proofs.Common.{◌≡◌, ℕ, suc, ◌-◌, List, [], refl, ap, ◌∙◌, arith}
use Rattle.parser.specs.declared.State.{State}
use Rattle.parser.specs.Tokens.{view, count}
use Rattle.parser.specs.Programs.{Which, Reader, run}
use Rattle.parser.specs.Grammar.{names_from}
use Rattle.pieces.proofs.Turns.{found_past, make_on}
use Rattle.pieces.proofs.names.Goals as goal

pub loop-i-init : goal.loop-i-init
loop-i-init c = record { fuel = count c.args.t.now.table.now; enough = omega arith; same = λ low E. refl; nodes = refl }

pub returns-in_default : goal.returns-in_default
unfolding run names_from
returns-in_default c = λ low E. rw (← c.loop-i.invariant.same low E, ← c.matches.ensures, c.in_default.is) (rw (← c.looked.ensures, c.gives.ensures))

pub returns-in_err-u : goal.returns-in_err-u
unfolding run names_from
returns-in_err-u c = λ low E. rw (given_up _ _ c.from_residual.ensures.1) (rw (← c.loop-i.invariant.same low E, ← c.matches.ensures, c.in-Some.is) (rw (← c.at_token.ensures, ← c.row.ensures, ← c.make.ensures E, c.in_err-u.was)))

pub loop-i-smaller-in-Some-matches : goal.loop-i-smaller-in-Some-matches
loop-i-smaller-in-Some-matches c =
    let g = found_past _ _ _ _ _ c.matches.ensures c.in-Some.is refl in
    let a = ap (λ (x : State). x.current) c.at_token.ensures in
    let u = make_on _ _ _ _ [] _ [] _ (rw c.in_ok-u.was at (c.make.ensures [])) in
    let h = found_past _ _ _ _ _ c.matches-in-loop-i.ensures c.in-Some-matches.is refl in
    let b = ap (λ (x : State). x.current) c.at_token-s.ensures in
    omega arith

-- the turn is one of the definition's
again : (c : goal.After-at_token-s) (low : Which → Reader) (E : List ℕ)
    → run (view c.args.t.now) low (names_from (view c.args.t.now) c.loop-i.invariant.fuel c.and-list.result.first c.and-list.result.last) c.at_token-s.result E c.and-list.new.nodes
    ≡ run (view c.args.t.now) low (names_from (view c.args.t.now) (suc c.loop-i.invariant.fuel) c.loop-i.list.first c.loop-i.list.last) c.loop-i.s E c.loop-i.nodes
unfolding run names_from
again c low E = rw (← c.matches.ensures, c.in-Some.is) (rw (← c.at_token.ensures, ← c.row.ensures, ← c.make.ensures E, c.in_ok-u.was) (rw (← c.and-list.ensures.next, c.and-list.ensures.members, ← c.matches-in-loop-i.ensures, c.in-Some-matches.is) (rw (← c.at_token-s.ensures))))

pub loop-i-preserved-in-Some-matches : goal.loop-i-preserved-in-Some-matches
loop-i-preserved-in-Some-matches c =
    let g = found_past _ _ _ _ _ c.matches.ensures c.in-Some.is refl in
    let a = ap (λ (x : State). x.current) c.at_token.ensures in
    let u = make_on _ _ _ _ [] _ [] _ (rw c.in_ok-u.was at (c.make.ensures [])) in
    let h = found_past _ _ _ _ _ c.matches-in-loop-i.ensures c.in-Some-matches.is refl in
    let b = ap (λ (x : State). x.current) c.at_token-s.ensures in
    let f : suc (c.loop-i.invariant.fuel - 1) ≡ c.loop-i.invariant.fuel = omega (arith, c.loop-i.invariant.enough) in
    record {
      fuel = c.loop-i.invariant.fuel - 1;
      enough = omega (arith, c.loop-i.invariant.enough);
      same = λ low E. rw f (again c low E ∙ c.loop-i.invariant.same low E);
      nodes = c.and-list.auto.nodes ∙ c.make.auto.nodes ∙ c.loop-i.invariant.nodes;
    }

pub loop-i-smaller : goal.loop-i-smaller
loop-i-smaller c =
    let g = found_past _ _ _ _ _ c.matches.ensures c.in-Some.is refl in
    let a = ap (λ (x : State). x.current) c.at_token.ensures in
    let u = make_on _ _ _ _ [] _ [] _ (rw c.in_ok-u.was at (c.make.ensures [])) in
    let b = ap (λ (x : State). x.current) c.looked-s.ensures in
    omega arith

-- the turn is one of the definition's
again_2 : (c : goal.After-looked-s) (low : Which → Reader) (E : List ℕ)
    → run (view c.args.t.now) low (names_from (view c.args.t.now) c.loop-i.invariant.fuel c.and-list.result.first c.and-list.result.last) c.looked-s.result E c.and-list.new.nodes
    ≡ run (view c.args.t.now) low (names_from (view c.args.t.now) (suc c.loop-i.invariant.fuel) c.loop-i.list.first c.loop-i.list.last) c.loop-i.s E c.loop-i.nodes
unfolding run names_from
again_2 c low E = rw (← c.matches.ensures, c.in-Some.is) (rw (← c.at_token.ensures, ← c.row.ensures, ← c.make.ensures E, c.in_ok-u.was) (rw (← c.and-list.ensures.next, c.and-list.ensures.members, ← c.matches-in-loop-i.ensures, c.in-None.is) (rw (← c.looked-s.ensures))))

pub loop-i-preserved : goal.loop-i-preserved
loop-i-preserved c =
    let g = found_past _ _ _ _ _ c.matches.ensures c.in-Some.is refl in
    let a = ap (λ (x : State). x.current) c.at_token.ensures in
    let u = make_on _ _ _ _ [] _ [] _ (rw c.in_ok-u.was at (c.make.ensures [])) in
    let b = ap (λ (x : State). x.current) c.looked-s.ensures in
    let f : suc (c.loop-i.invariant.fuel - 1) ≡ c.loop-i.invariant.fuel = omega (arith, c.loop-i.invariant.enough) in
    record {
      fuel = c.loop-i.invariant.fuel - 1;
      enough = omega (arith, c.loop-i.invariant.enough);
      same = λ low E. rw f (again_2 c low E ∙ c.loop-i.invariant.same low E);
      nodes = c.and-list.auto.nodes ∙ c.make.auto.nodes ∙ c.loop-i.invariant.nodes;
    }
