use Rattle.std.proofs.Common.{◌≡◌, suc, ◌-◌, refl, sym, ◌∙◌, arith}
use Rattle.parser.specs.Tokens.{view}
use Rattle.statements.proofs.TopLevel.{at_end_lem, stops, goes_on_lem, statement_past, ends_so, before_statements}
use Rattle.statements.proofs.parse.Goals as goal

pub returns-then-is_at_end : goal.returns-then-is_at_end
returns-then-is_at_end c =
    let e = at_end_lem (view c.new-t.result) c.loop-t.invariant.fuel c.loop-t.list.first c.loop-t.list.last c.loop-t.s c.loop-t.errors c.loop-t.nodes (sym c.is_at_end.ensures ∙ c.if-is_at_end.true) in
    rw (← c.new-t.ensures.seen, c.zero_rest.ensures) (ends_so _ _ _ _ c.loop-t.s _ _ (before_statements _ _ _ _ _ _ _ c.fresh-s.ensures c.loop-t.invariant.same ∙ e))

pub returns-in-Err : goal.returns-in-Err
returns-in-Err c =
    let e = stops (view c.new-t.result) c.loop-t.invariant.fuel c.loop-t.list.first c.loop-t.list.last c.loop-t.s c.loop-t.errors c.loop-t.nodes _ _ _ _ (sym c.is_at_end.ensures ∙ c.if-is_at_end.false) (rw c.in-Err.is at c.top_level.ensures) _ refl in
    rw (← c.new-t.ensures.seen, c.zero_rest-in-Err.ensures) (ends_so _ _ _ _ c.in-Err.stop.p _ _ (before_statements _ _ _ _ _ _ _ c.fresh-s.ensures c.loop-t.invariant.same ∙ e))

pub loop-t-smaller : goal.loop-t-smaller
loop-t-smaller c = let g = statement_past (view c.new-t.result) c.loop-t.invariant.fuel c.loop-t.list.first c.loop-t.list.last c.loop-t.s c.loop-t.errors c.loop-t.nodes _ _ _ _ (sym c.is_at_end.ensures ∙ c.if-is_at_end.false) (rw c.in-Ok.is at c.top_level.ensures) _ refl in omega arith

pub loop-t-preserved : goal.loop-t-preserved
loop-t-preserved c =
    let s = rw c.in-Ok.is at c.top_level.ensures in
    let g = statement_past (view c.new-t.result) c.loop-t.invariant.fuel c.loop-t.list.first c.loop-t.list.last c.loop-t.s c.loop-t.errors c.loop-t.nodes _ _ _ _ (sym c.is_at_end.ensures ∙ c.if-is_at_end.false) s _ refl in
    let h = goes_on_lem (view c.new-t.result) c.loop-t.invariant.fuel c.loop-t.list.first c.loop-t.list.last c.loop-t.s c.loop-t.errors c.loop-t.nodes _ _ _ _ (sym c.is_at_end.ensures ∙ c.if-is_at_end.false) s _ refl in
    let f : suc (c.loop-t.invariant.fuel - 1) ≡ c.loop-t.invariant.fuel = omega (arith, c.loop-t.invariant.enough) in
    record {
      fuel = c.loop-t.invariant.fuel - 1;
      enough = omega (arith, c.loop-t.invariant.enough);
      same = rw (f, c.and-list.ensures.members, c.and-list.ensures.next) (sym h ∙ c.loop-t.invariant.same);
      errors = c.top_level.auto.errors ∙ c.loop-t.invariant.errors;
      nodes = c.and-list.auto.nodes ∙ c.top_level.auto.nodes ∙ c.loop-t.invariant.nodes;
    }
