use Rattle.std.proofs.Common.{◌≡◌, ℕ, suc, ◌+◌, ◌-◌, ◌<◌, [], refl, sym, ap, ◌∙◌, arith, rules}
use Rattle.grammar.proofs.Begins.{primary_else, primary_fn, primary_identifier, primary_leftbrace, primary_leftcurlybrace, primary_leftparen, primary_literal, primary_super, primary_this}
use Rattle.grammar.proofs.CallTurns.{call_brace, call_dot, call_else, call_end_lem, call_paren}
use Rattle.grammar.proofs.Else.{else_block}
use Rattle.grammar.proofs.Loops.{before_arguments, before_operators, before_suffixes}
use Rattle.grammar.proofs.Prefix.{unary_else, unary_prefix}
use Rattle.grammar.proofs.Starts.{declaration_class, declaration_else, declaration_fn, declaration_let, statement_block, statement_break, statement_continue, statement_else, statement_for, statement_if, statement_return, statement_try, statement_while}
use Rattle.grammar.proofs.Steps.{lower_step, lower_zero}
use Rattle.operators.proofs.Operators.{spare, spare_enough, taken, turns, turns_all}
use Rattle.operators.specs.Operators.{behind_first}
use Rattle.operators.specs.declared.Tried.{Tried}
use Rattle.parser.specs.Grammar.{access, arguments, arguments_from, assignment, block, block_from, body, brk, call, class, classic_for, cont, dict_elements_from, dictionary, elifs_from, enhanced_for, expression_stmt, finish_call, fn_expr, fn_stmt, for_loop, fuel, function_body, if_stmt, let_stmt, list, lower, methods_from, ret, try_catch, unary, while_stmt}
use Rattle.parser.specs.Nodes.{if_row}
use Rattle.parser.specs.Programs.{Assignment, Declaration, Operand, run}
use Rattle.parser.specs.Tables.{push_node}
use Rattle.parser.specs.Tokens.{count, view}
use Rattle.parser.proofs.Exits.{given_up}
use Rattle.parser.specs.declared.State.{State}
use Rattle.pieces.proofs.NextKind.{peeked, placed, unplaced, none_is}
use Rattle.pieces.proofs.Turns.{both_on, consume_on, found_past, gave_past, make_on, next_past, not_back, reading_past}
use Rattle.pieces.specs.Pieces.{call_end, end_class, get}
use Rattle.progress.proofs.Moves.{moves}
use Rattle.token.specs.Kind.{right_paren_kind}
use Rattle.grammar.proofs.+grammar.Invariants.{operations_from, suffixes_from}
use Rattle.grammar.proofs.+grammar.Goals as goal

-- ---- access
pub access-returns-in-Some : goal.access-returns-in-Some
unfolding run access
access-returns-in-Some t c = rw (← c.matches.ensures, c.in-Some.is) (rw c.at_token.ensures at c.upto.ensures)

pub access-returns-in_err-q : goal.access-returns-in_err-q
unfolding run access
access-returns-in_err-q t c = rw (given_up _ _ c.from_residual.ensures.1) (rw (← c.matches.ensures, c.in_default.is, ← c.looked.ensures) (rw (← c.assignment.ensures, c.in_err-q.was)))

pub access-returns-in-Some-matches : goal.access-returns-in-Some-matches
unfolding run access
access-returns-in-Some-matches t c = rw (← c.matches.ensures, c.in_default.is, ← c.looked.ensures) (rw (← c.assignment.ensures, c.in_ok-q.was, ← c.matches-2.ensures) (rw c.in-Some-matches.is (rw c.at_token-s.ensures at c.slice.ensures)))

pub access-returns : goal.access-returns
unfolding run access
access-returns t c = rw (← c.matches.ensures, c.in_default.is, ← c.looked.ensures) (rw (← c.assignment.ensures, c.in_ok-q.was, ← c.matches-2.ensures) (rw (c.in_default-matches.is, ← c.looked-2.ensures, ← (rw (c.new-a.ensures) at (c.close_access.ensures (lower (view c.args.t.now) c.args.levels))))))

-- ---- arguments
pub arguments-returns-in-Some : goal.arguments-returns-in-Some
unfolding run arguments
arguments-returns-in-Some t c = rw (← c.check.ensures, c.in-Some.is, ← c.at_token.ensures) (rw c.gives.ensures)

pub arguments-loop-n-init : goal.arguments-loop-n-init
arguments-loop-n-init t c = record { fuel = count c.args.t.now.table.now; enough = omega arith; passed = omega arith; same = refl; errors = refl; nodes = refl }

pub arguments-returns-then-mark-n : goal.arguments-returns-then-mark-n
unfolding run arguments_from
arguments-returns-then-mark-n t c = rw (before_arguments _ _ _ _ _ _ _ _ _ c.check.ensures c.in_default.is c.looked-s.ensures c.loop-n.invariant.same, c.if-mark-n.true, ← c.fatal.ensures c.loop-n.nodes)

pub arguments-returns-in_err-u : goal.arguments-returns-in_err-u
unfolding run arguments_from
arguments-returns-in_err-u t c = rw (given_up _ _ c.from_residual.ensures.1) (rw (before_arguments _ _ _ _ _ _ _ _ _ c.check.ensures c.in_default.is c.looked-s.ensures c.loop-n.invariant.same, c.if-mark-n.false, ← c.assignment.ensures) (rw c.in_err-u.was))

pub arguments-overflow_add-n : goal.arguments-overflow_add-n
arguments-overflow_add-n t c =
    let a = reading_past (view c.args.t.now) c.args.levels Assignment _ _ _ _ _ _ _ _ (rw c.in_ok-u.was at c.assignment.ensures) refl in
    let o = c.assignment.type_inv in
    omega (arith, c.loop-n.invariant.passed)

pub arguments-returns-in_default-matches : goal.arguments-returns-in_default-matches
unfolding run arguments_from
arguments-returns-in_default-matches t c = rw (before_arguments _ _ _ _ _ _ _ _ _ c.check.ensures c.in_default.is c.looked-s.ensures c.loop-n.invariant.same, c.if-mark-n.false, ← c.assignment.ensures) (rw (c.in_ok-u.was, ← c.and-list.ensures.next) (rw (← c.matches.ensures, c.in_default-matches.is, ← c.looked.ensures) (rw (c.gives-in_default-matches.ensures, c.and-list.ensures.members))))

pub arguments-returns-in-Some-check : goal.arguments-returns-in-Some-check
unfolding run arguments_from
arguments-returns-in-Some-check t c = rw (before_arguments _ _ _ _ _ _ _ _ _ c.check.ensures c.in_default.is c.looked-s.ensures c.loop-n.invariant.same, c.if-mark-n.false, ← c.assignment.ensures) (rw (c.in_ok-u.was, ← c.and-list.ensures.next) (rw (← c.matches.ensures, c.in-Some-matches.is, ← c.check-in-loop-n.ensures) (rw (c.in-Some-check.is, ← (rw c.at_token-v.ensures at c.at_token-in-Some-check.ensures), c.gives-in-Some-check.ensures, c.and-list.ensures.members))))

arguments_turn : (t : ℕ) (c : goal.arguments-After-looked-s-in-loop-n t) → (c.loop-n.s.current < c.looked-s-in-loop-n.result.current) × (c.loop-n.s.current < count c.args.t.now.table.now)
arguments_turn t c =
    let a = reading_past (view c.args.t.now) c.args.levels Assignment _ _ _ _ _ _ _ _ (rw c.in_ok-u.was at c.assignment.ensures) refl in
    let g = found_past _ _ _ _ _ c.matches.ensures c.in-Some-matches.is refl in
    let e = ap (λ (x : State). x.current) c.at_token-v.ensures in
    let f = ap (λ (x : State). x.current) c.looked-s-in-loop-n.ensures in
    (omega arith, a.0)

pub arguments-loop-n-smaller : goal.arguments-loop-n-smaller
arguments-loop-n-smaller t c = let g = arguments_turn t c in omega arith

arguments_again : (t : ℕ) (c : goal.arguments-After-looked-s-in-loop-n t) → run (view c.args.t.now) (lower (view c.args.t.now) c.args.levels) (arguments_from (view c.args.t.now) c.args.mark c.loop-n.invariant.fuel (c.loop-n.n + 1) c.and-list.result.first c.and-list.result.last) c.looked-s-in-loop-n.result c.assignment.new.errors c.and-list.new.nodes ≡ run (view c.args.t.now) (lower (view c.args.t.now) c.args.levels) (arguments_from (view c.args.t.now) c.args.mark (suc c.loop-n.invariant.fuel) c.loop-n.n c.loop-n.list.first c.loop-n.list.last) c.loop-n.s c.loop-n.errors c.loop-n.nodes
unfolding run arguments_from
arguments_again t c = rw (c.if-mark-n.false, ← c.assignment.ensures, c.in_ok-u.was) (rw (← c.and-list.ensures.next, c.and-list.ensures.members, ← c.matches.ensures) (rw (c.in-Some-matches.is, ← c.check-in-loop-n.ensures, c.in_default-check.is) (rw (← (rw c.at_token-v.ensures at c.looked-s-in-loop-n.ensures)))))

pub arguments-loop-n-preserved : goal.arguments-loop-n-preserved
arguments-loop-n-preserved t c =
    let g = arguments_turn t c in
    let f : suc (c.loop-n.invariant.fuel - 1) ≡ c.loop-n.invariant.fuel = omega (arith, c.loop-n.invariant.enough) in
    record { fuel = c.loop-n.invariant.fuel - 1; enough = omega (arith, c.loop-n.invariant.enough); passed = omega (arith, c.loop-n.invariant.passed); same = rw f (arguments_again t c ∙ c.loop-n.invariant.same); errors = c.assignment.auto.errors ∙ c.loop-n.invariant.errors; nodes = c.and-list.auto.nodes ∙ c.assignment.auto.nodes ∙ c.loop-n.invariant.nodes }

-- ---- assignment
pub assignment-returns-then-levels-eq0 : goal.assignment-returns-then-levels-eq0
assignment-returns-then-levels-eq0 t c =
    let z = lower_zero (view c.args.t.now) c.args.levels Assignment c.args.p c.args.errors.now c.args.nodes.now c.if-levels-eq0.true in
    rw (z, c.stopped.ensures)

pub assignment-returns-in_err-q : goal.assignment-returns-in_err-q
unfolding run body assignment
assignment-returns-in_err-q t c =
    let z = lower_step (view c.args.t.now) c.args.levels Assignment c.args.p c.args.errors.now c.args.nodes.now c.if-levels-eq0.false in
    let a = turns_all (view c.args.t.now) (lower (view c.args.t.now) (c.args.levels - 1)) 0 c.args.p c.args.errors.now c.args.nodes.now in
    rw (given_up _ _ c.from_residual.ensures.1) (rw (z, a) (rw (← c.unary-first.ensures, ← c.binary.ensures, c.in_err-q.was)))

pub assignment-returns-in_default : goal.assignment-returns-in_default
unfolding run body assignment
assignment-returns-in_default t c =
    let z = lower_step (view c.args.t.now) c.args.levels Assignment c.args.p c.args.errors.now c.args.nodes.now c.if-levels-eq0.false in
    let a = turns_all (view c.args.t.now) (lower (view c.args.t.now) (c.args.levels - 1)) 0 c.args.p c.args.errors.now c.args.nodes.now in
    rw (z, a, ← c.unary-first.ensures) (rw (← c.binary.ensures, c.in_ok-q.was, ← c.matches.ensures) (rw (c.in_default.is, ← c.looked.ensures)))

pub assignment-returns-in_err-s : goal.assignment-returns-in_err-s
unfolding run body assignment
assignment-returns-in_err-s t c =
    let z = lower_step (view c.args.t.now) c.args.levels Assignment c.args.p c.args.errors.now c.args.nodes.now c.if-levels-eq0.false in
    let a = turns_all (view c.args.t.now) (lower (view c.args.t.now) (c.args.levels - 1)) 0 c.args.p c.args.errors.now c.args.nodes.now in
    rw (given_up _ _ c.from_residual-in_err-s.ensures.1) (rw (z, a) (rw (← c.unary-first.ensures, ← c.binary.ensures, c.in_ok-q.was) (rw (← c.matches.ensures, c.in-Some.is, ← c.at_token.ensures) (rw (← c.assignment.ensures, c.in_err-s.was)))))

pub assignment-returns : goal.assignment-returns
unfolding run body assignment
assignment-returns t c =
    let z = lower_step (view c.args.t.now) c.args.levels Assignment c.args.p c.args.errors.now c.args.nodes.now c.if-levels-eq0.false in
    let a = turns_all (view c.args.t.now) (lower (view c.args.t.now) (c.args.levels - 1)) 0 c.args.p c.args.errors.now c.args.nodes.now in
    rw (z, a, ← c.unary-first.ensures) (rw (← c.binary.ensures, c.in_ok-q.was, ← c.matches.ensures) (rw (c.in-Some.is, ← c.at_token.ensures, ← c.assignment.ensures) (rw (c.in_ok-s.was, ← c.assigned.ensures (lower (view c.args.t.now) (c.args.levels - 1)) c.args.t.now.index.now))))

-- ---- binary
pub binary-loop-rank-init : goal.binary-loop-rank-init
binary-loop-rank-init t c = record { fuel = count c.args.t.now.table.now; enough = omega arith; within = omega arith; same = refl; errors = refl; nodes = refl }

pub binary-returns-in_default : goal.binary-returns-in_default
binary-returns-in_default t c =
    let e = turns (view c.args.t.now) (lower (view c.args.t.now) c.args.levels) c.args.looser c.loop-rank.left c.loop-rank.errors c.loop-rank.nodes c.loop-rank.s c.loop-rank.invariant.fuel c.loop-rank.r c.loop-rank.invariant.within in
    rw (before_operators _ _ _ _ _ _ _ _ c.in_ok-s.was c.loop-rank.invariant.same, e, ← c.turn_at-tried.ensures) (rw (c.in_default.is, ← c.looked.ensures, c.found.ensures))

pub binary-binary-requires : goal.binary-binary-requires
binary-binary-requires t c =
    let k = taken _ _ _ _ _ _ c.loop-rank.invariant.within (ap (λ (x : Tried). x.turn) (sym c.turn_at-tried.ensures) ∙ c.in-Some.is) in
    omega (arith, c.requires, k.above, k.within, c.loop-rank.invariant.within)

pub binary-returns-in_err-q : goal.binary-returns-in_err-q
binary-returns-in_err-q t c =
    let e = turns (view c.args.t.now) (lower (view c.args.t.now) c.args.levels) c.args.looser c.loop-rank.left c.loop-rank.errors c.loop-rank.nodes c.loop-rank.s c.loop-rank.invariant.fuel c.loop-rank.r c.loop-rank.invariant.within in
    let a = turns_all (view c.args.t.now) (lower (view c.args.t.now) c.args.levels) c.in-Some.rank c.at_token.result c.loop-rank.errors c.loop-rank.nodes in
    rw (given_up _ _ c.from_residual-in_err-q.ensures.1) (rw (before_operators _ _ _ _ _ _ _ _ c.in_ok-s.was c.loop-rank.invariant.same, e) (rw (← c.turn_at-tried.ensures, c.in-Some.is, ← c.at_token.ensures) (rw (a, ← c.unary-g.ensures, ← c.binary.ensures) (rw c.in_err-q.was))))

pub binary-returns-in_err-u : goal.binary-returns-in_err-u
binary-returns-in_err-u t c =
    let e = turns (view c.args.t.now) (lower (view c.args.t.now) c.args.levels) c.args.looser c.loop-rank.left c.loop-rank.errors c.loop-rank.nodes c.loop-rank.s c.loop-rank.invariant.fuel c.loop-rank.r c.loop-rank.invariant.within in
    let a = turns_all (view c.args.t.now) (lower (view c.args.t.now) c.args.levels) c.in-Some.rank c.at_token.result c.loop-rank.errors c.loop-rank.nodes in
    rw (given_up _ _ c.from_residual-in_err-u.ensures.1) (rw (before_operators _ _ _ _ _ _ _ _ c.in_ok-s.was c.loop-rank.invariant.same, e) (rw (← c.turn_at-tried.ensures, c.in-Some.is, ← c.at_token.ensures) (rw (a, ← c.unary-g.ensures, ← c.binary.ensures) (rw (c.in_ok-q.was, ← c.operation.ensures, ← c.make.ensures c.binary.new.errors) (rw c.in_err-u.was)))))

binary_passes : (t : ℕ) (c : goal.binary-After-n-1 t) → (c.loop-rank.s.current < c.in_ok-u.u.current) × (c.loop-rank.s.current < count c.args.t.now.table.now)
binary_passes t c =
    let k = taken _ _ _ _ _ _ c.loop-rank.invariant.within (ap (λ (x : Tried). x.turn) (sym c.turn_at-tried.ensures) ∙ c.in-Some.is) in
    let a = ap (λ (x : State). x.current) c.at_token.ensures in
    let b = both_on (view c.args.t.now) c.args.levels (unary (view c.args.t.now)) (λ g. behind_first (view c.args.t.now) c.in-Some.rank g) _ _ _ _ _ _ _ _ _ _ c.unary-g.ensures (rw c.in_ok-q.was at c.binary.ensures) in
    let d = make_on _ _ _ _ [] _ [] _ (rw c.in_ok-u.was at (c.make.ensures [])) in
    (omega (arith, k.passed), k.inside)

pub binary-loop-rank-smaller : goal.binary-loop-rank-smaller
binary-loop-rank-smaller t c = let g = binary_passes t c in omega arith

binary_again : (t : ℕ) (c : goal.binary-After-n-1 t) → operations_from (view c.args.t.now) c.args.levels c.args.looser (spare (view c.args.t.now) c.loop-rank.invariant.fuel (c.loop-rank.r - c.in-Some.rank)) c.in-Some.rank c.in_ok-u.n c.in_ok-u.u c.binary.new.errors c.make.new.nodes ≡ operations_from (view c.args.t.now) c.args.levels c.args.looser (suc c.loop-rank.invariant.fuel) c.loop-rank.r c.loop-rank.left c.loop-rank.s c.loop-rank.errors c.loop-rank.nodes
binary_again t c =
    let e = turns (view c.args.t.now) (lower (view c.args.t.now) c.args.levels) c.args.looser c.loop-rank.left c.loop-rank.errors c.loop-rank.nodes c.loop-rank.s c.loop-rank.invariant.fuel c.loop-rank.r c.loop-rank.invariant.within in
    let a = turns_all (view c.args.t.now) (lower (view c.args.t.now) c.args.levels) c.in-Some.rank c.at_token.result c.loop-rank.errors c.loop-rank.nodes in
    rw (e, ← c.turn_at-tried.ensures, c.in-Some.is) (rw (← c.at_token.ensures, a, ← c.unary-g.ensures) (rw (← c.binary.ensures, c.in_ok-q.was, ← c.operation.ensures) (rw (← c.make.ensures c.binary.new.errors, c.in_ok-u.was))))

pub binary-loop-rank-preserved : goal.binary-loop-rank-preserved
binary-loop-rank-preserved t c =
    let g = binary_passes t c in
    let k = taken _ _ _ _ _ _ c.loop-rank.invariant.within (ap (λ (x : Tried). x.turn) (sym c.turn_at-tried.ensures) ∙ c.in-Some.is) in
    let e = spare_enough (view c.args.t.now) c.loop-rank.s.current c.loop-rank.invariant.fuel (c.loop-rank.r - c.in-Some.rank) c.loop-rank.invariant.enough in
    let f : suc (spare (view c.args.t.now) c.loop-rank.invariant.fuel (c.loop-rank.r - c.in-Some.rank) - 1) ≡ spare (view c.args.t.now) c.loop-rank.invariant.fuel (c.loop-rank.r - c.in-Some.rank) = omega (arith, e) in
    record { fuel = spare (view c.args.t.now) c.loop-rank.invariant.fuel (c.loop-rank.r - c.in-Some.rank) - 1; enough = omega (arith, e); within = omega (arith, k.within, c.loop-rank.invariant.within); same = rw f (binary_again t c ∙ c.loop-rank.invariant.same); errors = c.binary.auto.errors ∙ c.unary-g.auto.errors ∙ c.loop-rank.invariant.errors; nodes = c.make.auto.nodes ∙ c.binary.auto.nodes ∙ c.unary-g.auto.nodes ∙ c.loop-rank.invariant.nodes }

-- ---- block
pub block-loop-i-init : goal.block-loop-i-init
block-loop-i-init t c = record { fuel = count c.args.t.now.table.now; enough = omega arith; same = refl; errors = refl; nodes = refl }

pub block-returns-in-Some : goal.block-returns-in-Some
unfolding run block block_from
block-returns-in-Some t c = rw (← c.loop-i.invariant.same, ← c.matches.ensures, c.in-Some.is) (rw (← c.at_token.ensures, c.gives.ensures))

pub block-returns-in_err-q : goal.block-returns-in_err-q
unfolding run block block_from
block-returns-in_err-q t c = rw (given_up _ _ c.from_residual.ensures.1) (rw (← c.loop-i.invariant.same, ← c.matches.ensures, c.in_default.is) (rw (← c.looked.ensures, ← c.declaration.ensures, c.in_err-q.was)))

block_turn : (t : ℕ) (c : goal.block-After-slice_known-in-loop-i-3-1 t) → (c.loop-i.s.current < c.in_ok-q.q.current) × (c.loop-i.s.current < count c.args.t.now.table.now)
block_turn t c = let g = reading_past (view c.args.t.now) c.args.levels Declaration _ _ _ _ _ _ _ _ (rw c.in_ok-q.was at c.declaration.ensures) refl in let a = ap (λ (x : State). x.current) c.looked.ensures in (omega (arith, g.1, a), omega (arith, g.0, a))

pub block-loop-i-smaller : goal.block-loop-i-smaller
block-loop-i-smaller t c = let g = block_turn t c in omega arith

block_again : (t : ℕ) (c : goal.block-After-slice_known-in-loop-i-3-1 t) → run (view c.args.t.now) (lower (view c.args.t.now) c.args.levels) (block_from (view c.args.t.now) c.loop-i.invariant.fuel c.and-list.result.first c.and-list.result.last) c.in_ok-q.q c.declaration.new.errors c.and-list.new.nodes ≡ run (view c.args.t.now) (lower (view c.args.t.now) c.args.levels) (block_from (view c.args.t.now) (suc c.loop-i.invariant.fuel) c.loop-i.list.first c.loop-i.list.last) c.loop-i.s c.loop-i.errors c.loop-i.nodes
unfolding run block_from
block_again t c = rw (← c.matches.ensures, c.in_default.is, ← c.looked.ensures) (rw (← c.declaration.ensures, c.in_ok-q.was, ← c.and-list.ensures.next, c.and-list.ensures.members))

pub block-loop-i-preserved : goal.block-loop-i-preserved
block-loop-i-preserved t c =
    let g = block_turn t c in
    let f : suc (c.loop-i.invariant.fuel - 1) ≡ c.loop-i.invariant.fuel = omega (arith, c.loop-i.invariant.enough) in
    record { fuel = c.loop-i.invariant.fuel - 1; enough = omega (arith, c.loop-i.invariant.enough); same = rw f (block_again t c ∙ c.loop-i.invariant.same); errors = c.declaration.auto.errors ∙ c.loop-i.invariant.errors; nodes = c.and-list.auto.nodes ∙ c.declaration.auto.nodes ∙ c.loop-i.invariant.nodes }

-- ---- call
pub call-returns-in_err-u : goal.call-returns-in_err-u
unfolding run call
call-returns-in_err-u t c = rw (given_up _ _ c.from_residual.ensures.1) (rw (← c.primary.ensures, c.in_err-u.was))

pub call-returns-then-is_none : goal.call-returns-then-is_none
unfolding run call
call-returns-then-is_none t c =
    let n = peeked (view c.args.t.now) c.in_ok-u.u.current _ c.peek-coming.ensures in
    let e = call_else (view c.args.t.now) (lower (view c.args.t.now) c.args.levels) (count c.args.t.now.table.now) c.in_ok-u.first c.in_ok-u.u c.primary.new.errors c.primary.new.nodes _ _ n _ (unplaced _ _ c.suffix_place.ensures (none_is c.suffix_place.result (search rules))) refl in
    rw (← c.primary.ensures, c.in_ok-u.was, e) (rw (← c.looked.ensures, c.found.ensures))

pub call-loop-mark-init : goal.call-loop-mark-init
call-loop-mark-init t c = record { fuel = count c.args.t.now.table.now; enough = omega arith; same = refl; errors = refl; nodes = refl }

pub call-returns-in_err-r-in-2 : goal.call-returns-in_err-r-in-2
unfolding run finish_call
call-returns-in_err-r-in-2 t c =
    let n = peeked (view c.args.t.now) c.loop-mark.q.current _ c.peek-coming-in-loop-mark.ensures in
    let e = call_paren (view c.args.t.now) (lower (view c.args.t.now) c.args.levels) c.loop-mark.invariant.fuel c.loop-mark.e c.loop-mark.q c.loop-mark.errors c.loop-mark.nodes _ _ n c.in-2.is in
    rw (given_up _ _ c.from_residual-in_err-r-in-2.ensures.1) (rw (before_suffixes _ _ _ _ _ _ _ _ _ _ c.primary.ensures c.in_ok-u.was c.loop-mark.invariant.same, e) (rw (← c.at_token.ensures, ← c.arguments-args.ensures, ← c.finish_call.ensures (lower (view c.args.t.now) c.args.levels)) (rw c.in_err-r-in-2.was)))

call_turn : (t : ℕ) (c : goal.call-After-n-1 t) → (c.loop-mark.q.current < c.in_ok-r-in-2.r.current) × (c.loop-mark.q.current < count c.args.t.now.table.now)
call_turn t c =
    let n = peeked (view c.args.t.now) c.loop-mark.q.current _ c.peek-coming-in-loop-mark.ensures in
    let g = next_past _ _ _ _ _ n c.in-2.is refl refl in
    let a = ap (λ (x : State). x.current) c.at_token.ensures in
    let b = both_on (view c.args.t.now) c.args.levels (arguments (view c.args.t.now) right_paren_kind) (λ e. call_end c.loop-mark.e.node e) _ _ _ _ _ _ _ _ _ _ c.arguments-args.ensures (rw c.in_ok-r-in-2.was at (c.finish_call.ensures (lower (view c.args.t.now) c.args.levels))) in
    (omega arith, g.1)

pub call-loop-mark-smaller-in-2 : goal.call-loop-mark-smaller-in-2
call-loop-mark-smaller-in-2 t c = let g = call_turn t c in omega arith

call_again : (t : ℕ) (c : goal.call-After-n-1 t) → suffixes_from (view c.args.t.now) c.args.levels c.loop-mark.invariant.fuel c.in_ok-r-in-2.n c.in_ok-r-in-2.r c.finish_call.new.errors c.finish_call.new.nodes ≡ suffixes_from (view c.args.t.now) c.args.levels (suc c.loop-mark.invariant.fuel) c.loop-mark.e c.loop-mark.q c.loop-mark.errors c.loop-mark.nodes
unfolding run finish_call
call_again t c =
    let n = peeked (view c.args.t.now) c.loop-mark.q.current _ c.peek-coming-in-loop-mark.ensures in
    let e = call_paren (view c.args.t.now) (lower (view c.args.t.now) c.args.levels) c.loop-mark.invariant.fuel c.loop-mark.e c.loop-mark.q c.loop-mark.errors c.loop-mark.nodes _ _ n c.in-2.is in
    rw (e, ← c.at_token.ensures, ← c.arguments-args.ensures) (rw (← c.finish_call.ensures (lower (view c.args.t.now) c.args.levels), c.in_ok-r-in-2.was))

pub call-loop-mark-preserved-in-2 : goal.call-loop-mark-preserved-in-2
call-loop-mark-preserved-in-2 t c =
    let g = call_turn t c in
    let f : suc (c.loop-mark.invariant.fuel - 1) ≡ c.loop-mark.invariant.fuel = omega (arith, c.loop-mark.invariant.enough) in
    record { fuel = c.loop-mark.invariant.fuel - 1; enough = omega (arith, c.loop-mark.invariant.enough); same = rw f (call_again t c ∙ c.loop-mark.invariant.same); errors = c.finish_call.auto.errors ∙ c.arguments-args.auto.errors ∙ c.loop-mark.invariant.errors; nodes = c.finish_call.auto.nodes ∙ c.arguments-args.auto.nodes ∙ c.loop-mark.invariant.nodes }

pub call-returns-in_err-r-in-9 : goal.call-returns-in_err-r-in-9
call-returns-in_err-r-in-9 t c =
    let n = peeked (view c.args.t.now) c.loop-mark.q.current _ c.peek-coming-in-loop-mark.ensures in
    let e = call_dot (view c.args.t.now) (lower (view c.args.t.now) c.args.levels) c.loop-mark.invariant.fuel c.loop-mark.e c.loop-mark.q c.loop-mark.errors c.loop-mark.nodes _ _ n c.in-9.is in
    rw (given_up _ _ c.from_residual-in_err-r-in-9.ensures.1) (rw (before_suffixes _ _ _ _ _ _ _ _ _ _ c.primary.ensures c.in_ok-u.was c.loop-mark.invariant.same, e) (rw (← c.at_token-in-9.ensures, ← c.get.ensures (lower (view c.args.t.now) c.args.levels), c.in_err-r-in-9.was)))

call_turn_2 : (t : ℕ) (c : goal.call-After-n-in-9-1 t) → (c.loop-mark.q.current < c.in_ok-r-in-9.r.current) × (c.loop-mark.q.current < count c.args.t.now.table.now)
call_turn_2 t c =
    let n = peeked (view c.args.t.now) c.loop-mark.q.current _ c.peek-coming-in-loop-mark.ensures in
    let g = next_past _ _ _ _ _ n c.in-9.is refl refl in
    let a = ap (λ (x : State). x.current) c.at_token-in-9.ensures in
    let b = not_back (view c.args.t.now) c.args.levels (get c.loop-mark.e.node) _ _ _ _ _ _ _ (rw c.in_ok-r-in-9.was at (c.get.ensures (lower (view c.args.t.now) c.args.levels))) in
    (omega arith, g.1)

pub call-loop-mark-smaller-in-9 : goal.call-loop-mark-smaller-in-9
call-loop-mark-smaller-in-9 t c = let g = call_turn_2 t c in omega arith

call_again_2 : (t : ℕ) (c : goal.call-After-n-in-9-1 t) → suffixes_from (view c.args.t.now) c.args.levels c.loop-mark.invariant.fuel c.in_ok-r-in-9.n c.in_ok-r-in-9.r c.get.new.errors c.get.new.nodes ≡ suffixes_from (view c.args.t.now) c.args.levels (suc c.loop-mark.invariant.fuel) c.loop-mark.e c.loop-mark.q c.loop-mark.errors c.loop-mark.nodes
call_again_2 t c =
    let n = peeked (view c.args.t.now) c.loop-mark.q.current _ c.peek-coming-in-loop-mark.ensures in
    let e = call_dot (view c.args.t.now) (lower (view c.args.t.now) c.args.levels) c.loop-mark.invariant.fuel c.loop-mark.e c.loop-mark.q c.loop-mark.errors c.loop-mark.nodes _ _ n c.in-9.is in
    rw (e, ← c.at_token-in-9.ensures, ← c.get.ensures (lower (view c.args.t.now) c.args.levels)) (rw c.in_ok-r-in-9.was)

pub call-loop-mark-preserved-in-9 : goal.call-loop-mark-preserved-in-9
call-loop-mark-preserved-in-9 t c =
    let g = call_turn_2 t c in
    let f : suc (c.loop-mark.invariant.fuel - 1) ≡ c.loop-mark.invariant.fuel = omega (arith, c.loop-mark.invariant.enough) in
    record { fuel = c.loop-mark.invariant.fuel - 1; enough = omega (arith, c.loop-mark.invariant.enough); same = rw f (call_again_2 t c ∙ c.loop-mark.invariant.same); errors = c.get.auto.errors ∙ c.loop-mark.invariant.errors; nodes = c.get.auto.nodes ∙ c.loop-mark.invariant.nodes }

pub call-returns-in_err-r-in-4 : goal.call-returns-in_err-r-in-4
call-returns-in_err-r-in-4 t c =
    let n = peeked (view c.args.t.now) c.loop-mark.q.current _ c.peek-coming-in-loop-mark.ensures in
    let e = call_brace (view c.args.t.now) (lower (view c.args.t.now) c.args.levels) c.loop-mark.invariant.fuel c.loop-mark.e c.loop-mark.q c.loop-mark.errors c.loop-mark.nodes _ _ n c.in-4.is in
    rw (given_up _ _ c.from_residual-in_err-r-in-4.ensures.1) (rw (before_suffixes _ _ _ _ _ _ _ _ _ _ c.primary.ensures c.in_ok-u.was c.loop-mark.invariant.same, e) (rw (← c.at_token-in-4.ensures, ← c.access.ensures, c.in_err-r-in-4.was)))

call_turn_3 : (t : ℕ) (c : goal.call-After-n-in-4-1 t) → (c.loop-mark.q.current < c.in_ok-r-in-4.r.current) × (c.loop-mark.q.current < count c.args.t.now.table.now)
call_turn_3 t c =
    let n = peeked (view c.args.t.now) c.loop-mark.q.current _ c.peek-coming-in-loop-mark.ensures in
    let g = next_past _ _ _ _ _ n c.in-4.is refl refl in
    let a = ap (λ (x : State). x.current) c.at_token-in-4.ensures in
    let b = not_back (view c.args.t.now) c.args.levels (access (view c.args.t.now) c.loop-mark.e c.peek-coming-in-loop-mark.result.past) _ _ _ _ _ _ _ (rw c.in_ok-r-in-4.was at c.access.ensures) in
    (omega arith, g.1)

pub call-loop-mark-smaller : goal.call-loop-mark-smaller
call-loop-mark-smaller t c = let g = call_turn_3 t c in omega arith

call_again_3 : (t : ℕ) (c : goal.call-After-n-in-4-1 t) → suffixes_from (view c.args.t.now) c.args.levels c.loop-mark.invariant.fuel c.in_ok-r-in-4.n c.in_ok-r-in-4.r c.access.new.errors c.access.new.nodes ≡ suffixes_from (view c.args.t.now) c.args.levels (suc c.loop-mark.invariant.fuel) c.loop-mark.e c.loop-mark.q c.loop-mark.errors c.loop-mark.nodes
call_again_3 t c =
    let n = peeked (view c.args.t.now) c.loop-mark.q.current _ c.peek-coming-in-loop-mark.ensures in
    let e = call_brace (view c.args.t.now) (lower (view c.args.t.now) c.args.levels) c.loop-mark.invariant.fuel c.loop-mark.e c.loop-mark.q c.loop-mark.errors c.loop-mark.nodes _ _ n c.in-4.is in
    rw (e, ← c.at_token-in-4.ensures, ← c.access.ensures) (rw c.in_ok-r-in-4.was)

pub call-loop-mark-preserved : goal.call-loop-mark-preserved
call-loop-mark-preserved t c =
    let g = call_turn_3 t c in
    let f : suc (c.loop-mark.invariant.fuel - 1) ≡ c.loop-mark.invariant.fuel = omega (arith, c.loop-mark.invariant.enough) in
    record { fuel = c.loop-mark.invariant.fuel - 1; enough = omega (arith, c.loop-mark.invariant.enough); same = rw f (call_again_3 t c ∙ c.loop-mark.invariant.same); errors = c.access.auto.errors ∙ c.loop-mark.invariant.errors; nodes = c.access.auto.nodes ∙ c.loop-mark.invariant.nodes }

pub call-returns-in_default : goal.call-returns-in_default
call-returns-in_default t c =
    let n = peeked (view c.args.t.now) c.loop-mark.q.current _ c.peek-coming-in-loop-mark.ensures in
    let e = call_end_lem (view c.args.t.now) (lower (view c.args.t.now) c.args.levels) c.loop-mark.invariant.fuel c.loop-mark.e c.loop-mark.q c.loop-mark.errors c.loop-mark.nodes _ _ n (λ e. omega (arith, e)) (λ e. omega (arith, e)) (λ e. omega (arith, e)) in
    rw (c.found-in_default.ensures, c.looked-in_default.ensures) (sym (before_suffixes _ _ _ _ _ _ _ _ _ _ c.primary.ensures c.in_ok-u.was c.loop-mark.invariant.same ∙ e))

-- ---- class
pub class-returns-in_err-q : goal.class-returns-in_err-q
unfolding run class
class-returns-in_err-q t c = rw (given_up _ _ c.from_residual.ensures.1) (rw (← c.consume.ensures c.args.nodes.now, c.in_err-q.was))

pub class-returns-in_err-q-2 : goal.class-returns-in_err-q-2
unfolding run class
class-returns-in_err-q-2 t c = rw (given_up _ _ c.from_residual-in_err-q-2.ensures.1) (rw (← c.consume.ensures c.args.nodes.now, c.in_ok-q.was, ← c.superclass.ensures (lower (view c.args.t.now) c.args.levels)) (rw c.in_err-q-2.was))

pub class-returns-in_err-q-3 : goal.class-returns-in_err-q-3
unfolding run class
class-returns-in_err-q-3 t c = rw (given_up _ _ c.from_residual-in_err-q-3.ensures.1) (rw (← c.consume.ensures c.args.nodes.now, c.in_ok-q.was, ← c.superclass.ensures (lower (view c.args.t.now) c.args.levels)) (rw (c.in_ok-q-2.was, ← c.consume-2.ensures c.superclass.new.nodes, c.in_err-q-3.was)))

pub class-returns : goal.class-returns
unfolding run class
class-returns t c = rw (← c.consume.ensures c.args.nodes.now, c.in_ok-q.was, ← c.superclass.ensures (lower (view c.args.t.now) c.args.levels)) (rw (c.in_ok-q-2.was, ← c.consume-2.ensures c.superclass.new.nodes, c.in_ok-q-3.was) (rw (← c.methods.ensures)))

-- ---- declaration
pub declaration-returns-then-levels-eq0 : goal.declaration-returns-then-levels-eq0
declaration-returns-then-levels-eq0 t c =
    let z = lower_zero (view c.args.t.now) c.args.levels Declaration c.args.p c.args.errors.now c.args.nodes.now c.if-levels-eq0.true in
    rw (z, c.stopped.ensures)

pub declaration-returns-in-29 : goal.declaration-returns-in-29
unfolding run body
declaration-returns-in-29 t c =
    let z = lower_step (view c.args.t.now) c.args.levels Declaration c.args.p c.args.errors.now c.args.nodes.now c.if-levels-eq0.false in
    let n = peeked (view c.args.t.now) c.args.p.current _ c.peek-coming.ensures in
    let h = declaration_class (view c.args.t.now) (lower (view c.args.t.now) (c.args.levels - 1)) c.args.p c.args.errors.now c.args.nodes.now _ _ n c.in-29.is in
    rw (z ∙ h) (rw c.at_token.ensures at c.class.ensures)

pub declaration-returns-in-32 : goal.declaration-returns-in-32
unfolding run body
declaration-returns-in-32 t c =
    let z = lower_step (view c.args.t.now) c.args.levels Declaration c.args.p c.args.errors.now c.args.nodes.now c.if-levels-eq0.false in
    let n = peeked (view c.args.t.now) c.args.p.current _ c.peek-coming.ensures in
    let h = declaration_fn (view c.args.t.now) (lower (view c.args.t.now) (c.args.levels - 1)) c.args.p c.args.errors.now c.args.nodes.now _ _ n c.in-32.is in
    rw (z ∙ h) (rw c.at_token-in-32.ensures at c.fn_stmt.ensures)

pub declaration-returns-in-44 : goal.declaration-returns-in-44
unfolding run body
declaration-returns-in-44 t c =
    let z = lower_step (view c.args.t.now) c.args.levels Declaration c.args.p c.args.errors.now c.args.nodes.now c.if-levels-eq0.false in
    let n = peeked (view c.args.t.now) c.args.p.current _ c.peek-coming.ensures in
    let h = declaration_let (view c.args.t.now) (lower (view c.args.t.now) (c.args.levels - 1)) c.args.p c.args.errors.now c.args.nodes.now _ _ n c.in-44.is in
    rw (z ∙ h) (rw c.at_token-in-44.ensures at c.let_stmt.ensures)

pub declaration-returns-in_default : goal.declaration-returns-in_default
unfolding run body
declaration-returns-in_default t c =
    let z = lower_step (view c.args.t.now) c.args.levels Declaration c.args.p c.args.errors.now c.args.nodes.now c.if-levels-eq0.false in
    let n = peeked (view c.args.t.now) c.args.p.current _ c.peek-coming.ensures in
    let h = declaration_else (view c.args.t.now) (lower (view c.args.t.now) (c.args.levels - 1)) c.args.p c.args.errors.now c.args.nodes.now _ _ n (λ e. omega (arith, e)) (λ e. omega (arith, e)) (λ e. omega (arith, e)) in
    rw (z ∙ h, ← c.looked.ensures, ← c.stmt.ensures)

-- ---- elifs
pub elifs-loop-i-init : goal.elifs-loop-i-init
elifs-loop-i-init t c = record { fuel = count c.args.t.now.table.now; enough = omega arith; same = refl; errors = refl; nodes = refl }

pub elifs-returns-in_default : goal.elifs-returns-in_default
unfolding run elifs_from
elifs-returns-in_default t c = rw (← c.loop-i.invariant.same, ← c.matches.ensures, c.in_default.is) (rw (← c.looked.ensures, c.gives.ensures))

pub elifs-returns-in_err-q : goal.elifs-returns-in_err-q
unfolding run elifs_from
elifs-returns-in_err-q t c = rw (given_up _ _ c.from_residual.ensures.1) (rw (← c.loop-i.invariant.same, ← c.matches.ensures, c.in-Some.is) (rw (← c.at_token.ensures, ← c.assignment.ensures, c.in_err-q.was)))

pub elifs-returns-in_err-q-2 : goal.elifs-returns-in_err-q-2
unfolding run elifs_from
elifs-returns-in_err-q-2 t c = rw (given_up _ _ c.from_residual-in_err-q-2.ensures.1) (rw (← c.loop-i.invariant.same, ← c.matches.ensures, c.in-Some.is) (rw (← c.at_token.ensures, ← c.assignment.ensures, c.in_ok-q.was) (rw (← c.consume.ensures c.assignment.new.nodes, c.in_err-q-2.was))))

pub elifs-returns-in_err-q-3 : goal.elifs-returns-in_err-q-3
unfolding run elifs_from
elifs-returns-in_err-q-3 t c = rw (given_up _ _ c.from_residual-in_err-q-3.ensures.1) (rw (← c.loop-i.invariant.same, ← c.matches.ensures, c.in-Some.is) (rw (← c.at_token.ensures, ← c.assignment.ensures, c.in_ok-q.was) (rw (← c.consume.ensures c.assignment.new.nodes, c.in_ok-q-2.was, ← c.block.ensures) (rw c.in_err-q-3.was))))

pub elifs-returns-in_err-u : goal.elifs-returns-in_err-u
unfolding run elifs_from
elifs-returns-in_err-u t c = rw (given_up _ _ c.from_residual-in_err-u.ensures.1) (rw (← c.loop-i.invariant.same, ← c.matches.ensures, c.in-Some.is) (rw (← c.at_token.ensures, ← c.assignment.ensures, c.in_ok-q.was) (rw (← c.consume.ensures c.assignment.new.nodes, c.in_ok-q-2.was, ← c.block.ensures) (rw (c.in_ok-q-3.was, ← c.row.ensures, ← c.make.ensures c.block.new.errors) (rw c.in_err-u.was)))))

elifs_turn : (t : ℕ) (c : goal.elifs-After-slice_known-in-loop-i-7-1 t) → (c.loop-i.s.current < c.in_ok-u.u.current) × (c.loop-i.s.current < count c.args.t.now.table.now)
elifs_turn t c =
    let g = found_past _ _ _ _ _ c.matches.ensures c.in-Some.is refl in
    let a = ap (λ (x : State). x.current) c.at_token.ensures in
    let b = reading_past (view c.args.t.now) c.args.levels Assignment _ _ _ _ _ _ _ _ (rw c.in_ok-q.was at c.assignment.ensures) refl in
    let d = consume_on _ _ _ _ _ _ _ [] _ [] (rw c.in_ok-q-2.was at (c.consume.ensures [])) in
    let e = not_back (view c.args.t.now) c.args.levels (block (view c.args.t.now)) _ _ _ _ _ _ _ (rw c.in_ok-q-3.was at c.block.ensures) in
    let f = make_on _ _ _ _ [] _ [] _ (rw c.in_ok-u.was at (c.make.ensures [])) in
    (omega arith, g.1)

pub elifs-loop-i-smaller : goal.elifs-loop-i-smaller
elifs-loop-i-smaller t c = let g = elifs_turn t c in omega arith

elifs_again : (t : ℕ) (c : goal.elifs-After-slice_known-in-loop-i-7-1 t) → run (view c.args.t.now) (lower (view c.args.t.now) c.args.levels) (elifs_from (view c.args.t.now) c.loop-i.invariant.fuel c.and-list.result.first c.and-list.result.last) c.in_ok-u.u c.block.new.errors c.and-list.new.nodes ≡ run (view c.args.t.now) (lower (view c.args.t.now) c.args.levels) (elifs_from (view c.args.t.now) (suc c.loop-i.invariant.fuel) c.loop-i.list.first c.loop-i.list.last) c.loop-i.s c.loop-i.errors c.loop-i.nodes
unfolding run elifs_from
elifs_again t c = rw (← c.matches.ensures, c.in-Some.is, ← c.at_token.ensures) (rw (← c.assignment.ensures, c.in_ok-q.was, ← c.consume.ensures c.assignment.new.nodes) (rw (c.in_ok-q-2.was, ← c.block.ensures, c.in_ok-q-3.was) (rw (← c.row.ensures, ← c.make.ensures c.block.new.errors, c.in_ok-u.was) (rw (← c.and-list.ensures.next, c.and-list.ensures.members)))))

pub elifs-loop-i-preserved : goal.elifs-loop-i-preserved
elifs-loop-i-preserved t c =
    let g = elifs_turn t c in
    let f : suc (c.loop-i.invariant.fuel - 1) ≡ c.loop-i.invariant.fuel = omega (arith, c.loop-i.invariant.enough) in
    record { fuel = c.loop-i.invariant.fuel - 1; enough = omega (arith, c.loop-i.invariant.enough); same = rw f (elifs_again t c ∙ c.loop-i.invariant.same); errors = c.block.auto.errors ∙ c.consume.auto.errors ∙ c.assignment.auto.errors ∙ c.loop-i.invariant.errors; nodes = c.and-list.auto.nodes ∙ c.make.auto.nodes ∙ c.block.auto.nodes ∙ c.assignment.auto.nodes ∙ c.loop-i.invariant.nodes }

-- ---- fn_expr
pub fn_expr-returns-in_err-s : goal.fn_expr-returns-in_err-s
unfolding run fn_expr
fn_expr-returns-in_err-s t c = rw (given_up _ _ c.from_residual.ensures.1) (rw (← c.consume.ensures c.args.nodes.now, c.in_err-s.was))

pub fn_expr-returns-in_err-u : goal.fn_expr-returns-in_err-u
unfolding run fn_expr
fn_expr-returns-in_err-u t c = rw (given_up _ _ c.from_residual-in_err-u.ensures.1) (rw (← c.consume.ensures c.args.nodes.now, c.in_ok-s.was, ← c.with_loops.ensures) (rw (← c.func.ensures, c.in_err-u.was)))

pub fn_expr-returns : goal.fn_expr-returns
unfolding run fn_expr
fn_expr-returns t c = rw (← c.consume.ensures c.args.nodes.now, c.in_ok-s.was, ← c.with_loops.ensures) (rw (← c.func.ensures, c.in_ok-u.was, ← c.with_loops-2.ensures))

-- ---- fn_stmt
pub fn_stmt-returns-in_err-q : goal.fn_stmt-returns-in_err-q
unfolding run fn_stmt
fn_stmt-returns-in_err-q t c = rw (given_up _ _ c.from_residual.ensures.1) (rw (← c.require.ensures c.args.nodes.now, c.in_err-q.was))

pub fn_stmt-returns-in_err-s : goal.fn_stmt-returns-in_err-s
unfolding run fn_stmt
fn_stmt-returns-in_err-s t c = rw (given_up _ _ c.from_residual-in_err-s.ensures.1) (rw (← c.require.ensures c.args.nodes.now, c.in_ok-q.was, ← c.with_loops.ensures) (rw (← c.consume.ensures c.args.nodes.now, c.in_err-s.was)))

pub fn_stmt-returns-in_err-u : goal.fn_stmt-returns-in_err-u
unfolding run fn_stmt
fn_stmt-returns-in_err-u t c = rw (given_up _ _ c.from_residual-in_err-u.ensures.1) (rw (← c.require.ensures c.args.nodes.now, c.in_ok-q.was, ← c.with_loops.ensures) (rw (← c.consume.ensures c.args.nodes.now, c.in_ok-s.was, ← c.func.ensures) (rw c.in_err-u.was)))

pub fn_stmt-returns : goal.fn_stmt-returns
unfolding run fn_stmt
fn_stmt-returns t c = rw (← c.require.ensures c.args.nodes.now, c.in_ok-q.was, ← c.with_loops.ensures) (rw (← c.consume.ensures c.args.nodes.now, c.in_ok-s.was, ← c.func.ensures) (rw (c.in_ok-u.was, ← c.with_loops-2.ensures)))

-- ---- for_c
pub for_c-returns-in_err-q : goal.for_c-returns-in_err-q
unfolding run
for_c-returns-in_err-q t c = rw (given_up _ _ c.from_residual.ensures.1) (rw (← c.assignment.ensures, c.in_err-q.was))

pub for_c-returns-in_err-q-2 : goal.for_c-returns-in_err-q-2
unfolding run
for_c-returns-in_err-q-2 t c = rw (given_up _ _ c.from_residual-in_err-q-2.ensures.1) (rw (← c.assignment.ensures, c.in_ok-q.was, ← c.consume.ensures c.assignment.new.nodes) (rw c.in_err-q-2.was))

pub for_c-returns-in_err-q-3 : goal.for_c-returns-in_err-q-3
unfolding run
for_c-returns-in_err-q-3 t c = rw (given_up _ _ c.from_residual-in_err-q-3.ensures.1) (rw (← c.assignment.ensures, c.in_ok-q.was, ← c.consume.ensures c.assignment.new.nodes) (rw (c.in_ok-q-2.was, ← c.assignment-2.ensures, c.in_err-q-3.was)))

pub for_c-returns-in_err-q-4 : goal.for_c-returns-in_err-q-4
unfolding run
for_c-returns-in_err-q-4 t c = rw (given_up _ _ c.from_residual-in_err-q-4.ensures.1) (rw (← c.assignment.ensures, c.in_ok-q.was, ← c.consume.ensures c.assignment.new.nodes) (rw (c.in_ok-q-2.was, ← c.assignment-2.ensures, c.in_ok-q-3.was) (rw (← c.declaration.ensures, c.in_err-q-4.was))))

pub for_c-returns : goal.for_c-returns
unfolding run
for_c-returns t c = rw (← c.assignment.ensures, c.in_ok-q.was, ← c.consume.ensures c.assignment.new.nodes) (rw (c.in_ok-q-2.was, ← c.assignment-2.ensures, c.in_ok-q-3.was) (rw (← c.declaration.ensures, c.in_ok-q-4.was, ← c.leave_loop.ensures) (rw (← c.row.ensures, ← c.make.ensures c.declaration.new.errors))))

-- ---- for_in
pub for_in-returns-in_err-q : goal.for_in-returns-in_err-q
unfolding run enhanced_for
for_in-returns-in_err-q t c = rw (given_up _ _ c.from_residual.ensures.1) (rw (← c.names.ensures (lower (view c.args.t.now) c.args.levels) c.args.errors.now, c.in_err-q.was))

pub for_in-returns-in_err-q-2 : goal.for_in-returns-in_err-q-2
unfolding run enhanced_for
for_in-returns-in_err-q-2 t c = rw (given_up _ _ c.from_residual-in_err-q-2.ensures.1) (rw (← c.names.ensures (lower (view c.args.t.now) c.args.levels) c.args.errors.now, c.in_ok-q.was, ← c.consume.ensures c.names.new.nodes) (rw c.in_err-q-2.was))

pub for_in-returns-in_err-q-3 : goal.for_in-returns-in_err-q-3
unfolding run enhanced_for
for_in-returns-in_err-q-3 t c = rw (given_up _ _ c.from_residual-in_err-q-3.ensures.1) (rw (← c.names.ensures (lower (view c.args.t.now) c.args.levels) c.args.errors.now, c.in_ok-q.was, ← c.consume.ensures c.names.new.nodes) (rw (c.in_ok-q-2.was, ← c.assignment.ensures, c.in_err-q-3.was)))

pub for_in-returns : goal.for_in-returns
unfolding run enhanced_for
for_in-returns t c = rw (← c.names.ensures (lower (view c.args.t.now) c.args.levels) c.args.errors.now, c.in_ok-q.was, ← c.consume.ensures c.names.new.nodes) (rw (c.in_ok-q-2.was, ← c.assignment.ensures, c.in_ok-q-3.was) (rw (← c.declaration-stmt.ensures, ← c.for_node.ensures c.declaration-stmt.new.errors)))

-- ---- for_loop
pub for_loop-returns-in-Some : goal.for_loop-returns-in-Some
unfolding run for_loop classic_for
for_loop-returns-in-Some t c = rw (← (rw c.enter_loop-s.ensures at c.check.ensures), c.in-Some.is) (rw ((rw c.enter_loop-s.ensures at c.at_token.ensures)) at c.for_in.ensures)

pub for_loop-returns-in-Some-matches : goal.for_loop-returns-in-Some-matches
unfolding run for_loop classic_for
for_loop-returns-in-Some-matches t c = rw (← (rw c.enter_loop-s.ensures at c.check.ensures), c.in_default.is, ← (rw c.enter_loop-s.ensures at c.matches.ensures)) (rw c.in-Some-matches.is (rw ((rw c.enter_loop-s.ensures at ((rw c.looked-s.ensures at c.at_token-in-Some-matches.ensures)))) at c.for_c.ensures))

pub for_loop-returns-in_err-q : goal.for_loop-returns-in_err-q
unfolding run for_loop classic_for
for_loop-returns-in_err-q t c = rw (given_up _ _ c.from_residual.ensures.1) (rw (← (rw c.enter_loop-s.ensures at c.check.ensures), c.in_default.is, ← (rw c.enter_loop-s.ensures at c.matches.ensures)) (rw (c.in_default-matches.is, ← (rw c.enter_loop-s.ensures at c.matches-2.ensures), c.in-Some-matches-2.is) (rw (← (rw c.enter_loop-s.ensures at ((rw c.looked-s.ensures at ((rw c.looked-s-2.ensures at c.at_token-in-Some-matches-2.ensures))))), ← c.let_stmt.ensures, c.in_err-q.was))))

pub for_loop-returns-in_err-q-2 : goal.for_loop-returns-in_err-q-2
unfolding run for_loop classic_for
for_loop-returns-in_err-q-2 t c = rw (given_up _ _ c.from_residual-in_err-q-2.ensures.1) (rw (← (rw c.enter_loop-s.ensures at c.check.ensures), c.in_default.is, ← (rw c.enter_loop-s.ensures at c.matches.ensures)) (rw (c.in_default-matches.is, ← (rw c.enter_loop-s.ensures at c.matches-2.ensures), c.in-Some-matches-2.is) (rw (← (rw c.enter_loop-s.ensures at ((rw c.looked-s.ensures at ((rw c.looked-s-2.ensures at c.at_token-in-Some-matches-2.ensures))))), ← c.let_stmt.ensures, c.in_ok-q.was) (rw (← c.consume.ensures c.let_stmt.new.nodes, c.in_err-q-2.was)))))

pub for_loop-returns-in-Some-matches-2 : goal.for_loop-returns-in-Some-matches-2
unfolding run for_loop classic_for
for_loop-returns-in-Some-matches-2 t c = rw (← (rw c.enter_loop-s.ensures at c.check.ensures), c.in_default.is, ← (rw c.enter_loop-s.ensures at c.matches.ensures)) (rw (c.in_default-matches.is, ← (rw c.enter_loop-s.ensures at c.matches-2.ensures), c.in-Some-matches-2.is) (rw (← (rw c.enter_loop-s.ensures at ((rw c.looked-s.ensures at ((rw c.looked-s-2.ensures at c.at_token-in-Some-matches-2.ensures))))), ← c.let_stmt.ensures, c.in_ok-q.was) (rw (← c.consume.ensures c.let_stmt.new.nodes, c.in_ok-q-2.was, ← c.for_c-in-Some-matches-2.ensures))))

pub for_loop-returns-in_err-q-3 : goal.for_loop-returns-in_err-q-3
unfolding run for_loop classic_for
for_loop-returns-in_err-q-3 t c = rw (given_up _ _ c.from_residual-in_err-q-3.ensures.1) (rw (← (rw c.enter_loop-s.ensures at c.check.ensures), c.in_default.is, ← (rw c.enter_loop-s.ensures at c.matches.ensures)) (rw (c.in_default-matches.is, ← (rw c.enter_loop-s.ensures at c.matches-2.ensures), c.in_default-matches-2.is) (rw (← (rw c.enter_loop-s.ensures at ((rw c.looked-s.ensures at ((rw c.looked-s-2.ensures at c.looked.ensures))))), ← (rw c.enter_loop-s.ensures at (c.set_error.ensures c.args.nodes.now)), c.in_err-q-3.was))))

pub for_loop-returns : goal.for_loop-returns
unfolding run for_loop classic_for
for_loop-returns t c = rw (← (rw c.enter_loop-s.ensures at c.check.ensures), c.in_default.is, ← (rw c.enter_loop-s.ensures at c.matches.ensures)) (rw (c.in_default-matches.is, ← (rw c.enter_loop-s.ensures at c.matches-2.ensures), c.in_default-matches-2.is) (rw (← (rw c.enter_loop-s.ensures at ((rw c.looked-s.ensures at ((rw c.looked-s-2.ensures at c.looked.ensures))))), ← (rw c.enter_loop-s.ensures at (c.set_error.ensures c.args.nodes.now)), c.in_ok-q-3.was) (rw (← c.for_c-2.ensures))))

-- ---- func
pub func-returns-in_err-q : goal.func-returns-in_err-q
unfolding run function_body expression_stmt
func-returns-in_err-q t c = rw (given_up _ _ c.from_residual.ensures.1) (rw (← c.parameters.ensures (lower (view c.args.t.now) c.args.levels), c.in_err-q.was))

pub func-returns-in_err-s : goal.func-returns-in_err-s
unfolding run function_body expression_stmt
func-returns-in_err-s t c = rw (given_up _ _ c.from_residual-in_err-s.ensures.1) (rw (← c.parameters.ensures (lower (view c.args.t.now) c.args.levels), c.in_ok-q.was, ← c.consume.ensures c.parameters.new.nodes) (rw c.in_err-s.was))

pub func-returns-in-Some : goal.func-returns-in-Some
unfolding run function_body expression_stmt
func-returns-in-Some t c = rw (← c.parameters.ensures (lower (view c.args.t.now) c.args.levels), c.in_ok-q.was, ← c.consume.ensures c.parameters.new.nodes) (rw (c.in_ok-s.was, ← c.matches.ensures, c.in-Some.is) (rw (← (rw c.at_token.ensures at c.block-b.ensures), ← c.fn_node.ensures c.block-b.new.errors)))

pub func-returns-in-None : goal.func-returns-in-None
unfolding run function_body expression_stmt
func-returns-in-None t c = rw (← c.parameters.ensures (lower (view c.args.t.now) c.args.levels), c.in_ok-q.was, ← c.consume.ensures c.parameters.new.nodes) (rw (c.in_ok-s.was, ← c.matches.ensures, c.in-None.is) (rw (← c.looked.ensures, ← c.assignment-g.ensures, ← c.expression_stmt-b.ensures c.assignment-g.new.errors) (rw (← c.fn_node-in-None.ensures c.assignment-g.new.errors))))

-- ---- if_stmt
pub if_stmt-returns-in_err-q : goal.if_stmt-returns-in_err-q
unfolding run if_stmt block
if_stmt-returns-in_err-q t c = rw (given_up _ _ c.from_residual.ensures.1) (rw (← c.assignment.ensures, c.in_err-q.was))

pub if_stmt-returns-in_err-q-2 : goal.if_stmt-returns-in_err-q-2
unfolding run if_stmt block
if_stmt-returns-in_err-q-2 t c = rw (given_up _ _ c.from_residual-in_err-q-2.ensures.1) (rw (← c.assignment.ensures, c.in_ok-q.was, ← c.consume.ensures c.assignment.new.nodes) (rw c.in_err-q-2.was))

pub if_stmt-returns-in_err-q-3 : goal.if_stmt-returns-in_err-q-3
unfolding run if_stmt block
if_stmt-returns-in_err-q-3 t c = rw (given_up _ _ c.from_residual-in_err-q-3.ensures.1) (rw (← c.assignment.ensures, c.in_ok-q.was, ← c.consume.ensures c.assignment.new.nodes) (rw (c.in_ok-q-2.was, ← c.block.ensures, c.in_err-q-3.was)))

pub if_stmt-returns-in_err-q-4 : goal.if_stmt-returns-in_err-q-4
unfolding run if_stmt block
if_stmt-returns-in_err-q-4 t c = rw (given_up _ _ c.from_residual-in_err-q-4.ensures.1) (rw (← c.assignment.ensures, c.in_ok-q.was, ← c.consume.ensures c.assignment.new.nodes) (rw (c.in_ok-q-2.was, ← c.block.ensures, c.in_ok-q-3.was) (rw (← c.elifs.ensures, c.in_err-q-4.was))))

pub if_stmt-returns-in_default : goal.if_stmt-returns-in_default
unfolding run if_stmt block
if_stmt-returns-in_default t c = rw (← c.assignment.ensures, c.in_ok-q.was, ← c.consume.ensures c.assignment.new.nodes) (rw (c.in_ok-q-2.was, ← c.block.ensures, c.in_ok-q-3.was) (rw (← c.elifs.ensures, c.in_ok-q-4.was, ← c.matches.ensures) (rw (c.in_default.is, ← c.looked.ensures, ← c.row.ensures) (rw (← c.make.ensures c.elifs.new.errors)))))

pub if_stmt-returns-in_err-q-5 : goal.if_stmt-returns-in_err-q-5
unfolding run if_stmt block
if_stmt-returns-in_err-q-5 t c = rw (given_up _ _ c.from_residual-in_err-q-5.ensures.1) (rw (← c.assignment.ensures, c.in_ok-q.was, ← c.consume.ensures c.assignment.new.nodes) (rw (c.in_ok-q-2.was, ← c.block.ensures, c.in_ok-q-3.was) (rw (← c.elifs.ensures, c.in_ok-q-4.was, ← c.matches.ensures) (rw (c.in-Some.is, ← c.at_token.ensures, ← c.consume-2.ensures c.elifs.new.nodes) (rw c.in_err-q-5.was)))))

pub if_stmt-returns : goal.if_stmt-returns
unfolding run if_stmt block
if_stmt-returns t c =
    let h = else_block (view c.args.t.now) (lower (view c.args.t.now) c.args.levels) (λ o q E N. push_node (if_row c.args.keyword c.in_ok-q.cond.node c.in_ok-q-3.stmts.node c.in_ok-q-4.e.node (o.node)) q E N) (fuel (view c.args.t.now)) 0 0 c.in_ok-q-5.q c.consume-2.new.errors c.elifs.new.nodes in
    rw (← c.assignment.ensures, c.in_ok-q.was, ← c.consume.ensures c.assignment.new.nodes) (rw (c.in_ok-q-2.was, ← c.block.ensures, c.in_ok-q-3.was) (rw (← c.elifs.ensures, c.in_ok-q-4.was, ← c.matches.ensures) (rw (c.in-Some.is, ← c.at_token.ensures, ← c.consume-2.ensures c.elifs.new.nodes) (rw (c.in_ok-q-5.was, h, ← c.block-o.ensures) (rw (← c.if_node.ensures c.block-o.new.errors))))))

-- ---- let_stmt
pub let_stmt-returns-in_err-q : goal.let_stmt-returns-in_err-q
unfolding run let_stmt
let_stmt-returns-in_err-q t c = rw (given_up _ _ c.from_residual.ensures.1) (rw (← c.require.ensures c.args.nodes.now, c.in_err-q.was))

pub let_stmt-returns-in_default : goal.let_stmt-returns-in_default
unfolding run let_stmt
let_stmt-returns-in_default t c = rw (← c.require.ensures c.args.nodes.now, c.in_ok-q.was, ← c.matches.ensures) (rw (c.in_default.is, ← c.looked.ensures, ← c.row.ensures) (rw (← c.make.ensures c.require.new.errors)))

pub let_stmt-returns-in_err-s : goal.let_stmt-returns-in_err-s
unfolding run let_stmt
let_stmt-returns-in_err-s t c = rw (given_up _ _ c.from_residual-in_err-s.ensures.1) (rw (← c.require.ensures c.args.nodes.now, c.in_ok-q.was, ← c.matches.ensures) (rw (c.in-Some.is, ← c.at_token.ensures, ← c.assignment.ensures) (rw c.in_err-s.was)))

pub let_stmt-returns : goal.let_stmt-returns
unfolding run let_stmt
let_stmt-returns t c = rw (← c.require.ensures c.args.nodes.now, c.in_ok-q.was, ← c.matches.ensures) (rw (c.in-Some.is, ← c.at_token.ensures, ← c.assignment.ensures) (rw (c.in_ok-s.was, ← c.row-2.ensures, ← c.make-2.ensures c.assignment.new.errors)))

-- ---- methods
pub methods-loop-i-init : goal.methods-loop-i-init
methods-loop-i-init t c = record { fuel = count c.args.t.now.table.now; enough = omega arith; same = refl; errors = refl; nodes = refl }

pub methods-returns-in-Some : goal.methods-returns-in-Some
unfolding run methods_from
methods-returns-in-Some t c = rw (← c.loop-i.invariant.same, ← c.check.ensures, c.in-Some.is) (rw (← c.at_token.ensures, ← c.end_class.ensures (lower (view c.args.t.now) c.args.levels)))

pub methods-returns-then-is_at_end : goal.methods-returns-then-is_at_end
unfolding run methods_from
methods-returns-then-is_at_end t c = rw (← c.loop-i.invariant.same, ← c.check.ensures, c.in_default.is) (rw (← c.is_at_end.ensures, c.if-is_at_end.true, ← (rw c.looked-u.ensures at (c.end_class-then-is_at_end.ensures (lower (view c.args.t.now) c.args.levels)))))

pub methods-returns-in_err-q : goal.methods-returns-in_err-q
unfolding run methods_from
methods-returns-in_err-q t c = rw (given_up _ _ c.from_residual.ensures.1) (rw (← c.loop-i.invariant.same, ← c.check.ensures, c.in_default.is) (rw (← c.is_at_end.ensures, c.if-is_at_end.false, ← c.matches.ensures) (rw (c.in-Some-matches.is, ← (rw c.looked-u.ensures at c.at_token-in-Some-matches.ensures), ← c.fn_stmt.ensures) (rw c.in_err-q.was))))

methods_turn : (t : ℕ) (c : goal.methods-After-slice_known-in-Some-matches-3-1 t) → (c.loop-i.s.current < c.in_ok-q.q.current) × (c.loop-i.s.current < count c.args.t.now.table.now)
methods_turn t c =
    let g = found_past _ _ _ _ _ c.matches.ensures c.in-Some-matches.is refl in
    let a = ap (λ (x : State). x.current) c.at_token-in-Some-matches.ensures in
    let b = not_back (view c.args.t.now) c.args.levels (fn_stmt (view c.args.t.now)) _ _ _ _ _ _ _ (rw c.in_ok-q.was at c.fn_stmt.ensures) in
    (omega arith, g.1)

pub methods-loop-i-smaller-in-Some-matches : goal.methods-loop-i-smaller-in-Some-matches
methods-loop-i-smaller-in-Some-matches t c = let g = methods_turn t c in omega arith

methods_again : (t : ℕ) (c : goal.methods-After-slice_known-in-Some-matches-3-1 t) → run (view c.args.t.now) (lower (view c.args.t.now) c.args.levels) (methods_from (view c.args.t.now) c.loop-i.invariant.fuel (end_class c.args.name c.args.sup) c.loop-i.list.first c.loop-i.list.last c.and-statics.result.first c.and-statics.result.last) c.in_ok-q.q c.fn_stmt.new.errors c.and-statics.new.nodes ≡ run (view c.args.t.now) (lower (view c.args.t.now) c.args.levels) (methods_from (view c.args.t.now) (suc c.loop-i.invariant.fuel) (end_class c.args.name c.args.sup) c.loop-i.list.first c.loop-i.list.last c.loop-i.statics.first c.loop-i.statics.last) c.loop-i.s c.loop-i.errors c.loop-i.nodes
unfolding run methods_from
methods_again t c = rw (← c.check.ensures, c.in_default.is, ← c.is_at_end.ensures) (rw (c.if-is_at_end.false, ← c.matches.ensures, c.in-Some-matches.is) (rw (← (rw c.looked-u.ensures at c.at_token-in-Some-matches.ensures), ← c.fn_stmt.ensures, c.in_ok-q.was) (rw (← c.and-statics.ensures.next, c.and-statics.ensures.members))))

pub methods-loop-i-preserved-in-Some-matches : goal.methods-loop-i-preserved-in-Some-matches
methods-loop-i-preserved-in-Some-matches t c =
    let g = methods_turn t c in
    let f : suc (c.loop-i.invariant.fuel - 1) ≡ c.loop-i.invariant.fuel = omega (arith, c.loop-i.invariant.enough) in
    record { fuel = c.loop-i.invariant.fuel - 1; enough = omega (arith, c.loop-i.invariant.enough); same = rw f (methods_again t c ∙ c.loop-i.invariant.same); errors = c.fn_stmt.auto.errors ∙ c.loop-i.invariant.errors; nodes = c.and-statics.auto.nodes ∙ c.fn_stmt.auto.nodes ∙ c.loop-i.invariant.nodes }

pub methods-returns-in_err-q-2 : goal.methods-returns-in_err-q-2
unfolding run methods_from
methods-returns-in_err-q-2 t c = rw (given_up _ _ c.from_residual-in_err-q-2.ensures.1) (rw (← c.loop-i.invariant.same, ← c.check.ensures, c.in_default.is) (rw (← c.is_at_end.ensures, c.if-is_at_end.false, ← c.matches.ensures) (rw (c.in_default-matches.is, ← (rw c.looked-u.ensures at c.looked.ensures), ← c.fn_stmt-in_default-matches.ensures) (rw c.in_err-q-2.was))))

methods_turn_2 : (t : ℕ) (c : goal.methods-After-slice_known-in_default-matches-3-1 t) → (c.loop-i.s.current < c.in_ok-q-2.q.current) × (c.loop-i.s.current < count c.args.t.now.table.now)
unfolding moves fn_stmt
methods_turn_2 t c = let g = gave_past (view c.args.t.now) c.args.levels (fn_stmt (view c.args.t.now)) _ _ _ _ _ _ _ _ refl (rw c.in_ok-q-2.was at c.fn_stmt-in_default-matches.ensures) refl in let a = ap (λ (x : State). x.current) c.looked-u.ensures in let b = ap (λ (x : State). x.current) c.looked.ensures in (omega (arith, g.1, a, b), omega (arith, g.0, a, b))

pub methods-loop-i-smaller : goal.methods-loop-i-smaller
methods-loop-i-smaller t c = let g = methods_turn_2 t c in omega arith

methods_again_2 : (t : ℕ) (c : goal.methods-After-slice_known-in_default-matches-3-1 t) → run (view c.args.t.now) (lower (view c.args.t.now) c.args.levels) (methods_from (view c.args.t.now) c.loop-i.invariant.fuel (end_class c.args.name c.args.sup) c.and-list.result.first c.and-list.result.last c.loop-i.statics.first c.loop-i.statics.last) c.in_ok-q-2.q c.fn_stmt-in_default-matches.new.errors c.and-list.new.nodes ≡ run (view c.args.t.now) (lower (view c.args.t.now) c.args.levels) (methods_from (view c.args.t.now) (suc c.loop-i.invariant.fuel) (end_class c.args.name c.args.sup) c.loop-i.list.first c.loop-i.list.last c.loop-i.statics.first c.loop-i.statics.last) c.loop-i.s c.loop-i.errors c.loop-i.nodes
unfolding run methods_from
methods_again_2 t c = rw (← c.check.ensures, c.in_default.is, ← c.is_at_end.ensures) (rw (c.if-is_at_end.false, ← c.matches.ensures, c.in_default-matches.is) (rw (← (rw c.looked-u.ensures at c.looked.ensures), ← c.fn_stmt-in_default-matches.ensures, c.in_ok-q-2.was) (rw (← c.and-list.ensures.next, c.and-list.ensures.members))))

pub methods-loop-i-preserved : goal.methods-loop-i-preserved
methods-loop-i-preserved t c =
    let g = methods_turn_2 t c in
    let f : suc (c.loop-i.invariant.fuel - 1) ≡ c.loop-i.invariant.fuel = omega (arith, c.loop-i.invariant.enough) in
    record { fuel = c.loop-i.invariant.fuel - 1; enough = omega (arith, c.loop-i.invariant.enough); same = rw f (methods_again_2 t c ∙ c.loop-i.invariant.same); errors = c.fn_stmt-in_default-matches.auto.errors ∙ c.loop-i.invariant.errors; nodes = c.and-list.auto.nodes ∙ c.fn_stmt-in_default-matches.auto.nodes ∙ c.loop-i.invariant.nodes }

-- ---- pairs
pub pairs-loop-i-init : goal.pairs-loop-i-init
pairs-loop-i-init t c = record { fuel = count c.args.t.now.table.now; enough = omega arith; same = refl; errors = refl; nodes = refl }

pub pairs-returns-in-Some : goal.pairs-returns-in-Some
unfolding run dict_elements_from
pairs-returns-in-Some t c = rw (← c.loop-i.invariant.same, ← c.check.ensures, c.in-Some.is) (rw (← c.at_token.ensures, c.gives.ensures))

pub pairs-returns-in_err-q : goal.pairs-returns-in_err-q
unfolding run dict_elements_from
pairs-returns-in_err-q t c = rw (given_up _ _ c.from_residual.ensures.1) (rw (← c.loop-i.invariant.same, ← c.check.ensures, c.in_default.is) (rw (← c.looked.ensures, ← c.assignment.ensures, c.in_err-q.was)))

pub pairs-returns-in_err-q-2 : goal.pairs-returns-in_err-q-2
unfolding run dict_elements_from
pairs-returns-in_err-q-2 t c = rw (given_up _ _ c.from_residual-in_err-q-2.ensures.1) (rw (← c.loop-i.invariant.same, ← c.check.ensures, c.in_default.is) (rw (← c.looked.ensures, ← c.assignment.ensures, c.in_ok-q.was) (rw (← c.consume.ensures c.assignment.new.nodes, c.in_err-q-2.was))))

pub pairs-returns-in_err-u : goal.pairs-returns-in_err-u
unfolding run dict_elements_from
pairs-returns-in_err-u t c = rw (given_up _ _ c.from_residual-in_err-u.ensures.1) (rw (← c.loop-i.invariant.same, ← c.check.ensures, c.in_default.is) (rw (← c.looked.ensures, ← c.assignment.ensures, c.in_ok-q.was) (rw (← c.consume.ensures c.assignment.new.nodes, c.in_ok-q-2.was, ← c.assignment-in-loop-i.ensures) (rw c.in_err-u.was))))

pub pairs-returns-in_default-matches : goal.pairs-returns-in_default-matches
unfolding run dict_elements_from
pairs-returns-in_default-matches t c = rw (← c.loop-i.invariant.same, ← c.check.ensures, c.in_default.is) (rw (← c.looked.ensures, ← c.assignment.ensures, c.in_ok-q.was) (rw (← c.consume.ensures c.assignment.new.nodes, c.in_ok-q-2.was, ← c.assignment-in-loop-i.ensures) (rw (c.in_ok-u.was, ← c.and-list.ensures.next, ← c.link.ensures) (rw (← c.matches.ensures, c.in_default-matches.is) (rw (← c.looked-in_default-matches.ensures, c.gives-in_default-matches.ensures, c.and-list.ensures.members))))))

pairs_turn : (t : ℕ) (c : goal.pairs-After-at_token-s t) → (c.loop-i.s.current < c.at_token-s.result.current) × (c.loop-i.s.current < count c.args.t.now.table.now)
pairs_turn t c =
    let a = reading_past (view c.args.t.now) c.args.levels Assignment _ _ _ _ _ _ _ _ (rw c.in_ok-q.was at c.assignment.ensures) refl in
    let b = consume_on _ _ _ _ _ _ _ [] _ [] (rw c.in_ok-q-2.was at (c.consume.ensures [])) in
    let d = reading_past (view c.args.t.now) c.args.levels Assignment _ _ _ _ _ _ _ _ (rw c.in_ok-u.was at c.assignment-in-loop-i.ensures) refl in
    let g = found_past _ _ _ _ _ c.matches.ensures c.in-Some-matches.is refl in
    let e = ap (λ (x : State). x.current) c.at_token-s.ensures in
    let f = ap (λ (x : State). x.current) c.looked.ensures in
    (omega arith, omega (arith, a.0, f))

pub pairs-loop-i-smaller : goal.pairs-loop-i-smaller
pairs-loop-i-smaller t c = let g = pairs_turn t c in omega arith

pairs_again : (t : ℕ) (c : goal.pairs-After-at_token-s t) → run (view c.args.t.now) (lower (view c.args.t.now) c.args.levels) (dict_elements_from (view c.args.t.now) c.loop-i.invariant.fuel c.and-list.result.first c.in_ok-u.value.node) c.at_token-s.result c.assignment-in-loop-i.new.errors c.link.new.nodes ≡ run (view c.args.t.now) (lower (view c.args.t.now) c.args.levels) (dict_elements_from (view c.args.t.now) (suc c.loop-i.invariant.fuel) c.loop-i.list.first c.loop-i.list.last) c.loop-i.s c.loop-i.errors c.loop-i.nodes
unfolding run dict_elements_from
pairs_again t c = rw (← c.check.ensures, c.in_default.is, ← c.looked.ensures) (rw (← c.assignment.ensures, c.in_ok-q.was, ← c.consume.ensures c.assignment.new.nodes) (rw (c.in_ok-q-2.was, ← c.assignment-in-loop-i.ensures, c.in_ok-u.was) (rw (← c.and-list.ensures.next, ← c.link.ensures, c.and-list.ensures.members) (rw (← c.matches.ensures, c.in-Some-matches.is, ← c.at_token-s.ensures)))))

pub pairs-loop-i-preserved : goal.pairs-loop-i-preserved
pairs-loop-i-preserved t c =
    let g = pairs_turn t c in
    let f : suc (c.loop-i.invariant.fuel - 1) ≡ c.loop-i.invariant.fuel = omega (arith, c.loop-i.invariant.enough) in
    record { fuel = c.loop-i.invariant.fuel - 1; enough = omega (arith, c.loop-i.invariant.enough); same = rw f (pairs_again t c ∙ c.loop-i.invariant.same); errors = c.assignment-in-loop-i.auto.errors ∙ c.consume.auto.errors ∙ c.assignment.auto.errors ∙ c.loop-i.invariant.errors; nodes = c.link.auto.nodes ∙ c.and-list.auto.nodes ∙ c.assignment-in-loop-i.auto.nodes ∙ c.assignment.auto.nodes ∙ c.loop-i.invariant.nodes }

-- ---- primary
pub primary-returns-in-Some : goal.primary-returns-in-Some
unfolding run
primary-returns-in-Some t c =
    let n = peeked (view c.args.t.now) c.args.p.current _ c.peek-coming.ensures in
    let h = primary_literal (view c.args.t.now) (lower (view c.args.t.now) c.args.levels) c.args.p c.args.errors.now c.args.nodes.now _ _ n _ (placed _ _ _ c.literal_place.ensures c.in-Some.is).0 (placed _ _ _ c.literal_place.ensures c.in-Some.is).1 in
    rw (h, ← c.at_token.ensures, ← c.row.ensures) (rw (← c.make.ensures c.args.errors.now))

pub primary-returns-in-25 : goal.primary-returns-in-25
unfolding run
primary-returns-in-25 t c =
    let n = peeked (view c.args.t.now) c.args.p.current _ c.peek-coming.ensures in
    let h = primary_identifier (view c.args.t.now) (lower (view c.args.t.now) c.args.levels) c.args.p c.args.errors.now c.args.nodes.now _ _ n c.in-25.is in
    rw (h, ← c.at_token-in-25.ensures, ← c.variable.ensures c.args.errors.now)

pub primary-returns-in_err-q-in-2 : goal.primary-returns-in_err-q-in-2
unfolding run
primary-returns-in_err-q-in-2 t c =
    let n = peeked (view c.args.t.now) c.args.p.current _ c.peek-coming.ensures in
    let h = primary_leftparen (view c.args.t.now) (lower (view c.args.t.now) c.args.levels) c.args.p c.args.errors.now c.args.nodes.now _ _ n c.in-2.is in
    rw (given_up _ _ c.from_residual.ensures.1) (rw (h, ← c.at_token-in-2.ensures, ← c.assignment.ensures) (rw c.in_err-q-in-2.was))

pub primary-returns-in_ok-q-in-2 : goal.primary-returns-in_ok-q-in-2
unfolding run
primary-returns-in_ok-q-in-2 t c =
    let n = peeked (view c.args.t.now) c.args.p.current _ c.peek-coming.ensures in
    let h = primary_leftparen (view c.args.t.now) (lower (view c.args.t.now) c.args.levels) c.args.p c.args.errors.now c.args.nodes.now _ _ n c.in-2.is in
    rw (h, ← c.at_token-in-2.ensures, ← c.assignment.ensures) (rw (c.in_ok-q-in-2.was, ← c.grouping.ensures (lower (view c.args.t.now) c.args.levels)))

pub primary-returns-in-4 : goal.primary-returns-in-4
unfolding run list
primary-returns-in-4 t c =
    let n = peeked (view c.args.t.now) c.args.p.current _ c.peek-coming.ensures in
    let h = primary_leftbrace (view c.args.t.now) (lower (view c.args.t.now) c.args.levels) c.args.p c.args.errors.now c.args.nodes.now _ _ n c.in-4.is in
    rw (h, ← c.at_token-q.ensures, ← c.arguments-g.ensures) (rw (← c.collection.ensures (lower (view c.args.t.now) c.args.levels)))

pub primary-returns-in-7 : goal.primary-returns-in-7
unfolding run dictionary
primary-returns-in-7 t c =
    let n = peeked (view c.args.t.now) c.args.p.current _ c.peek-coming.ensures in
    let h = primary_leftcurlybrace (view c.args.t.now) (lower (view c.args.t.now) c.args.levels) c.args.p c.args.errors.now c.args.nodes.now _ _ n c.in-7.is in
    rw (h, ← c.at_token-in-7.ensures, ← c.pairs-g.ensures) (rw (← c.collection-in-7.ensures (lower (view c.args.t.now) c.args.levels)))

pub primary-returns-in-32 : goal.primary-returns-in-32
unfolding run
primary-returns-in-32 t c =
    let n = peeked (view c.args.t.now) c.args.p.current _ c.peek-coming.ensures in
    let h = primary_fn (view c.args.t.now) (lower (view c.args.t.now) c.args.levels) c.args.p c.args.errors.now c.args.nodes.now _ _ n c.in-32.is in
    rw (h) (rw c.at_token-in-32.ensures at c.fn_expr.ensures)

pub primary-returns-in-42 : goal.primary-returns-in-42
unfolding run
primary-returns-in-42 t c =
    let n = peeked (view c.args.t.now) c.args.p.current _ c.peek-coming.ensures in
    let h = primary_this (view c.args.t.now) (lower (view c.args.t.now) c.args.levels) c.args.p c.args.errors.now c.args.nodes.now _ _ n c.in-42.is in
    rw (h, ← c.at_token-in-42.ensures, ← c.row-d.ensures) (rw (← c.make-in-42.ensures c.args.errors.now))

pub primary-returns-in-41 : goal.primary-returns-in-41
unfolding run
primary-returns-in-41 t c =
    let n = peeked (view c.args.t.now) c.args.p.current _ c.peek-coming.ensures in
    let h = primary_super (view c.args.t.now) (lower (view c.args.t.now) c.args.levels) c.args.p c.args.errors.now c.args.nodes.now _ _ n c.in-41.is in
    rw (h) (rw c.at_token-in-41.ensures at (c.super_expr.ensures (lower (view c.args.t.now) c.args.levels)))

pub primary-returns-in-Some-matches : goal.primary-returns-in-Some-matches
unfolding run
primary-returns-in-Some-matches t c =
    let n = peeked (view c.args.t.now) c.args.p.current _ c.peek-coming.ensures in
    let h = primary_else (view c.args.t.now) (lower (view c.args.t.now) c.args.levels) c.args.p c.args.errors.now c.args.nodes.now _ _ n _ (unplaced _ _ c.literal_place.ensures c.in_default.is) refl (λ e. omega (arith, e)) (λ e. omega (arith, e)) (λ e. omega (arith, e)) (λ e. omega (arith, e)) (λ e. omega (arith, e)) (λ e. omega (arith, e)) (λ e. omega (arith, e)) in
    rw (h, ← c.matches.ensures, c.in-Some-matches.is) (rw (← (rw c.looked-s.ensures at c.at_token-in-Some-matches.ensures), ← c.empty.ensures c.args.errors.now))

pub primary-returns-in_default-matches : goal.primary-returns-in_default-matches
unfolding run
primary-returns-in_default-matches t c =
    let n = peeked (view c.args.t.now) c.args.p.current _ c.peek-coming.ensures in
    let h = primary_else (view c.args.t.now) (lower (view c.args.t.now) c.args.levels) c.args.p c.args.errors.now c.args.nodes.now _ _ n _ (unplaced _ _ c.literal_place.ensures c.in_default.is) refl (λ e. omega (arith, e)) (λ e. omega (arith, e)) (λ e. omega (arith, e)) (λ e. omega (arith, e)) (λ e. omega (arith, e)) (λ e. omega (arith, e)) (λ e. omega (arith, e)) in
    rw (h, ← c.matches.ensures, c.in_default-matches.is) (rw (← (rw c.looked-s.ensures at c.looked.ensures), ← c.fatal.ensures c.args.nodes.now))

-- ---- ret
pub ret-returns-in-Some : goal.ret-returns-in-Some
unfolding run ret
ret-returns-in-Some t c = rw (← c.check.ensures, c.in-Some.is, ← c.at_token.ensures) (rw (← c.row.ensures, ← c.make.ensures c.args.errors.now))

pub ret-returns-in_err-q : goal.ret-returns-in_err-q
unfolding run ret
ret-returns-in_err-q t c = rw (given_up _ _ c.from_residual.ensures.1) (rw (← c.check.ensures, c.in_default.is, ← c.looked.ensures) (rw (← c.assignment.ensures, c.in_err-q.was)))

pub ret-returns : goal.ret-returns
unfolding run ret
ret-returns t c = rw (← c.check.ensures, c.in_default.is, ← c.looked.ensures) (rw (← c.assignment.ensures, c.in_ok-q.was, ← c.row-2.ensures) (rw (← c.make-2.ensures c.assignment.new.errors)))

-- ---- slice
pub slice-returns-in-Some : goal.slice-returns-in-Some
unfolding run
slice-returns-in-Some t c = rw (← c.matches.ensures, c.in-Some.is, ← c.at_token.ensures) (rw (← c.assignment-g.ensures, ← (rw (c.and.ensures, c.new-from.ensures) at (c.step.ensures (lower (view c.args.t.now) c.args.levels)))))

pub slice-returns-in-Some-check : goal.slice-returns-in-Some-check
unfolding run
slice-returns-in-Some-check t c = rw (← c.matches.ensures, c.in_default.is, ← c.check.ensures) (rw c.in-Some-check.is (rw (c.new-from.ensures, rw c.looked-u.ensures at c.at_token-in-Some-check.ensures) at (c.close_access.ensures (lower (view c.args.t.now) c.args.levels))))

pub slice-returns-then-is_at_end : goal.slice-returns-then-is_at_end
unfolding run
slice-returns-then-is_at_end t c = rw (← c.matches.ensures, c.in_default.is, ← c.check.ensures) (rw (c.in_default-check.is, ← (rw c.looked-u.ensures at c.looked-v.ensures), ← c.is_at_end.ensures) (rw (c.if-is_at_end.true, ← (rw (c.new-from.ensures) at (c.close_access-then-is_at_end.ensures (lower (view c.args.t.now) c.args.levels))))))

pub slice-returns-in_err-q : goal.slice-returns-in_err-q
unfolding run
slice-returns-in_err-q t c = rw (given_up _ _ c.from_residual.ensures.1) (rw (← c.matches.ensures, c.in_default.is, ← c.check.ensures) (rw (c.in_default-check.is, ← (rw c.looked-u.ensures at c.looked-v.ensures), ← c.is_at_end.ensures) (rw (c.if-is_at_end.false, ← c.assignment.ensures, c.in_err-q.was))))

pub slice-returns-in_default-matches : goal.slice-returns-in_default-matches
unfolding run
slice-returns-in_default-matches t c = rw (← c.matches.ensures, c.in_default.is, ← c.check.ensures) (rw (c.in_default-check.is, ← (rw c.looked-u.ensures at c.looked-v.ensures), ← c.is_at_end.ensures) (rw (c.if-is_at_end.false, ← c.assignment.ensures, c.in_ok-q.was) (rw (← c.matches-2.ensures, c.in_default-matches.is, ← c.looked.ensures) (rw (← (rw (c.and-in_default-matches.ensures, c.new-from.ensures) at (c.close_access-in_default-matches.ensures (lower (view c.args.t.now) c.args.levels))))))))

pub slice-returns-in-Some-check-2 : goal.slice-returns-in-Some-check-2
unfolding run
slice-returns-in-Some-check-2 t c = rw (← c.matches.ensures, c.in_default.is, ← c.check.ensures) (rw (c.in_default-check.is, ← (rw c.looked-u.ensures at c.looked-v.ensures), ← c.is_at_end.ensures) (rw (c.if-is_at_end.false, ← c.assignment.ensures, c.in_ok-q.was) (rw (← c.matches-2.ensures, c.in-Some-matches.is, ← c.check-2.ensures) (rw c.in-Some-check-2.is (rw (c.and-upto.ensures, c.new-from.ensures, rw c.at_token-s.ensures at c.at_token-in-Some-check-2.ensures) at (c.close_access-in-Some-check-2.ensures (lower (view c.args.t.now) c.args.levels)))))))

pub slice-returns-then-is_at_end-2 : goal.slice-returns-then-is_at_end-2
unfolding run
slice-returns-then-is_at_end-2 t c = rw (← c.matches.ensures, c.in_default.is, ← c.check.ensures) (rw (c.in_default-check.is, ← (rw c.looked-u.ensures at c.looked-v.ensures), ← c.is_at_end.ensures) (rw (c.if-is_at_end.false, ← c.assignment.ensures, c.in_ok-q.was) (rw (← c.matches-2.ensures, c.in-Some-matches.is, ← c.check-2.ensures) (rw (c.in_default-check-2.is, ← (rw c.at_token-s.ensures at c.looked-w.ensures), ← (rw c.at_token-s.ensures at c.is_at_end-2.ensures)) (rw (c.if-is_at_end-2.true, ← (rw (c.and-upto.ensures, c.new-from.ensures) at (c.close_access-then-is_at_end-2.ensures (lower (view c.args.t.now) c.args.levels)))))))))

pub slice-returns : goal.slice-returns
unfolding run
slice-returns t c = rw (← c.matches.ensures, c.in_default.is, ← c.check.ensures) (rw (c.in_default-check.is, ← (rw c.looked-u.ensures at c.looked-v.ensures), ← c.is_at_end.ensures) (rw (c.if-is_at_end.false, ← c.assignment.ensures, c.in_ok-q.was) (rw (← c.matches-2.ensures, c.in-Some-matches.is, ← c.check-2.ensures) (rw (c.in_default-check-2.is, ← (rw c.at_token-s.ensures at c.looked-w.ensures), ← (rw c.at_token-s.ensures at c.is_at_end-2.ensures)) (rw (c.if-is_at_end-2.false, ← c.assignment-g-2.ensures, ← (rw (c.and-upto.ensures, c.new-from.ensures) at (c.step-2.ensures (lower (view c.args.t.now) c.args.levels)))))))))

-- ---- stmt
pub stmt-returns-in-33 : goal.stmt-returns-in-33
unfolding run
stmt-returns-in-33 t c =
    let n = peeked (view c.args.t.now) c.args.p.current _ c.peek-coming.ensures in
    let h = statement_for (view c.args.t.now) (lower (view c.args.t.now) c.args.levels) c.args.p c.args.errors.now c.args.nodes.now _ _ n c.in-33.is in
    rw (h) (rw c.at_token.ensures at c.for_loop.ensures)

pub stmt-returns-in-48 : goal.stmt-returns-in-48
unfolding run
stmt-returns-in-48 t c =
    let n = peeked (view c.args.t.now) c.args.p.current _ c.peek-coming.ensures in
    let h = statement_try (view c.args.t.now) (lower (view c.args.t.now) c.args.levels) c.args.p c.args.errors.now c.args.nodes.now _ _ n c.in-48.is in
    rw (h) (rw c.at_token-in-48.ensures at c.try_catch.ensures)

pub stmt-returns-in-34 : goal.stmt-returns-in-34
unfolding run
stmt-returns-in-34 t c =
    let n = peeked (view c.args.t.now) c.args.p.current _ c.peek-coming.ensures in
    let h = statement_if (view c.args.t.now) (lower (view c.args.t.now) c.args.levels) c.args.p c.args.errors.now c.args.nodes.now _ _ n c.in-34.is in
    rw (h) (rw c.at_token-in-34.ensures at c.if_stmt.ensures)

pub stmt-returns-in-38 : goal.stmt-returns-in-38
unfolding run
stmt-returns-in-38 t c =
    let n = peeked (view c.args.t.now) c.args.p.current _ c.peek-coming.ensures in
    let h = statement_return (view c.args.t.now) (lower (view c.args.t.now) c.args.levels) c.args.p c.args.errors.now c.args.nodes.now _ _ n c.in-38.is in
    rw (h) (rw c.at_token-in-38.ensures at c.ret.ensures)

pub stmt-returns-in-39 : goal.stmt-returns-in-39
unfolding run brk cont
stmt-returns-in-39 t c =
    let n = peeked (view c.args.t.now) c.args.p.current _ c.peek-coming.ensures in
    let h = statement_break (view c.args.t.now) (lower (view c.args.t.now) c.args.levels) c.args.p c.args.errors.now c.args.nodes.now _ _ n c.in-39.is in
    rw (h) (rw c.at_token-in-39.ensures at (c.jump.ensures (lower (view c.args.t.now) c.args.levels) c.args.t.now.index.now))

pub stmt-returns-in-40 : goal.stmt-returns-in-40
unfolding run brk cont
stmt-returns-in-40 t c =
    let n = peeked (view c.args.t.now) c.args.p.current _ c.peek-coming.ensures in
    let h = statement_continue (view c.args.t.now) (lower (view c.args.t.now) c.args.levels) c.args.p c.args.errors.now c.args.nodes.now _ _ n c.in-40.is in
    rw (h) (rw c.at_token-in-40.ensures at (c.jump-in-40.ensures (lower (view c.args.t.now) c.args.levels) c.args.t.now.index.now))

pub stmt-returns-in-45 : goal.stmt-returns-in-45
unfolding run
stmt-returns-in-45 t c =
    let n = peeked (view c.args.t.now) c.args.p.current _ c.peek-coming.ensures in
    let h = statement_while (view c.args.t.now) (lower (view c.args.t.now) c.args.levels) c.args.p c.args.errors.now c.args.nodes.now _ _ n c.in-45.is in
    rw (h) (rw c.at_token-in-45.ensures at c.while_stmt.ensures)

pub stmt-returns-in_err-q-in-7 : goal.stmt-returns-in_err-q-in-7
unfolding run
stmt-returns-in_err-q-in-7 t c =
    let n = peeked (view c.args.t.now) c.args.p.current _ c.peek-coming.ensures in
    let h = statement_block (view c.args.t.now) (lower (view c.args.t.now) c.args.levels) c.args.p c.args.errors.now c.args.nodes.now _ _ n c.in-7.is in
    rw (given_up _ _ c.from_residual.ensures.1) (rw (h, ← c.at_token-in-7.ensures, ← c.block.ensures) (rw c.in_err-q-in-7.was))

pub stmt-returns-in_ok-q-in-7 : goal.stmt-returns-in_ok-q-in-7
unfolding run
stmt-returns-in_ok-q-in-7 t c =
    let n = peeked (view c.args.t.now) c.args.p.current _ c.peek-coming.ensures in
    let h = statement_block (view c.args.t.now) (lower (view c.args.t.now) c.args.levels) c.args.p c.args.errors.now c.args.nodes.now _ _ n c.in-7.is in
    rw (h, ← c.at_token-in-7.ensures, ← c.block.ensures) (rw (c.in_ok-q-in-7.was, ← c.row.ensures, ← c.make.ensures c.block.new.errors))

pub stmt-returns-in_default : goal.stmt-returns-in_default
unfolding run expression_stmt
stmt-returns-in_default t c =
    let n = peeked (view c.args.t.now) c.args.p.current _ c.peek-coming.ensures in
    let h = statement_else (view c.args.t.now) (lower (view c.args.t.now) c.args.levels) c.args.p c.args.errors.now c.args.nodes.now _ _ n (λ e. omega (arith, e)) (λ e. omega (arith, e)) (λ e. omega (arith, e)) (λ e. omega (arith, e)) (λ e. omega (arith, e)) (λ e. omega (arith, e)) (λ e. omega (arith, e)) (λ e. omega (arith, e)) in
    rw (h, ← c.looked.ensures, ← c.assignment-g.ensures) (rw (← c.expression_stmt.ensures c.assignment-g.new.errors))

-- ---- try_catch
pub try_catch-returns-in_err-q : goal.try_catch-returns-in_err-q
unfolding run try_catch
try_catch-returns-in_err-q t c = rw (given_up _ _ c.from_residual.ensures.1) (rw (← c.declaration.ensures, c.in_err-q.was))

pub try_catch-returns-in_err-q-2 : goal.try_catch-returns-in_err-q-2
unfolding run try_catch
try_catch-returns-in_err-q-2 t c = rw (given_up _ _ c.from_residual-in_err-q-2.ensures.1) (rw (← c.declaration.ensures, c.in_ok-q.was, ← c.consume.ensures c.declaration.new.nodes) (rw c.in_err-q-2.was))

pub try_catch-returns-in_err-q-3 : goal.try_catch-returns-in_err-q-3
unfolding run try_catch
try_catch-returns-in_err-q-3 t c = rw (given_up _ _ c.from_residual-in_err-q-3.ensures.1) (rw (← c.declaration.ensures, c.in_ok-q.was, ← c.consume.ensures c.declaration.new.nodes) (rw (c.in_ok-q-2.was, ← c.require.ensures c.declaration.new.nodes, c.in_err-q-3.was)))

pub try_catch-returns-in_err-q-4 : goal.try_catch-returns-in_err-q-4
unfolding run try_catch
try_catch-returns-in_err-q-4 t c = rw (given_up _ _ c.from_residual-in_err-q-4.ensures.1) (rw (← c.declaration.ensures, c.in_ok-q.was, ← c.consume.ensures c.declaration.new.nodes) (rw (c.in_ok-q-2.was, ← c.require.ensures c.declaration.new.nodes, c.in_ok-q-3.was) (rw (← c.declaration-2.ensures, c.in_err-q-4.was))))

pub try_catch-returns : goal.try_catch-returns
unfolding run try_catch
try_catch-returns t c = rw (← c.declaration.ensures, c.in_ok-q.was, ← c.consume.ensures c.declaration.new.nodes) (rw (c.in_ok-q-2.was, ← c.require.ensures c.declaration.new.nodes, c.in_ok-q-3.was) (rw (← c.declaration-2.ensures, c.in_ok-q-4.was, ← c.row.ensures) (rw (← c.make.ensures c.declaration-2.new.errors))))

-- ---- unary
pub unary-returns-then-levels-eq0 : goal.unary-returns-then-levels-eq0
unfolding run
unary-returns-then-levels-eq0 t c =
    let n = peeked (view c.args.t.now) c.args.p.current _ c.peek-coming.ensures in
    let h = unary_prefix (view c.args.t.now) (lower (view c.args.t.now) c.args.levels) c.args.p c.args.errors.now c.args.nodes.now _ _ n _ (placed _ _ _ c.prefix_place.ensures c.in-Some.is).0 (placed _ _ _ c.prefix_place.ensures c.in-Some.is).1 in
    let z = lower_zero (view c.args.t.now) c.args.levels Operand c.at_token-q.result c.args.errors.now c.args.nodes.now c.if-levels-eq0.true in
    rw (h, ← c.at_token-q.ensures, c.stopped.ensures) (rw (z))

pub unary-returns-in_err-s : goal.unary-returns-in_err-s
unfolding run body
unary-returns-in_err-s t c =
    let n = peeked (view c.args.t.now) c.args.p.current _ c.peek-coming.ensures in
    let h = unary_prefix (view c.args.t.now) (lower (view c.args.t.now) c.args.levels) c.args.p c.args.errors.now c.args.nodes.now _ _ n _ (placed _ _ _ c.prefix_place.ensures c.in-Some.is).0 (placed _ _ _ c.prefix_place.ensures c.in-Some.is).1 in
    let z = lower_step (view c.args.t.now) c.args.levels Operand c.at_token-q.result c.args.errors.now c.args.nodes.now c.if-levels-eq0.false in
    rw (given_up _ _ c.from_residual.ensures.1) (rw (h, ← c.at_token-q.ensures) (rw (z, ← c.unary.ensures, c.in_err-s.was)))

pub unary-returns-in-Some : goal.unary-returns-in-Some
unfolding run body
unary-returns-in-Some t c =
    let n = peeked (view c.args.t.now) c.args.p.current _ c.peek-coming.ensures in
    let h = unary_prefix (view c.args.t.now) (lower (view c.args.t.now) c.args.levels) c.args.p c.args.errors.now c.args.nodes.now _ _ n _ (placed _ _ _ c.prefix_place.ensures c.in-Some.is).0 (placed _ _ _ c.prefix_place.ensures c.in-Some.is).1 in
    let z = lower_step (view c.args.t.now) c.args.levels Operand c.at_token-q.result c.args.errors.now c.args.nodes.now c.if-levels-eq0.false in
    rw (h, ← c.at_token-q.ensures, z) (rw (← c.unary.ensures, c.in_ok-s.was, ← c.row.ensures) (rw (← c.make.ensures c.unary.new.errors)))

pub unary-returns : goal.unary-returns
unary-returns t c =
    let n = peeked (view c.args.t.now) c.args.p.current _ c.peek-coming.ensures in
    let h = unary_else (view c.args.t.now) (lower (view c.args.t.now) c.args.levels) c.args.p c.args.errors.now c.args.nodes.now _ _ n _ (unplaced _ _ c.prefix_place.ensures c.in_default.is) refl in
    rw (h, ← c.looked.ensures, ← c.call.ensures)

-- ---- upto
pub upto-returns-in-Some : goal.upto-returns-in-Some
unfolding run
upto-returns-in-Some t c = rw (← c.matches.ensures, c.in-Some.is, ← c.at_token.ensures) (rw (← c.assignment-g.ensures, ← (rw (c.and.ensures, c.new-from.ensures) at (c.step.ensures (lower (view c.args.t.now) c.args.levels)))))

pub upto-returns-in_err-q : goal.upto-returns-in_err-q
unfolding run
upto-returns-in_err-q t c = rw (given_up _ _ c.from_residual.ensures.1) (rw (← c.matches.ensures, c.in_default.is, ← c.looked.ensures) (rw (← c.assignment.ensures, c.in_err-q.was)))

pub upto-returns-in-Some-matches : goal.upto-returns-in-Some-matches
unfolding run
upto-returns-in-Some-matches t c = rw (← c.matches.ensures, c.in_default.is, ← c.looked.ensures) (rw (← c.assignment.ensures, c.in_ok-q.was, ← c.matches-2.ensures) (rw (c.in-Some-matches.is, ← c.at_token-in-Some-matches.ensures, ← c.assignment-g-in-Some-matches.ensures) (rw (← (rw (c.and-in-Some-matches.ensures, c.new-from.ensures) at (c.step-in-Some-matches.ensures (lower (view c.args.t.now) c.args.levels)))))))

pub upto-returns : goal.upto-returns
unfolding run
upto-returns t c = rw (← c.matches.ensures, c.in_default.is, ← c.looked.ensures) (rw (← c.assignment.ensures, c.in_ok-q.was, ← c.matches-2.ensures) (rw (c.in_default-matches.is, ← c.looked-2.ensures, ← (rw (c.and-2.ensures, c.new-from.ensures) at (c.close_access.ensures (lower (view c.args.t.now) c.args.levels))))))

-- ---- while_stmt
pub while_stmt-returns-in_err-q : goal.while_stmt-returns-in_err-q
unfolding run while_stmt
while_stmt-returns-in_err-q t c = rw (given_up _ _ c.from_residual.ensures.1) (rw (← c.enter_loop.ensures, ← c.assignment.ensures, c.in_err-q.was))

pub while_stmt-returns-in_err-q-2 : goal.while_stmt-returns-in_err-q-2
unfolding run while_stmt
while_stmt-returns-in_err-q-2 t c = rw (given_up _ _ c.from_residual-in_err-q-2.ensures.1) (rw (← c.enter_loop.ensures, ← c.assignment.ensures, c.in_ok-q.was) (rw (← c.declaration.ensures, c.in_err-q-2.was)))

pub while_stmt-returns : goal.while_stmt-returns
unfolding run while_stmt
while_stmt-returns t c = rw (← c.enter_loop.ensures, ← c.assignment.ensures, c.in_ok-q.was) (rw (← c.declaration.ensures, c.in_ok-q-2.was, ← c.leave_loop.ensures) (rw (← c.row.ensures, ← c.make.ensures c.declaration.new.errors)))
