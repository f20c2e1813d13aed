use Rattle.operators.proofs.Operators.{takes, over}
use Rattle.operators.proofs.turn_at.Goals as goal

pub returns-then-closed-behind : goal.returns-then-closed-behind
returns-then-closed-behind c =
    takes _ _ _ _ _ c.peek-coming.ensures _ _ _ c.tests_of-open.ensures c.tests_of-closed.ensures c.behind_of-behind.ensures _ _ c.rank_of-rank.ensures c.saturating_sub.ensures c.if-closed-behind.true

pub returns : goal.returns
returns c =
    over _ _ _ _ _ c.peek-coming.ensures _ _ _ c.tests_of-open.ensures c.tests_of-closed.ensures c.behind_of-behind.ensures _ c.saturating_sub-2.ensures c.if-closed-behind.false
