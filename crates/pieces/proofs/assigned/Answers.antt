use Rattle.parser.specs.Programs.{run}
use Rattle.pieces.proofs.assigned.Goals as goal

pub returns-in-Name : goal.returns-in-Name
unfolding run
returns-in-Name c = λ low I. rw c.in-Name.is (rw (← c.row.ensures, ← c.make.ensures c.args.errors.now))

pub returns-in-Property : goal.returns-in-Property
unfolding run
returns-in-Property c = λ low I. rw c.in-Property.is (rw (← c.row-in-Property.ensures, ← c.make-in-Property.ensures c.args.errors.now))

pub returns-in-Other : goal.returns-in-Other
unfolding run
returns-in-Other c = λ low I. rw c.in-Other.is (rw (← c.before-in-Other.ensures, ← c.fatal.ensures c.args.nodes.now))

pub returns-in-Empty : goal.returns-in-Empty
unfolding run
returns-in-Empty c = λ low I. rw c.in-Empty.is (rw (← c.before-in-Empty.ensures, ← c.fatal-in-Empty.ensures c.args.nodes.now))
