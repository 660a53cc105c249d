-- Each planner's number, and for the quick cover its limit.
use mathlib.Core.Path.{ap, ◌∙◌}
use borrow.Author.Tests.{le-leb, lt-leb}
use Rattle.room.specs.Room.{sufficing}
use Rattle.room.proofs.room_of.Goals as goal

pub returns-then-longest-gt-MOST_QUICK : goal.returns-then-longest-gt-MOST_QUICK
returns-then-longest-gt-MOST_QUICK c = let a = c.args in rw (c.in-Quick.is, lt-leb a.longest 1024 c.if-longest-gt-MOST_QUICK.true)

pub returns-in-Exact : goal.returns-in-Exact
returns-in-Exact c = rw c.in-Exact.is (c.suffice.ensures ∙ ap sufficing c.exact_records.ensures)

pub returns-in-Doubled : goal.returns-in-Doubled
returns-in-Doubled c = rw c.in-Doubled.is (c.suffice-in-Doubled.ensures ∙ ap sufficing c.doubled_records.ensures)

pub returns-else-longest-gt-MOST_QUICK : goal.returns-else-longest-gt-MOST_QUICK
returns-else-longest-gt-MOST_QUICK c =
    let a = c.args in
    rw (c.in-Quick.is, le-leb a.longest 1024 c.if-longest-gt-MOST_QUICK.false)
    (c.suffice-in-Quick.ensures ∙ ap sufficing c.quick_records.ensures)
