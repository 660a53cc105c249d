-- The pairs with slots are the plan's tasks; where they fit, the labels of the outputs keep the closed shop, and all moments are run.
use mathlib.Core.Path.{refl, ◌∙◌}
use native.Mathlib.Omega.{arith}
use Rattle.shop.proofs.Columns.{count-is, closed-held, gives-room, gives-done}
use Rattle.shop.proofs.plan_checked.Goals as goal

pub returns-then-tasks-need : goal.returns-then-tasks-need
returns-then-tasks-need c =
    let a = c.args in
    gives-room a.n a.d a.cells.now a.tasks.now _ (c.count_tasks-need.ensures ∙ count-is a.n a.d a.cells.now c.requires.0 c.requires.1) c.if-tasks-need.true

pub run-begun-requires : goal.run-begun-requires
run-begun-requires c =
    let a = c.args in
    let p = c.requires in
    let w = c.label_columns.ensures in
    record {
      few = p.0;
      sized = omega (arith, p.1);
      lines = p.2;
      switching = p.3;
      waiting-size = w.0;
      ins-size = refl;
      outs-size = refl;
      held = closed-held a.n a.cells.now _ w.1;
      room = omega (arith, c.if-tasks-need.false, c.count_tasks-need.ensures ∙ count-is a.n a.d a.cells.now c.requires.0 c.requires.1);
    }

pub returns : goal.returns
returns c =
    let a = c.args in
    rw c.from.ensures (gives-done a.n a.d a.cells.now a.tasks.now _ _ (omega (arith, c.if-tasks-need.false, c.count_tasks-need.ensures ∙ count-is a.n a.d a.cells.now c.requires.0 c.requires.1)) c.run-begun.ensures)
