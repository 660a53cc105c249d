-- Nothing asked for is the empty plan; else there is a u of at least 1 to divide by, and the exact call on the quotients makes the first part.
use Rattle.std.specs.Prelude.{Ok}
use mathlib.Core.Path.{sym, ap, ◌∙◌}
use mathlib.Core.List.{List}
use lib.ListN.{length}
use Rattle.switch.specs.Answer.{counts_of}
use Rattle.switch.specs.Plan.{Record}
use Rattle.rules.proofs.Peels.{length-tab}
use Rattle.switch.proofs.Result.{gives_as}
use Rattle.planner.specs.Planned.{room_for}
use Rattle.turns.proofs.Divided.{fine-asks, divided, asked, wide, holding}
use Rattle.grating.proofs.Divided.{unrefused, first_part, whole-plan}
use Rattle.grating.proofs.Answer.{empty-answer, fine-answer}
use Rattle.grating.proofs.plan_fine.Goals as goal

pub returns-then-longest-eq0 : goal.returns-then-longest-eq0
returns-then-longest-eq0 g c =
    let e = empty-answer c.args.e c.args.n c.args.cells.now c.args.plan.now (c.requires.0 ∙ ap Ok c.if-longest-eq0.true) in
    record { outcome = c.done.ensures ∙ e.outcome; bytes = e.bytes }

pub split-unit-requires : goal.split-unit-requires
split-unit-requires g c =
    (fine-asks {E = c.args.e} c.requires.0 c.requires.1 c.if-longest-eq0.false, c.requires.2, c.requires.4)

pub plan_for-requires : goal.plan_for-requires
plan_for-requires g c =
    let p = c.requires in
    (p.1, p.3.0, p.3.1)

pub returns-in_err-made : goal.returns-in_err-made
returns-in_err-made g c =
    let v = divided {E = c.args.e} c.requires.0 c.requires.1 c.if-longest-eq0.false c.split-unit.ensures in
    absurd (unrefused v c.args.first.now c.requires.5 c.plan_for.ensures.outcome c.in_err-made.was)

pub lay_parts-requires : goal.lay_parts-requires
lay_parts-requires g c =
    let h = c.split-unit.ensures in
    let v = divided {E = c.args.e} c.requires.0 c.requires.1 c.if-longest-eq0.false h in
    let n = ap counts_of (sym c.in_ok-made.was) in (
      record { some = (asked v).some; few = (holding v).few; size = ap length h.holds-are ∙ length-tab _ _ _ },
      wide v,
      c.requires.1.width,
      first_part v c.args.first.now c.requires.5 c.plan_for.ensures.outcome c.plan_for.ensures.bytes n c.plan_for.auto.plan,
    )

pub returns : goal.returns
returns g c =
    let a = c.args in
    let h = c.split-unit.ensures in
    let v = divided {E = a.e} c.requires.0 c.requires.1 c.if-longest-eq0.false h in
    let x = c.plan_for.ensures in
    let n = ap counts_of (sym c.in_ok-made.was) in
    let p = whole-plan v a.first.now c.requires.5 x.outcome x.bytes n _ h.holds-are in
    let e = ap (λ (q : List Record). room_for a.e a.n 0 0 q a.plan.now) p ∙ fine-answer a.e a.n a.cells.now a.plan.now a.longest c.requires.0 in
    gives_as (sym e) c.lay_parts.ensures
