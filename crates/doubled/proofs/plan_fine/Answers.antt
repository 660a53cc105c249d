-- Nothing asked for is the empty plan; else there is a u of at least 1 to divide by, and the rotations' holds by the rule make its second part.
use Rattle.std.specs.Prelude.{Ok}
use mathlib.Core.Path.{ap, ◌∙◌, subst}
use lib.ListN.{length}
use Rattle.rules.proofs.Peels.{length-tab}
use Rattle.rules.specs.Doubled.{Doubled}
use Rattle.turns.specs.declared.Turning.TheVariants.{Forward}
use Rattle.turns.proofs.Divided.{fine-asks, divided, asked, wide, holding, rule-parts}
use Rattle.doubled.proofs.Promise.{either-rule}
use Rattle.doubled.proofs.Answer.{empty-answer}
use Rattle.doubled.proofs.plan_fine.Goals as goal

pub returns-then-longest-eq0 : goal.returns-then-longest-eq0
returns-then-longest-eq0 c = empty-answer c.args.rule c.args.e _ _ _ (c.requires.0 ∙ ap Ok c.if-longest-eq0.true)

pub split-unit-requires : goal.split-unit-requires
split-unit-requires c =
    let p = c.requires in
    (fine-asks {E = c.args.e} p.0 p.1 c.if-longest-eq0.false, p.2, p.3)

pub plan_parts-requires : goal.plan_parts-requires
plan_parts-requires c =
    let a = c.args in
    let h = c.split-unit.ensures in
    let v = divided {E = c.args.e} c.requires.0 c.requires.1 c.if-longest-eq0.false h in
    let k = either-rule a.rule a.e.width a.n (asked v).some (wide v) a.cells.now (holding v).room in (
      v,
      record { some = (asked v).some; few = (holding v).few; size = ap length h.holds-are ∙ length-tab _ _ _ },
      subst (Doubled a.n a.cells.now) (rule-parts v a.rule Forward _ h.holds-are) k,
    )

pub returns : goal.returns
returns c =
    let h = c.split-unit.ensures in
    let v = divided {E = c.args.e} c.requires.0 c.requires.1 c.if-longest-eq0.false h in
    rw (rule-parts v c.args.rule Forward _ h.holds-are) c.plan_parts.ensures
