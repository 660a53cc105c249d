-- Each return is the case of the definition whose tests led there.
use native.Mathlib.Omega.{arith}
use Rattle.switch.proofs.Check.{no-ports, many-ports}
use Rattle.plans.proofs.Read.{opening-ports, opening-torn, opening-many, opening-done}
use Rattle.plans.proofs.open.Goals as goal

pub returns-then-n-eq0 : goal.returns-then-n-eq0
returns-then-n-eq0 c = opening-ports _ _ _ (no-ports _ _ c.if-n-eq0.true)

pub returns-then-e-n : goal.returns-then-e-n
returns-then-e-n c = opening-ports _ _ _ (many-ports _ _ c.if-e-n.true)

pub returns-then-plan-size-ne0 : goal.returns-then-plan-size-ne0
returns-then-plan-size-ne0 c = opening-torn c.args.e _ _ (omega arith) c.if-e-n.false c.if-plan-size-ne0.true

pub returns-then-e-records : goal.returns-then-e-records
returns-then-e-records c = opening-many _ _ _ (omega arith) c.if-e-n.false c.if-plan-size-ne0.false c.if-e-records.true

pub returns : goal.returns
returns c = rw c.counted.ensures (opening-done c.args.e _ _ (omega arith) c.if-e-n.false c.if-plan-size-ne0.false c.if-e-records.false)
