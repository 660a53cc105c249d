-- The first edition keeps to the bounds of every edition, and new arrays have room for 64 ports, with 64 records for the first part.
use mathlib.Core.Path.{sym, ap}
use native.Mathlib.Omega.{arith}
use Rattle.switch.specs.declared.Edition.{Edition}
use Rattle.switch.proofs.Editions.{first-bounded}
use Rattle.switch.proofs.Result.{gives_as}
use Rattle.grating.specs.Grating.{grating_planned}
use Rattle.grating.proofs.grating_doubled.Goals as goal

pub plan_for-requires : goal.plan_for-requires
plan_for-requires c = rw c.first_edition.ensures
    (record { bounded = first-bounded; divided = omega arith; held = omega arith; parted = omega arith; few = (omega arith, omega arith, omega arith) })

pub returns : goal.returns
returns c =
    let a = c.args in
    let q = c.first_edition.ensures in
    gives_as (ap (λ (e : Edition). grating_planned e a.n a.cells.now a.plan.now) (sym q)) c.plan_for.ensures
