-- Each return is the case of the definition whose tests led there; a standby plan that has a record has a slot.
use mathlib.Core.Path.{ap, ap₂, ◌∙◌}
use Prim.Native.Nat.{ℕ, ◌-◌, ◌%◌}
use native.Mathlib.Omega.{arith}
use Rattle.records.specs.Bytes.{whole, plan_of}
use Rattle.plans.proofs.Plans.{length-plan}
use Rattle.lookup.specs.Force.{in_force}
use Rattle.lookup.specs.Lookup.{in_tonight, in_standby}
use Rattle.lookup.proofs.Lookup.{spot-tonight, spot-nothing, spot-standby}
use Rattle.lookup.proofs.spot_in.Goals as goal

pub returns-then-slot-first : goal.returns-then-slot-first
returns-then-slot-first c =
    let p = c.requires in
    ap in_tonight c.record_in_force-k.ensures ∙ spot-tonight _ _ _ (omega (arith, c.if-slot-first.true, p.1.slots))

pub returns-then-second-eq0 : goal.returns-then-second-eq0
returns-then-second-eq0 c =
    let a = c.args in
    let p = c.requires in
    rw c.about.ensures (spot-nothing _ _ _ (omega (arith, c.if-slot-first.false, p.1.slots))
    (omega (arith, c.if-second-eq0.true, p.2.records, length-plan a.width a.standby.now 0 (whole a.width a.standby.now))))

pub nonzero_rem-at : goal.nonzero_rem-at
nonzero_rem-at c =
    let p = c.requires.2 in
    omega (arith, p.slots, p.held (omega (arith, c.if-second-eq0.false, p.records)))

pub returns : goal.returns
returns c =
    let a = c.args in
    let p = c.requires in
    let size = length-plan a.width a.standby.now 0 (whole a.width a.standby.now) in
    let at = ap₂ {C = ℕ} (λ (x y : ℕ). in_force (plan_of a.width a.standby.now) ((a.slot - x) % y)) p.1.slots p.2.slots in
    ap in_standby (c.record_in_force-k-2.ensures ∙ at)
    ∙ spot-standby _ _ _ (omega (arith, c.if-slot-first.false, p.1.slots))
    (λ e. c.if-second-eq0.false (omega (arith, e, p.2.records, size)))
