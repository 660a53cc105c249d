-- Each turn takes one record's hold off what is left of the slot.
use mathlib.Core.Path.{◌≡◌, ap, ◌∙◌}
use Prim.Native.Nat.{ℕ, ◌+◌, ◌-◌}
use native.Mathlib.Omega.{arith}
use lib.ListN.{length}
use Rattle.records.specs.Record.{hold}
use Rattle.records.specs.Bytes.{whole, plan_from}
use Rattle.records.proofs.Part.{whole-fits, record-fits, record-size}
use Rattle.lookup.specs.Force.{in_force}
use Rattle.lookup.proofs.Force.{pass-here, pass-more, pass-end}
use Rattle.lookup.proofs.record_in_force.Goals as goal

pub loop-k-init : goal.loop-k-init
loop-k-init c =
    let a = c.args in
    let e : whole a.width a.plan.now ≡ a.records - 0 = omega arith in
    omega (arith, ap (λ (m : ℕ). in_force (plan_from a.width a.plan.now 0 m) a.slot) e)

pub hold_of-requires : goal.hold_of-requires
hold_of-requires c =
    let a = c.args in
    let k = c.loop-k.k in
    let fits = record-fits a.width a.plan.now k _ (omega arith) (whole-fits a.width a.plan.now) in
    omega (arith, ap length c.record_at.ensures, record-size a.width a.plan.now k fits)

pub returns-then-left-hold : goal.returns-then-left-hold
returns-then-left-hold c =
    let a = c.args in
    let l = c.loop-k in
    let h = c.from-hold.ensures ∙ c.hold_of.ensures ∙ ap hold c.record_at.ensures in
    omega (arith, l.invariant, pass-here a.width a.plan.now a.records l.k l.left (omega arith) (omega (arith, h)))

pub loop-k-preserved : goal.loop-k-preserved
loop-k-preserved c =
    let a = c.args in
    let l = c.loop-k in
    let h = c.from-hold.ensures ∙ c.hold_of.ensures ∙ ap hold c.record_at.ensures in
    let more = pass-more a.width a.plan.now a.records l.k l.left (omega arith) (omega (arith, h)) in
    let rest = ap (λ (x : ℕ). in_force (plan_from a.width a.plan.now (l.k + 1) (a.records - (l.k + 1))) (l.left - x)) h in
    omega (arith, l.invariant, more, rest)

pub returns : goal.returns
returns c =
    let a = c.args in
    let l = c.loop-k in
    omega (arith, l.invariant, pass-end a.width a.plan.now a.records l.k l.left (omega arith))
