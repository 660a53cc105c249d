-- Each return is the case of the definition whose tests led there.
use Rattle.std.specs.Prelude.{Ok}
use mathlib.Core.Path.{◌≡◌, sym, ap, ◌∙◌}
use Prim.Native.Nat.{ℕ, ◌≤◌}
use native.Mathlib.Omega.{arith}
use Rattle.std.proofs.Common.{rules}
use Rattle.switch.specs.declared.Counts.{Counts}
use Rattle.switch.specs.Outcome.{Outcome}
use Rattle.switch.proofs.Check.{no-ports, many-ports, some-ports}
use Rattle.records.specs.Bytes.{whole}
use Rattle.plans.proofs.Plans.{checked}
use Rattle.carry.specs.Carry.{after_plan, after_records}
use Rattle.carry.proofs.Carry.{fault-ports, fault-asked, fault-wished, fault-room, in-plan, fault-judged}
use Rattle.carry.proofs.fault_of.Goals as goal

pub returns-then-n-eq0 : goal.returns-then-n-eq0
returns-then-n-eq0 c = rw c.about.ensures (fault-ports _ _ _ _ _ _ _ (no-ports _ _ c.if-n-eq0.true))

pub returns-then-e-n : goal.returns-then-e-n
returns-then-e-n c = rw c.about-then-e-n.ensures (fault-ports _ _ _ _ _ _ _ (many-ports _ _ c.if-e-n.true))

pub returns-then-asked-square : goal.returns-then-asked-square
returns-then-asked-square c =
    rw c.about-then-asked-square.ensures (fault-asked _ _ _ _ _ _ _ (some-ports _ _ (omega arith) c.if-e-n.false) c.if-asked-square.true)

pub returns-then-wished-square : goal.returns-then-wished-square
returns-then-wished-square c =
    rw c.about-then-wished-square.ensures
    (fault-wished _ _ _ _ _ _ _ (some-ports _ _ (omega arith) c.if-e-n.false) c.if-asked-square.false c.if-wished-square.true)

pub returns-then-room-square : goal.returns-then-room-square
returns-then-room-square c =
    rw c.about-then-room-square.ensures
    (fault-room _ _ _ _ _ _ _ (some-ports _ _ (omega arith) c.if-e-n.false) c.if-asked-square.false c.if-wished-square.false c.if-room-square.true)

pub returns-in_err-counts : goal.returns-in_err-counts
returns-in_err-counts c =
    let a = c.args in
    let judged = after_records a.n a.asked.now (whole a.e.width a.plan.now) a.first a.wished.now in
    let e : c.from_residual.result ≡ after_plan c.check_plan.result judged = search rules in
    let ports = some-ports _ _ (omega (arith, c.if-n-eq0.false)) c.if-e-n.false in
    e ∙ ap (λ (o : Outcome). after_plan o judged) c.check_plan.ensures
    ∙ in-plan _ _ _ _ _ _ _ ports c.if-asked-square.false c.if-wished-square.false c.if-room-square.false

pub fault_after-requires : goal.fault_after-requires
fault_after-requires c =
    let few : c.args.n ≤ 128 = omega (arith, c.if-e-n.false, c.requires.ports, c.requires.width) in
    (record { few = few; room = omega (arith, c.if-asked-square.false) }, record { few = few; room = omega (arith, c.if-wished-square.false) })

pub returns : goal.returns
returns c =
    let e : c.check_plan.result ≡ Ok c.in_ok-counts.counts = search rules in
    let ports = some-ports _ _ (omega (arith, c.if-n-eq0.false)) c.if-e-n.false in
    let o = sym e ∙ c.check_plan.ensures in
    let m = ap (λ (x : Counts). x.records) (checked _ _ _ c.requires _ o).counts in
    c.fault_after.ensures
    ∙ ap (λ (m : ℕ). after_records c.args.n c.args.asked.now m c.args.first c.args.wished.now) m
    ∙ fault-judged _ _ _ _ _ _ _ ports c.if-asked-square.false c.if-wished-square.false c.if-room-square.false o
