-- Each return is the case of the definition whose tests led there; the record is laid only where none of them fails.
use mathlib.Core.Path.{refl, sym, ◌∙◌}
use native.Mathlib.Omega.{arith}
use Rattle.switch.proofs.Check.{no-ports, many-ports}
use Rattle.switch.proofs.Result.{gives}
use Rattle.records.proofs.Write.{encode-idle, asked-fine, write-ports, write-room, write-malformed, write_done}
use Rattle.records.proofs.write_for.Goals as goal

pub returns-then-n-eq0 : goal.returns-then-n-eq0
returns-then-n-eq0 c =
    let a = c.args in
    gives (sym (write-ports a.e a.hold a.n a.outputs.now a.plan.now (no-ports _ _ c.if-n-eq0.true))) refl refl

pub returns-then-e-n : goal.returns-then-e-n
returns-then-e-n c =
    let a = c.args in
    gives (sym (write-ports a.e a.hold a.n a.outputs.now a.plan.now (many-ports _ _ c.if-e-n.true))) refl refl

pub returns-then-plan-e : goal.returns-then-plan-e
returns-then-plan-e c =
    let a = c.args in
    gives (sym (write-room a.e a.hold a.n a.outputs.now a.plan.now (omega arith) c.if-e-n.false c.if-plan-e.true)) refl refl

pub returns-then-hold-eq0 : goal.returns-then-hold-eq0
returns-then-hold-eq0 c =
    let a = c.args in
    let z = encode-idle _ _ _ _ _ c.if-hold-eq0.true in
    gives (sym (write-malformed a.e a.hold a.n a.outputs.now a.plan.now (omega arith) c.if-e-n.false c.if-plan-e.false z)) refl refl

pub returns-then-not-outputs_fine : goal.returns-then-not-outputs_fine
returns-then-not-outputs_fine c =
    let a = c.args in
    let w = asked-fine a.e a.hold a.n a.outputs.now a.plan.now c.if-hold-eq0.false c.requires.1 c.outputs_fine.ensures ∙ c.if-not-outputs_fine.true in
    gives (sym (write-malformed a.e a.hold a.n a.outputs.now a.plan.now (omega arith) c.if-e-n.false c.if-plan-e.false w)) refl refl

pub returns : goal.returns
returns c =
    let a = c.args in
    let w = asked-fine a.e a.hold a.n a.outputs.now a.plan.now c.if-hold-eq0.false c.requires.1 c.outputs_fine.ensures ∙ c.if-not-outputs_fine.false in
    rw c.from.ensures (gives (sym (write_done a.e a.hold a.n a.outputs.now a.plan.now (omega arith) c.if-e-n.false c.if-plan-e.false w)) refl c.put_record.ensures)
