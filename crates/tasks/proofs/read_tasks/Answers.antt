-- Each return is the case of the definition whose tests led there; the whole records stand inside the bytes.
use native.Mathlib.Omega.{arith}
use Rattle.std.proofs.Common.{rules}
use Rattle.switch.proofs.Check.{no-ports, many-ports}
use Rattle.tasks.proofs.Read.{reading-ports, reading-torn, reading-faulty, reading-done}
use Rattle.tasks.proofs.read_tasks.Goals.{then-n-eq0-via-then-n-eq0, then-n-eq0-via-else-n-eq0+then-n-gt-PORTS}
use Rattle.tasks.proofs.read_tasks.Goals as goal

pub returns-then-n-eq0 : goal.returns-then-n-eq0
returns-then-n-eq0 c =
    elim c.then-n-eq0.branch [ then-n-eq0-via-then-n-eq0 w ↦ reading-ports _ _ (no-ports _ _ w.if-n-eq0.true) | then-n-eq0-via-else-n-eq0+then-n-gt-PORTS w ↦ reading-ports _ _ (many-ports _ _ w.if-n-gt-PORTS.true) ]

pub returns-then-tasks-ne0 : goal.returns-then-tasks-ne0
returns-then-tasks-ne0 c = reading-torn _ _ (omega arith) c.if-n-gt-PORTS.false c.if-tasks-ne0.true

pub returns-in_err-latest : goal.returns-in_err-latest
returns-in_err-latest c =
    let e = reading-faulty _ _ (omega arith) c.if-n-gt-PORTS.false c.if-tasks-ne0.false c.in_err-latest.field-0.0 c.in_err-latest.ensures in
    let f = c.from_residual.ensures in
    search rules

pub returns : goal.returns
returns c = rw c.from.ensures (reading-done _ _ (omega arith) c.if-n-gt-PORTS.false c.if-tasks-ne0.false c.in_ok-latest.latest c.in_ok-latest.ensures)
