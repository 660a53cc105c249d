-- An idle input's field is a dash, and any other output's its number.
use mathlib.Core.Path.{ap}
use native.Mathlib.Omega.{arith}
use lib.ListN.{length}
use Rattle.text.proofs.Text.{idle-field, joined-field}
use Rattle.text.proofs.put_output.Goals as goal

pub put_bytes-requires : goal.put_bytes-requires
put_bytes-requires c = omega (arith, ap length (idle-field _ c.if-output-eq-IDLE.true))

pub returns-then-output-eq-IDLE : goal.returns-then-output-eq-IDLE
returns-then-output-eq-IDLE c = rw (idle-field _ c.if-output-eq-IDLE.true) c.put_bytes.ensures

pub put_number-requires : goal.put_number-requires
put_number-requires c = rw c.from.ensures (omega (arith, ap length (joined-field _ c.if-output-eq-IDLE.false)))

pub returns : goal.returns
returns c = rw (joined-field _ c.if-output-eq-IDLE.false, ← c.from.ensures) c.put_number.ensures
