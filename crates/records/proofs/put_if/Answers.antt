-- What is not to be written changes nothing.
use mathlib.Core.Path.{refl, sym, ◌∙◌}
use mathlib.Core.Bool.{true≢false}
use native.Mathlib.Omega.{arith}
use Rattle.records.proofs.put_if.Goals as goal

pub put_record-requires : goal.put_record-requires
put_record-requires c = (c.requires.0, c.requires.1 c.if-writes.true)

pub overflow_add-result-then-writes : goal.overflow_add-result-then-writes
overflow_add-result-then-writes c = omega (arith, c.requires.1 c.if-writes.true, c.well_formed.1.0.0)

pub returns-then-writes : goal.returns-then-writes
returns-then-writes c = record { written = λ _. (c.put_record.ensures, refl); same = λ e. absurd (true≢false (sym c.if-writes.true ∙ e)) }

pub returns : goal.returns
returns c = record { written = λ e. absurd (true≢false (sym e ∙ c.if-writes.false)); same = λ _. (refl, refl) }
