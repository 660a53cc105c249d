-- Input by input the count of its wavelength grows by 1, and an idle input has none.
use mathlib.Core.Path.{sym, ◌∙◌}
use native.Mathlib.Omega.{arith}
use Rattle.records.proofs.Meaning.{output-byte}
use Rattle.wavelengths.proofs.Shared.{counted_none, counted-all, counted-idle, place-small, counted-joined}
use Rattle.wavelengths.proofs.count_inputs.Goals as goal
use Rattle.wavelengths.proofs.count_inputs.Goals.{then-j-n, else-j-n}

pub loop-i-init : goal.loop-i-init
loop-i-init c = counted_none _ _ _ c.requires.3

pub overflow_add-shares : goal.overflow_add-shares
overflow_add-shares c =
    let l = c.loop-i in
    let o = output-byte c.args.rec.now l.i (omega (arith, c.requires.2)) ∙ sym c.from-j.ensures in
    omega (arith, c.requires.1, place-small _ _ _ l.i l.invariant _ _ o c.if-j-n.true c.wavelength_of-w.ensures.0 c.wavelength_of-w.ensures.1)

pub loop-i-preserved : goal.loop-i-preserved
loop-i-preserved c =
    let l = c.loop-i in
    let o = output-byte c.args.rec.now l.i (omega (arith, c.requires.2)) ∙ sym c.from-j.ensures in
    elim c.if-j-n.branch [
      | then-j-n w ↦ counted-joined _ _ _ l.i l.invariant _ _ o w.if-j-n.true w.wavelength_of-w.ensures.0 w.wavelength_of-w.ensures.1 _ w.shares-is
      | else-j-n w ↦ rw w.shares-is (counted-idle _ _ _ l.i l.invariant (omega (arith, o, w.if-j-n.false)))
    ]

pub returns : goal.returns
returns c = counted-all _ _ _ c.loop-i.i (omega (arith, c.loop-i-test.false)) c.loop-i.invariant
