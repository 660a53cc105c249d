-- The labels are in step with the cells, so the setting is the rule's; its hold is the rule's, and so is what is left.
use mathlib.Core.Path.{refl, sym, ◌∙◌}
use native.Mathlib.Omega.{arith}
use Rattle.quiet.proofs.Taking.{labels-ask, step-enough, none_left, took}
use Rattle.quiet.proofs.next_record.Goals as goal

pub choose-requires : goal.choose-requires
choose-requires c =
    let a = c.args in
    (c.requires.0.limit, labels-ask a.n a.limit a.work.now a.rows.now c.requires.0, omega (arith, c.requires.1, c.requires.0.few))

pub hold_of-requires : goal.hold_of-requires
hold_of-requires c = (c.requires.0.copy.sized, omega (arith, c.requires.1, c.requires.0.few, c.choose.auto.out))

pub returns-in_err-hold : goal.returns-in_err-hold
returns-in_err-hold c =
    let a = c.args in
    rw c.from_residual.ensures (record { copy = c.requires.0.copy; none = none_left a.n a.limit a.work.now a.rows.now c.requires.0 c.choose.new.out (c.choose.auto.out ∙ c.requires.1) c.choose.ensures 0 (sym c.in_err-hold.ensures) refl; fits = λ most f. f })

pub subtract-requires : goal.subtract-requires
subtract-requires c =
    let a = c.args in (
      c.requires.0.copy,
      omega (arith, c.requires.1, c.requires.0.few, c.choose.auto.out),
      step-enough a.n a.limit a.work.now a.rows.now c.requires.0 c.choose.new.out (c.choose.auto.out ∙ c.requires.1) c.choose.ensures _ c.in_ok-hold.ensures.0,
    )

pub returns : goal.returns
returns c =
    let a = c.args in
    took a.n a.limit a.work.now a.rows.now c.requires.0 c.choose.new.out (c.choose.auto.out ∙ c.requires.1) c.choose.ensures _ c.in_ok-hold.ensures.0 c.in_ok-hold.ensures.1
    _ _ c.subtract.ensures
