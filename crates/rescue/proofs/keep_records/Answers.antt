-- All records before k have been gone over.
use mathlib.Core.Path.{◌≡◌, refl, ◌∙◌}
use native.Mathlib.Omega.{arith}
use Rattle.rescue.proofs.Keep.{keeping_none}
use Rattle.rescue.proofs.keep_records.Goals as goal

pub loop-k-init : goal.loop-k-init
loop-k-init c = (keeping_none _ _ _ _ _ c.requires.1, omega arith, refl)

pub keep_record-kept-requires : goal.keep_record-kept-requires
keep_record-kept-requires c = (c.requires.0, omega arith, c.loop-k.invariant.0)

pub loop-k-preserved : goal.loop-k-preserved
loop-k-preserved c = (c.keep_record-kept.ensures.0, omega arith, c.keep_record-kept.ensures.1 ∙ c.loop-k.invariant.2)

pub returns : goal.returns
returns c =
    let e : c.loop-k.k ≡ c.args.records = omega (arith, c.loop-k.invariant.1) in
    rw e at c.loop-k.invariant.0
