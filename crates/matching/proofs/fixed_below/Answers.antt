-- The outputs of the inputs passed are marked, and no others.
use Prim.Native.Nat.{ℕ}
use mathlib.Core.Path.{subst}
use native.Mathlib.Nat.{le_antisymm}
use native.Mathlib.Omega.{arith}
use Rattle.sets.specs.Label.{Marked}
use Rattle.search.specs.Tables.{tried_of}
use Rattle.matching.specs.Chosen.{Fixed}
use Rattle.matching.proofs.Completing.{fixed-none, fixed_more}
use Rattle.matching.proofs.fixed_below.Goals as goal

pub loop-i-init : goal.loop-i-init
loop-i-init c = (omega arith, fixed-none _ _ c.none-fixed.ensures)

pub output_of-requires : goal.output_of-requires
output_of-requires c = omega (arith, c.requires.0)

pub mark-fixed-requires : goal.mark-fixed-requires
mark-fixed-requires c = omega (arith, c.requires.1 c.loop-i.i (omega arith), c.output_of.ensures)

pub loop-i-preserved : goal.loop-i-preserved
loop-i-preserved c =
    let l = c.loop-i in (
      omega arith,
      fixed_more c.args.pairs.now.out l.i (tried_of l.fixed) (tried_of c.mark-fixed.result) l.invariant.1
          (subst (λ (k : ℕ). Marked (tried_of l.fixed) k (tried_of c.mark-fixed.result)) c.output_of.ensures c.mark-fixed.ensures),
    )

pub returns : goal.returns
returns c =
    let l = c.loop-i in
    subst (λ (i : ℕ). Fixed c.args.pairs.now.out i (tried_of l.fixed)) (le_antisymm l.invariant.0 c.loop-i-test.false) l.invariant.1
