-- Each turn gives one input its output of before; no two of them had the same.
use mathlib.Core.Path.{ap, subst, ◌∙◌}
use Prim.Native.Nat.{ℕ, ◌+◌}
use native.Mathlib.Nat.{le_antisymm}
use native.Mathlib.Omega.{arith}
use lib.ListN.{set}
use Rattle.search.proofs.Tables.{in-range}
use Rattle.matching.specs.Chosen.{Restored}
use Rattle.matching.proofs.Behind.{restored-start, restored-more}
use Rattle.matching.proofs.restore.Goals as goal

pub loop-k-init : goal.loop-k-init
loop-k-init c = let a = c.args in (omega arith, c.requires.3, restored-start a.before.now a.pairs.now.by a.pairs.now.out a.from)

pub bounds-before-k : goal.bounds-before-k
bounds-before-k c = omega (arith, c.requires.2, c.loop-k-test.true)

pub join-requires : goal.join-requires
join-requires c =
    let p = c.requires in
    let l = c.loop-k in
    let t = c.loop-k-test.true in
    let o = in-range c.args.before.now l.k 0 255 (omega (arith, c, p.2, t)) in
    (omega (arith, p.2), omega (arith, o, p.4.inside l.k t, p.2))

pub loop-k-preserved : goal.loop-k-preserved
loop-k-preserved c =
    let a = c.args in
    let p = c.requires in
    let l = c.loop-k in
    let t = c.loop-k-test.true in
    let o = in-range a.before.now l.k 0 255 (omega (arith, c, p.2, t)) in
    let j = c.join.ensures in (
      omega (arith, l.invariant.0),
      omega arith,
      restored-more a.before.now a.pairs.now.by a.pairs.now.out a.from a.n p.4 l.k l.invariant.0 t l.pairs.by l.pairs.out _ _ (omega (arith, p.4.inside l.k t, p.2, l.invariant.2.holders, p.0)) (omega (arith, p.2, l.invariant.2.outputs, p.1)) l.invariant.2
          (j.0 ∙ ap (λ (x : ℕ). set l.pairs.by x (l.k + 1)) o) (j.1 ∙ ap (set l.pairs.out l.k) o),
    )

pub returns : goal.returns
returns c =
    let a = c.args in
    let l = c.loop-k in
    subst (Restored a.before.now a.pairs.now.by a.pairs.now.out a.from l.pairs.by l.pairs.out) (le_antisymm l.invariant.1 c.loop-k-test.false) l.invariant.2
