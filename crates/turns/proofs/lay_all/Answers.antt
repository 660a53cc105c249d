-- Each turn lays one setting behind those before it.
use mathlib.Core.Path.{refl, ◌∙◌}
use Prim.Native.Nat.{◌<◌}
use native.Mathlib.Omega.{arith}
use Rattle.turns.proofs.Turns.{laying-none, laying-room, laying-next, laying-all}
use Rattle.turns.proofs.lay_all.Goals as goal

pub loop-k-init : goal.loop-k-init
loop-k-init c = (c.requires.0.size, refl, laying-none _ _ _ c.requires.2)

pub lay_one-at-requires : goal.lay_one-at-requires
lay_one-at-requires c =
    let p = c.requires.0 in
    let l = c.loop-k in
    let t : l.k < c.args.n = omega arith in
    (p.some, p.few, t, rw l.invariant.1 (laying-room l.invariant.2 t refl))

pub loop-k-preserved : goal.loop-k-preserved
loop-k-preserved c =
    let l = c.loop-k in
    let t : l.k < c.args.n = omega arith in
    (l.invariant.0, c.lay_one-at.auto.out ∙ l.invariant.1, laying-next l.invariant.2 t refl (rw l.invariant.1 at c.lay_one-at.ensures.0) (rw l.invariant.1 at c.lay_one-at.ensures.1))

pub returns : goal.returns
returns c = laying-all c.loop-k.invariant.2 (omega arith)
