-- All records before k have been gone over, and what is kept of them is laid.
use mathlib.Core.Path.{◌≡◌}
use native.Mathlib.Omega.{arith}
use Rattle.rescue_rule.proofs.Pieces.{laying-none, laying-room, laying-more}
use Rattle.rescue.proofs.Laying.{no_bytes, next-bytes}
use Rattle.rescue.proofs.lay_kept.Goals as goal

pub loop-k-init : goal.loop-k-init
loop-k-init c = laying-none _ _ (no_bytes _ _ _ _) _ _

pub lay_record-next-requires : goal.lay_record-next-requires
lay_record-next-requires c = (c.requires.0, omega arith, laying-room _ _ (next-bytes _ _ _ _) _ _ c.requires.1 _ (omega arith) _ _ c.loop-k.invariant)

pub loop-k-preserved : goal.loop-k-preserved
loop-k-preserved c = laying-more _ _ (next-bytes _ _ _ _) _ _ c.requires.1 _ (omega arith) _ _ c.loop-k.invariant _ c.lay_record-next.ensures.1 _ c.lay_record-next.ensures.0

pub returns : goal.returns
returns c =
    let e : c.loop-k.k ≡ c.args.records = omega (arith, c.loop-k.invariant.inside) in
    rw e at c.loop-k.invariant.is
