-- All records before k have been gone over, and the entries of those dropped are laid.
use mathlib.Core.Path.{◌≡◌}
use native.Mathlib.Omega.{arith}
use Rattle.rescue_rule.proofs.Pieces.{laying-none, laying-room, laying-more}
use Rattle.dropping.proofs.Listing.{no-entries, next-entries}
use Rattle.dropping.proofs.list_whole.Goals as goal

pub loop-k-init : goal.loop-k-init
loop-k-init c = laying-none _ _ (no-entries _ _ _ _) _ _

pub list_record-next-requires : goal.list_record-next-requires
list_record-next-requires c = (c.requires.0, omega arith, laying-room _ _ (next-entries _ _ _ _) _ _ c.requires.1 _ (omega arith) _ _ c.loop-k.invariant)

pub loop-k-preserved : goal.loop-k-preserved
loop-k-preserved c = laying-more _ _ (next-entries _ _ _ _) _ _ c.requires.1 _ (omega arith) _ _ c.loop-k.invariant _ c.list_record-next.ensures.1 _ c.list_record-next.ensures.0

pub returns : goal.returns
returns c =
    let e : c.loop-k.k ≡ c.args.records = omega (arith, c.loop-k.invariant.inside) in
    (rw e at c.loop-k.invariant.ends, rw e at c.loop-k.invariant.is)
