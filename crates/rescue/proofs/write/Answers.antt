-- The plan is laid, then the list; both had room.
use Prim.Native.Nat.{◌+◌, ◌≤◌}
use native.Mathlib.Nat.{mul-le-mul_left}
use native.Mathlib.Omega.{arith}
use lib.ListN.{length}
use Rattle.rules.specs.Exact.{exact_plan}
use Rattle.rescue_rule.specs.Rescue.{dropped}
use Rattle.rescue_rule.proofs.List.{entries-size}
use Rattle.rescue.proofs.Taking.{written}
use Rattle.rescue.proofs.write.Goals as goal

pub lay_rescued-added-requires : goal.lay_rescued-added-requires
lay_rescued-added-requires c =
    let p = c.requires in
    (p.0.reads, p.0.cells, p.0.stays, p.1)

pub list_dropped-requires : goal.list_dropped-requires
list_dropped-requires c =
    let p = c.requires in
    let a = c.args in
    (p.0.reads, p.0.few, omega (arith, p.2, p.0.goes, entries-size (dropped a.e.width a.e.byte a.n a.damaged.now)))

pub overflow_add-counts : goal.overflow_add-counts
overflow_add-counts c =
    let l : 1 ≤ c.args.e.width + 4 = omega arith in
    omega (arith, c.requires.1, mul-le-mul_left (c.args.stock.kept + length (exact_plan c.args.e.width c.args.n c.args.left.now)) l, c.lay_rescued-added.ensures.0)

pub returns : goal.returns
returns c = written _ _ _ _ _ c.requires.0 _ _ _ _ _ c.lay_rescued-added.ensures.0 c.lay_rescued-added.ensures.1 c.list_dropped.ensures
