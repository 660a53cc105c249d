-- The inputs from the first on have their turns and then those below it: once around, and the slot is filled.
use Prim.Native.Nat.{◌-◌, ◌%◌, ◌≤◌}
use native.Mathlib.Nat.{mod-lt}
use native.Mathlib.Omega.{arith}
use lib.ListN.{length}
use Rattle.slot.proofs.Visits.{Visiting, visited-all}
use Rattle.slot.proofs.Around.{first-waits, first-half, second-waits, second-half}
use Rattle.slot.proofs.fill_slot.Goals as goal

pub from-requires : goal.from-requires
from-requires c = omega (arith, c.requires.0.sized.few, mod-lt c.args.s c.requires.0.sized.some)

pub visit_each-half-requires : goal.visit_each-half-requires
visit_each-half-requires c =
    let wide : c.args.n ≤ length c.idle_all.new.out = omega (arith, c.requires.1, c.idle_all.auto.out) in
    let a = c.args in
    (c.requires.0, wide, first-waits a.n a.s a.work.now a.rows.now c.idle_all.new.out (record { free = c.every.result; rest = c.args.rest }) c.requires.0 wide c.idle_all.ensures _ c.from.ensures)

pub below-requires : goal.below-requires
below-requires c = omega (arith, c.requires.0.sized.few, mod-lt c.args.s c.requires.0.sized.some)

pub visit_each-whole-requires : goal.visit_each-whole-requires
visit_each-whole-requires c =
    let wide : c.args.n ≤ length c.idle_all.new.out = omega (arith, c.requires.1, c.idle_all.auto.out) in
    let a = c.args in
    let half : Visiting a.n a.s (a.n - a.s % a.n) a.work.now c.visit_each-half.new.work c.visit_each-half.new.rows c.visit_each-half.new.out c.visit_each-half.result = first-half a.n a.s a.work.now a.rows.now c.idle_all.new.out (record { free = c.every.result; rest = c.args.rest }) c.requires.0 wide c.idle_all.ensures _ c.from.ensures _ _ _ _ c.every.ensures c.visit_each-half.ensures in (
      half.copy,
      half.seats.wide,
      second-waits a.n a.s a.work.now a.rows.now c.idle_all.new.out (record { free = c.every.result; rest = c.args.rest }) c.requires.0 wide c.idle_all.ensures _ c.from.ensures _ _ _ _ c.every.ensures c.visit_each-half.ensures _ c.below.ensures,
    )

pub returns : goal.returns
returns c =
    let wide : c.args.n ≤ length c.idle_all.new.out = omega (arith, c.requires.1, c.idle_all.auto.out) in
    let a = c.args in
    visited-all a.n a.s a.work.now _ _ _ c.visit_each-whole.result
    (second-half a.n a.s a.work.now a.rows.now c.idle_all.new.out (record { free = c.every.result; rest = c.args.rest }) c.requires.0 wide c.idle_all.ensures _ c.from.ensures _ _ _ _ c.every.ensures c.visit_each-half.ensures
    _ c.below.ensures _ _ _ _ c.visit_each-whole.ensures)
    (λ z. omega (arith, c.requires.2, c.requires.0.all, z))
