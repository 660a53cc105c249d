-- At most T slots are asked of each input, and the total is no less, so that the difference is not below zero.
use native.Mathlib.Omega.{arith}
use native.Mathlib.Nat.{mul-le-mul, mul-le-mul_left}
use Rattle.switch.specs.Demand.{cell}
use Rattle.switch.proofs.Empty.{asked-most}
use Rattle.demand.proofs.empty_slots.Goals as goal

pub overflow_mul-result : goal.overflow_mul-result
overflow_mul-result c = let p = c.requires in omega (arith, mul-le-mul p.0.sized.few p.2)

pub overflow_sub-result : goal.overflow_sub-result
overflow_sub-result c =
    let a = c.args in
    let p = c.requires in
    omega (arith, c.asked_slots.ensures, asked-most a.n (cell a.n a.cells.now), mul-le-mul_left a.n p.1)
