-- T and N - 1 added and divided by N, which is how rounding up is defined.
use mathlib.Core.Path.{refl}
use Prim.Native.Nat.{◌+◌, ◌-◌}
use native.Mathlib.Omega.{arith}
use native.Mathlib.Nat.{div-le_self}
use Rattle.rules.specs.Doubled.{unit}
use Rattle.turns.proofs.unit_of.Goals as goal

pub overflow_cast-result : goal.overflow_cast-result
overflow_cast-result c = let a = c.args in omega (arith, div-le_self (a.longest + (a.n - 1)) a.n)

pub returns : goal.returns
unfolding unit
returns c = refl
