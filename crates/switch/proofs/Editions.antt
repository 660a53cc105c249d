-- The numbers of both editions are small.
use native.Mathlib.Omega.{arith}
use Rattle.switch.specs.Editions.{first_edition, second_edition, Bounded}

pub first-bounded : Bounded first_edition
first-bounded = record { width = omega arith; ports = omega arith; records = omega arith }

pub second-bounded : Bounded second_edition
second-bounded = record { width = omega arith; ports = omega arith; records = omega arith }
