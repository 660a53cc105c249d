-- The numbers of the reasons (§19.2). Definitions only.
use Rattle.std.specs.Prelude.{ℕ, Some, None}
use Rattle.std.specs.declared.option.Option.{Option}
use Rattle.dropping.specs.declared.Reason.{Reason}
use Rattle.dropping.specs.declared.Reason.TheVariants.{Hold, Ports, Spare, Range, Twice, Past, Torn}

-- in the order in which they are asked
abbrev pub number_of : Reason → ℕ
number_of Hold = 1
number_of Ports = 2
number_of Spare = 3
number_of Range = 4
number_of Twice = 5
number_of Past = 6
number_of Torn = 7

-- 0 where there is none
abbrev pub told : Option Reason → ℕ
told (Some r) = number_of r
told None = 0
