-- Inner: a set of ports is a set of their numbers. Definitions only.
use Rattle.std.specs.Prelude.{None, Some}
use Rattle.std.specs.Prelude.{ℕ, ◌<◌}
use Rattle.std.specs.declared.option.Option.{Option}
use Rattle.labels.specs.declared.PortSet.{PortSet}
use Rattle.switch.specs.declared.OutputPort.{OutputPort}
use Rattle.switch.specs.declared.InputPort.{InputPort}
use Rattle.sets.specs.Label.{In, Sub}
use Rattle.sets.specs.Wide.{numbers_of}
use Rattle.sets.specs.declared.Wide.{Wide}

abbrev pub Outputs : Type 0
Outputs = PortSet OutputPort Wide

abbrev pub Inputs : Type 0
Inputs = PortSet InputPort Wide

-- the numbers of a set of outputs
abbrev pub outputs_of : (s : Outputs) → ℕ
outputs_of s = numbers_of s.numbers

-- the numbers of a set of inputs
abbrev pub inputs_of : (s : Inputs) → ℕ
inputs_of s = numbers_of s.numbers

-- a port that was found, as a number
abbrev pub found : {P : Type 0} → (P → ℕ) → Option P → Option ℕ
found number (Some p) = Some (number p)
found number None = None

-- an output that was found, as a number
abbrev pub output_found : Option OutputPort → Option ℕ
output_found = found (λ j. j.0)

-- an input that was found, as a number
abbrev pub input_found : Option InputPort → Option ℕ
input_found = found (λ i. i.0)

-- j is the lowest number of the row that is not tried, of w numbers
pub record UntriedAt (w row tried j : ℕ) : Type 0 where
  pub small : j < w
  pub here : In row j
  pub new : In tried j → ⊥
  pub past : (k : ℕ) → k < j → In row k → In tried k

-- the lowest port of the row that is not tried; nothing where all are tried
abbrev pub UntriedBy : {P : Type 0} → (P → ℕ) → ℕ → ℕ → ℕ → Option P → Type 0
UntriedBy number w row tried (Some p) = UntriedAt w row tried (number p)
UntriedBy number w row tried None = Sub row tried

-- the same for outputs
abbrev pub Untried : ℕ → ℕ → ℕ → Option OutputPort → Type 0
Untried = UntriedBy (λ j. j.0)
