-- Inner: a set of inputs by its number, and the lowest input of two sets. Definitions only.
use Rattle.std.specs.Prelude.{None, Some}
use Rattle.std.specs.Prelude.{ℕ, ◌<◌}
use Rattle.std.specs.declared.option.Option.{Option}
use Rattle.switch.specs.declared.InputPort.{InputPort}
use Rattle.sets.specs.Label.{In}
use Rattle.sets.specs.declared.Label.{Label}
use Rattle.labels.specs.declared.PortSet.{PortSet}

abbrev pub InputSet : Type 0
InputSet = PortSet InputPort Label

abbrev pub numbers_of : (s : InputSet) → ℕ
numbers_of s = s.numbers.0

-- i is the lowest that l and m have both
pub record CommonAt (l m i : ℕ) : Type 0 where
  pub small : i < 64
  pub left : In l i
  pub right : In m i
  pub past : (k : ℕ) → k < i → In l k → In m k → ⊥

-- the lowest input that l and m have both; nothing where they have none
abbrev pub LowestCommon : ℕ → ℕ → (Option InputPort) → Type 0
LowestCommon l m (Some i) = CommonAt l m i.0
LowestCommon l m None = (k : ℕ) → In l k → In m k → ⊥
