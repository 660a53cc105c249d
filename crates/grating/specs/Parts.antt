-- Inner: what the code is told of the first part, which stands as a plan of its own in a buffer. Definitions only.
use Rattle.std.specs.Prelude.{◌≡◌, List, ◌++◌, map, ℕ, ◌+◌, ◌*◌, ◌/◌, ◌≤◌, ◌<◌, ◌^◌}
use Rattle.switch.specs.declared.Edition.{Edition}
use Rattle.switch.specs.Editions.{Bounded}
use Rattle.switch.specs.Plan.{Record, total}
use Rattle.rules.specs.Doubled.{stretch}
use Rattle.records.specs.Bytes.{whole, plan_from}
use Rattle.turns.specs.declared.Turning.TheVariants.{Backward}
use Rattle.turns.specs.Second.{second}

-- so many records at the start of a buffer, each hold multiplied by u
abbrev pub stretched : (W u : ℕ) (first : List ℕ) (records : ℕ) → List Record
stretched W u first records = map (stretch u) (plan_from W first 0 records)

-- these and then the anti-rotations, held for H
abbrev pub made_parts : (W N u : ℕ) (first : List ℕ) (records : ℕ) (H : List ℕ) → List Record
made_parts W N u first records H = stretched W u first records ++ second Backward W N H

-- at most W records in a buffer that has room for them, with the sum of their holds; u times as long in all they still fit a hold
pub record First (W u : ℕ) (first : List ℕ) (records sum : ℕ) : Type 0 where
  pub few : records ≤ W
  pub room : records ≤ whole W first
  pub sum_is : sum ≡ total (plan_from W first 0 records)
  pub small : sum * u ≤ 65535

-- so many cells, holds and bytes have room for the quotients, the anti-rotations and the first part of an edition's largest switch
pub record Roomy (E : Edition) (cells holds first : ℕ) : Type 0 where
  pub bounded : Bounded E
  pub divided : E.ports * E.ports ≤ cells
  pub held : E.ports ≤ holds
  pub parted : E.ports ≤ first / (E.width + 4)
  -- and fit an array
  pub few : (cells < 2 ^ 61) × (holds < 2 ^ 62) × (first < 2 ^ 63)
