-- Inner: the settings of a doubled plan's second part, how long each rule holds them, what they can be asked for, and what they come to; and a
-- demand divided by u. Definitions only.
use Rattle.std.specs.Prelude.{Ok}
use Rattle.std.specs.Prelude.{◌≡◌, List, ◌++◌, map, ℕ, ◌*◌, ◌-◌, ◌≤◌, ◌<◌, length, get_or}
use Rattle.switch.specs.declared.Edition.{Edition}
use Rattle.switch.specs.Editions.{Bounded}
use Rattle.switch.specs.Plan.{Record, total}
use Rattle.demand.specs.Check.{check_demand}
use Rattle.rules.specs.Exact.{tab, exact_plan}
use Rattle.rules.specs.Doubled.{unit, divide, stretch, rotate, opposite, alike, tight, turns, doubled_by}
use Rattle.turns.specs.declared.Turning.{Turning}
use Rattle.turns.specs.declared.Turning.TheVariants.{Forward, Backward}
use Rattle.turns.specs.declared.Rule.{Rule}
use Rattle.turns.specs.declared.Rule.TheVariants.{Tight, Every}

-- which output an input has in setting k of N: the rotations go forward, the anti-rotations backward
abbrev pub turn : Turning → ℕ → ℕ → ℕ → ℕ
turn Forward = rotate
turn Backward = opposite

-- where an input starts: setting k takes it k places on from there
abbrev pub ahead : Turning → ℕ → ℕ → ℕ
ahead Forward N i = i
ahead Backward N i = N - i

-- how long each setting is held: for the largest remainder among its pairs; or every one for u - 1
abbrev pub holds_by : Rule → Turning → ℕ → List ℕ → ℕ → ℕ → ℕ
holds_by Tight t N d = tight N (turn t N) d
holds_by Every t N d = alike

-- the doubled plan by either rule, with the settings of either way
abbrev pub doubled_rule : (r : Rule) (t : Turning) (W N : ℕ) (d : List ℕ) → List Record
doubled_rule r t W N d = doubled_by W N (turn t N) (holds_by r t N d) d

-- the N settings, k from 0 to N - 1, setting k held for what stands at k and left out where that is 0
abbrev pub second : (t : Turning) (W N : ℕ) (H : List ℕ) → List Record
second t W N H = turns W (turn t N) (λ k. get_or H k 0) N 0

-- first the exact plan of the quotients q, each hold multiplied by u; then the settings, held for H
abbrev pub parts : (t : Turning) (W N u : ℕ) (q H : List ℕ) → List Record
parts t W N u q H = map (stretch u) (exact_plan W N q) ++ second t W N H

-- a demand that asks for something, whose longest line fits a hold
pub record Asks (N T : ℕ) (d : List ℕ) : Type 0 where
  pub some : 0 < N
  pub few : N ≤ 128
  pub room : N * N ≤ length d
  pub least : 0 < T
  pub most : T ≤ 65535

-- its u, its cells divided by u, and the holds by a rule
pub record Splits (r : Rule) (t : Turning) (N T : ℕ) (d : List ℕ) (u : ℕ) (q H : List ℕ) : Type 0 where
  pub unit-is : u ≡ unit N T
  pub quotients-are : q ≡ divide u d
  pub holds-are : H ≡ tab N 0 (holds_by r t N d u)

-- a number of ports, their cells, and a u whose holds fit two bytes
pub record Holding (N u : ℕ) (d : List ℕ) : Type 0 where
  pub some : 0 < N
  pub few : N ≤ 128
  pub room : N * N ≤ length d
  pub least : 0 < u
  pub most : u ≤ 65536

-- a number of ports, and a hold for each setting
pub record Table (N : ℕ) (H : List ℕ) : Type 0 where
  pub some : 0 < N
  pub few : N ≤ 128
  pub size : length H ≡ N

-- so many records and so long in all, whatever the records' width and whichever settings the holds are of
pub record Measures (N : ℕ) (H : List ℕ) (records sum : ℕ) : Type 0 where
  pub few : records ≤ N
  pub small : sum ≤ N * 65535
  pub count : (W : ℕ) (τ : ℕ → ℕ → ℕ) → records ≡ length (turns W τ (λ k. get_or H k 0) N 0)
  pub held : (W : ℕ) (τ : ℕ → ℕ → ℕ) → sum ≡ total (turns W τ (λ k. get_or H k 0) N 0)

-- a demand that asks for something and that no check refuses, its u, and its cells divided by u
pub record Divided (E : Edition) (N T u : ℕ) (d q : List ℕ) : Type 0 where
  pub fine : check_demand E.ports N d ≡ Ok T
  pub bounded : Bounded E
  pub some : 0 < T
  pub unit-is : u ≡ unit N T
  pub quotients-are : q ≡ divide u d
