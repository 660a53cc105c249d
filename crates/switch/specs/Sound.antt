-- What every record of a plan is to be, whoever made it, over the number W of its outputs. Definitions only.
use Rattle.std.specs.Prelude.{◌≡◌, ◌⊎◌, List, [], ◌∷◌, ℕ, ◌<◌, ◌≤◌, length}
use Rattle.switch.specs.Plan.{Setting, Record, output}

-- what holds of each record of a plan
pub data Each (P : Record → Type 0) : List Record → Type 0 where
  none : Each P []
  more : {r : Record} {p : List Record} → P r → Each P p → Each P (r ∷ p)

-- a record of W outputs
abbrev pub OfWidth : (W : ℕ) (r : Record) → Type 0
OfWidth W r = length r.outputs ≡ W

-- held at least 1, each of its first N outputs below N or idle, no output below N twice, all later outputs idle
pub record Sound (W N : ℕ) (r : Record) : Type 0 where
  pub held : 0 < r.hold
  pub size : length r.outputs ≡ W
  pub inside : (i : ℕ) → i < N → (output r i < N) ⊎ (output r i ≡ 255)
  pub setting : Setting N (output r)
  pub later : (i : ℕ) → N ≤ i → i < W → output r i ≡ 255
