-- The doubled plan (§7): the exact plan of the quotients by u, held u times as long, and N settings that hold the remainders. Definitions only.
use Rattle.std.specs.Prelude.{◌≡◌, cond, List, [], ◌∷◌, ◌++◌, map, ℕ, zero, suc, ◌+◌, ◌*◌, ◌-◌, ◌/◌, ◌%◌, ◌≤◌, ◌<◌, length, ltb, eqb}
use Rattle.counting.specs.Sum.{most}
use Rattle.switch.specs.Demand.{cell, longest}
use Rattle.switch.specs.Plan.{Full, Record, Plan, total, Covers}
use Rattle.rules.specs.Exact.{tab, exact_plan}

-- u is T / N rounded up (§7.1)
unfoldable pub unit : (N T : ℕ) → ℕ
unit N T = (T + (N - 1)) / N

-- the quotients: every cell divided by u, rounded down (§7.2)
unfoldable pub divide : (u : ℕ) (d : List ℕ) → List ℕ
divide u d = map (λ x. x / u) d

-- the hold multiplied by u
unfoldable pub stretch : (u : ℕ) (r : Record) → Record
stretch u r = record { hold = r.hold * u; outputs = r.outputs }

-- rotation k: input i to output (i + k) mod N (§7.3)
unfoldable pub rotate : (N k i : ℕ) → ℕ
rotate N k i = cond (ltb i N) ((i + k) % N) 255

-- anti-rotation k: input i to output (k - i) mod N (§13.5)
unfoldable pub opposite : (N k i : ℕ) → ℕ
opposite N k i = cond (ltb i N) ((k + (N - i)) % N) 255

-- setting o held for h, and left out where h is 0
unfoldable pub held : ℕ → ℕ → (ℕ → ℕ) → List Record
held W zero o = []
held W (suc h) o = record { hold = suc h; outputs = tab W 0 o } ∷ []

-- the settings τ k, τ (k + 1), .., n of them, setting k held for H k
unfoldable pub turns : ℕ → (ℕ → ℕ → ℕ) → (ℕ → ℕ) → ℕ → ℕ → List Record
turns W τ H zero k = []
turns W τ H (suc n) k = held W (H k) (τ k) ++ turns W τ H n (suc k)

-- the doubled plan with the N settings τ in its second part, where τ k is held for H u k; empty if T is 0
unfoldable pub doubled_by : (W N : ℕ) (τ H : ℕ → ℕ → ℕ) (d : List ℕ) → List Record
doubled_by W N τ H d =
    let u = unit N (longest N (cell N d)) in
    cond (eqb (longest N (cell N d)) 0) [] (map (stretch u) (exact_plan W N (divide u d)) ++ turns W τ (H u) N 0)

-- every rotation is held for u - 1, and so left out where u is 1
unfoldable pub alike : (u k : ℕ) → ℕ
alike u k = u - 1

-- the doubled plan by the rule of every rotation (§7.5)
unfoldable pub every_rotation_plan : (W N : ℕ) (d : List ℕ) → List Record
every_rotation_plan W N d = doubled_by W N (rotate N) alike d

-- the tight rule (§7.4): setting τ k is held for the largest remainder, modulo u, that its pairs have; 0 leaves it out
unfoldable pub tight : (N : ℕ) (τ : ℕ → ℕ → ℕ) (d : List ℕ) (u k : ℕ) → ℕ
tight N τ d u k = most N (λ i. cell N d i (τ k i) % u)

-- the doubled plan by the tight rule (§7.4)
unfoldable pub doubled_plan : (W N : ℕ) (d : List ℕ) → List Record
doubled_plan W N d = doubled_by W N (rotate N) (tight N (rotate N) d) d

-- τ 0 .. τ (N - 1) are full settings, and τ (which i j) joins i to j: between them they join every pair
pub record Joins (N : ℕ) (τ : ℕ → ℕ → ℕ) : Type 0 where
  pub full : (k : ℕ) → k < N → Full N (τ k)
  pub which : ℕ → ℕ → ℕ
  pub inside : (i j : ℕ) → i < N → j < N → which i j < N
  pub joins : (i j : ℕ) → i < N → j < N → τ (which i j) i ≡ j

-- what a doubled plan is worth (§7.6): it covers, with 2N records or fewer and a total of 2T - 1 or less, 0 if T is 0
pub record Doubled (N : ℕ) (d : List ℕ) (p : List Record) : Type 0 where
  pub plan : Plan N p
  pub few : length p ≤ 2 * N
  pub short : total p ≤ 2 * longest N (cell N d) - 1
  pub covers : Covers N (cell N d) p
