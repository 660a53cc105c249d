-- The exact plan (§6), computed: fill to T, then take the first full setting for as long as its smallest cell, until all is zero. Definitions only.
use Rattle.std.specs.Prelude.{◌≡◌, List, [], ◌∷◌, ℕ, zero, suc, ◌+◌, ◌*◌, ◌-◌, ◌≤◌, min, length}
use Rattle.std.proofs.Math.Option.{none, some}
use Rattle.counting.specs.Matrix.{row}
use Rattle.switch.specs.Demand.{cell, longest}
use Rattle.switch.specs.Plan.{Record, Plan, total, Covers}
use Rattle.rules.specs.Fill.{filled}
use Rattle.rules.specs.Search.{first_setting}
use Rattle.rules.specs.Peel.{peel}

-- f i, f (i + 1), .., n of them
unfoldable pub tab : ℕ → ℕ → (ℕ → ℕ) → List ℕ
tab zero i f = []
tab (suc n) i f = f i ∷ tab n (suc i) f

-- the smallest of f 0 .. f n
unfoldable pub least : ℕ → (ℕ → ℕ) → ℕ
least zero f = f 0
least (suc n) f = min (least n f) (f (suc n))

-- the record of setting o, W outputs wide: its hold is the smallest cell it uses
unfoldable pub record_of : (W N : ℕ) (M : ℕ → ℕ → ℕ) (o : ℕ → ℕ) → Record
record_of W N M o = record { hold = least (N - 1) (λ i. M i (o i)); outputs = tab W 0 o }

-- the records of M, at most k of them: take the first setting, subtract it for its hold, and repeat while there is one
unfoldable pub peels : ℕ → ℕ → ℕ → (ℕ → ℕ → ℕ) → List Record
peels W zero N M = []
peels W (suc k) N M = elim (first_setting N M) [ none ↦ [] | some o ↦ record_of W N M o ∷ peels W k N (peel (record_of W N M o).hold o M) ]

-- all of them: a line's sum of records is enough, since each takes at least 1 of it
unfoldable pub exact_from : (W N : ℕ) (M : ℕ → ℕ → ℕ) → List Record
exact_from W N M = peels W (row N M 0) N M

-- the exact plan of demand d
unfoldable pub exact_plan : (W N : ℕ) (d : List ℕ) → List Record
exact_plan W N d = exact_from W N (filled N d)

-- what the exact plan is worth: it covers the demand; its total hold is T; no plan that covers, of however many settings, full or with idle
-- inputs, is held for less; and it has at most T records, and at most N² - 2N + 2
pub record Exact (N : ℕ) (d : List ℕ) (p : List Record) : Type 0 where
  pub plan : Plan N p
  pub covers : Covers N (cell N d) p
  pub held : total p ≡ longest N (cell N d)
  pub shortest : (q : List Record) → Plan N q → Covers N (cell N d) q → total p ≤ total q
  pub few : length p ≤ min (longest N (cell N d)) (N * N + 2 - 2 * N)
