-- A larger batch (§22): every cell of a demand multiplied by k. Definitions only.
use Rattle.std.specs.Prelude.{◌≡◌, List, map, ℕ, ◌*◌, ◌≤◌, ◌<◌, length}
use Rattle.rules.specs.Exact.{exact_plan}
use Rattle.rules.specs.Doubled.{stretch}

-- every cell multiplied by k
unfoldable pub multiplied : (k : ℕ) (d : List ℕ) → List ℕ
multiplied k d = map (λ x. x * k) d

-- for every k of at least 1 the exact plan keeps its settings and their order, and each hold is multiplied by k
abbrev pub LargerBatch : Type 0
LargerBatch =
    (W N k : ℕ) → 0 < N → N ≤ W → 1 ≤ k → (d : List ℕ) → N * N ≤ length d → exact_plan W N (multiplied k d) ≡ map (stretch k) (exact_plan W N d)
