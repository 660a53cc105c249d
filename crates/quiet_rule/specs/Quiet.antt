-- The quiet plan: each input in turn takes the lowest free output with slots left whose wavelength has room. Definitions only.
use Rattle.std.specs.Prelude.{Bool, false, cond, ◌&&◌, List, [], ◌∷◌, ℕ, zero, suc, min, ltb, eqb}
use Rattle.counting.specs.Sum.{sum}
use Rattle.counting.specs.Count.{count}
use Rattle.switch.specs.Demand.{cell}
use Rattle.switch.specs.Plan.{Record}
use Rattle.wavelengths.specs.Shared.{wavelength}
use Rattle.rules.specs.Peel.{peel}
use Rattle.rules.specs.Exact.{tab}
use Rattle.rules.specs.Quick.{lowest, Slot, may, seat}
use Rattle.quiet_rule.specs.Limit.{lit}

-- ---- the setting

-- input i may take output j: it is free, with slots left for that pair, and fewer than L inputs use its wavelength so far
unfoldable pub may_within : (N L : ℕ) (M : ℕ → ℕ → ℕ) (x : Slot) (i j : ℕ) → Bool
may_within N L M x i j = may M x.taken i j && ltb (lit N x.outputs (wavelength N i j)) L

-- the first v inputs, in order: each takes the lowest output that it may, or is idle
unfoldable pub served : ℕ → ℕ → (ℕ → ℕ → ℕ) → ℕ → Slot
served N L M zero = record { outputs = λ _. 255; taken = λ _. false }
served N L M (suc v) = let x = served N L M v in seat x v (lowest N 0 (may_within N L M x v))

-- all N inputs visited
unfoldable pub quiet_setting : (N L : ℕ) (M : ℕ → ℕ → ℕ) → ℕ → ℕ
quiet_setting N L M = (served N L M N).outputs

-- ---- its hold

-- the smaller of two numbers, of which 0 counts as none
unfoldable pub lesser : ℕ → ℕ → ℕ
lesser zero y = y
lesser (suc x) zero = suc x
lesser (suc x) (suc y) = min (suc x) (suc y)

-- the smallest of f 0 .. f (n - 1) that is not 0, and 0 where all are
unfoldable pub smallest : ℕ → (ℕ → ℕ) → ℕ
smallest zero f = 0
smallest (suc n) f = lesser (smallest n f) (f n)

-- the cell of the pair that joins input i, and 0 where it is idle
unfoldable pub joined_cell : (N : ℕ) (M : ℕ → ℕ → ℕ) (o : ℕ → ℕ) (i : ℕ) → ℕ
joined_cell N M o i = cond (ltb (o i) N) (M i (o i)) 0

-- the hold: the smallest cell among the joined pairs
unfoldable pub quiet_hold : (N L : ℕ) (M : ℕ → ℕ → ℕ) → ℕ
quiet_hold N L M = smallest N (joined_cell N M (quiet_setting N L M))

-- ---- the plan

-- how many cells are not zero
unfoldable pub pairs : (N : ℕ) (M : ℕ → ℕ → ℕ) → ℕ
pairs N M = sum N (λ i. count N (λ j. ltb 0 (M i j)))

-- the record, W outputs wide
unfoldable pub quiet_record : (W N L : ℕ) (M : ℕ → ℕ → ℕ) → Record
quiet_record W N L M = record { hold = quiet_hold N L M; outputs = tab W 0 (quiet_setting N L M) }

-- what is left once it is subtracted
unfoldable pub quiet_rest : (N L : ℕ) (M : ℕ → ℕ → ℕ) → ℕ → ℕ → ℕ
quiet_rest N L M = peel (quiet_hold N L M) (quiet_setting N L M) M

-- the records while a cell is not zero, at most k of them
unfoldable pub quiets : ℕ → ℕ → ℕ → ℕ → (ℕ → ℕ → ℕ) → List Record
quiets W zero N L M = []
quiets W (suc k) N L M = cond (eqb (pairs N M) 0) [] (quiet_record W N L M ∷ quiets W k N L (quiet_rest N L M))

-- all of them: as many records as there are non-zero cells are enough, since each empties one at least
unfoldable pub quiet_from : (W N L : ℕ) (M : ℕ → ℕ → ℕ) → List Record
quiet_from W N L M = quiets W (pairs N M) N L M

-- the quiet plan of demand d within limit L
unfoldable pub quiet_plan : (W N L : ℕ) (d : List ℕ) → List Record
quiet_plan W N L d = quiet_from W N L (cell N d)
