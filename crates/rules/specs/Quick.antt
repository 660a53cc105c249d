-- The quick cover (§8), slot by slot: each input in turn takes the lowest free output with slots left. Definitions only.
use Rattle.std.specs.Prelude.{◌≡◌, Bool, true, false, cond, ◌&&◌, not, List, [], ◌∷◌, ℕ, zero, suc, ◌+◌, ◌*◌, ◌-◌, ◌%◌, ◌≤◌, ◌<◌, length, ltb, eqb}
use Rattle.counting.specs.Sum.{sum}
use Rattle.counting.specs.Matrix.{row}
use Rattle.switch.specs.Demand.{cell, longest}
use Rattle.switch.specs.Plan.{Record, Plan, grant, total, Covers}
use Rattle.rules.specs.Search.{put}
use Rattle.rules.specs.Peel.{peel}
use Rattle.rules.specs.Exact.{tab}

-- the lowest of j, j + 1, .., r of them, that passes; 255 where none does
unfoldable pub lowest : ℕ → ℕ → (ℕ → Bool) → ℕ
lowest zero j P = 255
lowest (suc r) j P = cond (P j) j (lowest r (suc j) P)

-- a slot in the making: the outputs by input, 255 for idle, and which outputs are taken
pub record Slot : Type 0 where
  pub outputs : ℕ → ℕ
  pub taken : ℕ → Bool

-- input i may take output j: it is free, with slots left for that pair
unfoldable pub may : (M : ℕ → ℕ → ℕ) (taken : ℕ → Bool) (i j : ℕ) → Bool
may M taken i j = ltb 0 (M i j) && not (taken j)

-- input i takes output j, or is idle where j is 255
unfoldable pub seat : (x : Slot) (i j : ℕ) → Slot
seat x i j = record { outputs = put x.outputs i j; taken = put x.taken j true }

-- the first v visits of slot s: from input s mod N on and around, each takes the lowest output that it may (§8.1)
unfoldable pub visits : ℕ → (ℕ → ℕ → ℕ) → ℕ → ℕ → Slot
visits N M s zero = record { outputs = λ _. 255; taken = λ _. false }
visits N M s (suc v) = let x = visits N M s v in let i = (v + s) % N in seat x i (lowest N 0 (may M x.taken i))

-- the setting of slot s, all N inputs visited
unfoldable pub slot : (N : ℕ) (M : ℕ → ℕ → ℕ) (s : ℕ) → ℕ → ℕ
slot N M s = (visits N M s N).outputs

-- one record of hold 1 per slot, from slot s on and at most k of them, one slot of each joined pair subtracted, ending when nothing is left
unfoldable pub slots : ℕ → ℕ → ℕ → ℕ → (ℕ → ℕ → ℕ) → List Record
slots W zero N s M = []
slots W (suc k) N s M =
    cond (eqb (sum N (row N M)) 0) [] (record { hold = 1; outputs = tab W 0 (slot N M s) } ∷ slots W k N (suc s) (peel 1 (slot N M s) M))

-- all of them: as many slots as are asked for are enough, since each serves one at least
unfoldable pub quick_from : (W N s : ℕ) (M : ℕ → ℕ → ℕ) → List Record
quick_from W N s M = slots W (sum N (row N M)) N s M

-- the quick cover of demand d: for slot s = 0, 1, ..
unfoldable pub quick_plan : (W N : ℕ) (d : List ℕ) → List Record
quick_plan W N d = quick_from W N 0 (cell N d)

-- what the quick cover is worth: it covers the demand and grants no slot beyond it; each record is held for one slot; and there are T to
-- 2T - 1 records, none where T is 0
pub record Quick (N : ℕ) (d : List ℕ) (p : List Record) : Type 0 where
  pub plan : Plan N p
  pub covers : Covers N (cell N d) p
  pub grants : (i j : ℕ) → i < N → j < N → grant p i j ≡ cell N d i j
  pub held : total p ≡ length p
  pub least : longest N (cell N d) ≤ length p
  pub most : length p ≤ 2 * longest N (cell N d) - 1
