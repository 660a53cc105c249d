-- A larger batch: what the exact call gives where every cell is multiplied by k. Definitions only.
use Rattle.std.specs.Prelude.{Err, Ok}
use Rattle.std.specs.Prelude.{◌≡◌, List, map, ℕ, ◌*◌, ◌≤◌}
use Rattle.switch.specs.declared.Counts.{Counts}
use Rattle.switch.specs.Outcome.{Outcome}
use Rattle.switch.specs.declared.Edition.{Edition}
use Rattle.switch.specs.Answer.{demand_counts}
use Rattle.switch.specs.Demand.{cell, longest}
use Rattle.records.specs.Bytes.{bytes, laid}
use Rattle.rules.specs.Exact.{exact_plan}
use Rattle.rules.specs.Doubled.{stretch}
use Rattle.rules.specs.Larger.{multiplied}
use Rattle.switch.specs.Result.{Result}
use Rattle.planner.specs.Planned.{planned}

-- what the exact call gives, in any edition
abbrev pub exact_given : Edition → (N : ℕ) (d buf : List ℕ) → Result
exact_given E N d buf = planned E N d (exact_plan E.width N d) buf

-- as many records, and T, total and empty slots multiplied by k
abbrev pub larger_counts : (k : ℕ) (c : Counts) → Counts
larger_counts k c = demand_counts c.records (c.longest * k) (c.total * k) (c.empty * k)

-- an outcome is done where it was done, and refused as it was refused: code 5 at the same place
abbrev pub larger : ℕ → Outcome → Outcome
larger k (Ok c) = Ok (larger_counts k c)
larger k (Err r) = Err r

-- what is left in the buffer: the same records with every hold multiplied by k, or the buffer as it was
abbrev pub larger_bytes : Outcome → Edition → (N k : ℕ) (d buf : List ℕ) → List ℕ
larger_bytes (Ok c) E N k d buf = laid buf 0 (bytes E.byte N (map (stretch k) (exact_plan E.width N d)))
larger_bytes (Err r) E N k d buf = buf

-- k is 1 or more, and T times k no more than a line may be: outcome and bytes for the multiplied demand, from those for the demand
pub record LargerCall (E : Edition) : Type 0 where
  pub outcome : (N k : ℕ) (d buf : List ℕ) → 1 ≤ k → longest N (cell N d) * k ≤ 65535
      → (exact_given E N (multiplied k d) buf).outcome ≡ larger k (exact_given E N d buf).outcome
  pub bytes : (N k : ℕ) (d buf : List ℕ) → 1 ≤ k → longest N (cell N d) * k ≤ 65535
      → (exact_given E N (multiplied k d) buf).bytes ≡ larger_bytes (exact_given E N d buf).outcome E N k d buf
