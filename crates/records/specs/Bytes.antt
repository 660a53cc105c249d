-- Plans as bytes (§5.1): one record after the other, W outputs and W + 4 bytes each. Definitions only.
use Rattle.std.specs.Prelude.{List, [], ◌∷◌, ◌++◌, ℕ, zero, suc, ◌+◌, ◌*◌, ◌/◌, ◌%◌, length, take, drop}
use Rattle.switch.specs.Plan.{Record}
use Rattle.records.specs.Record.{decoded}

-- a record's bytes: hold in two bytes, low first; N; the edition's byte; the outputs
abbrev pub encode : (e hold N : ℕ) (outputs : List ℕ) → List ℕ
encode e hold N outputs = hold % 256 ∷ hold / 256 ∷ N ∷ e ∷ outputs

-- record k of a plan; records are counted from 0
abbrev pub record_at : (W : ℕ) (plan : List ℕ) (k : ℕ) → List ℕ
record_at W plan k = take (W + 4) (drop (k * (W + 4)) plan)

-- how many whole records a plan's bytes have
abbrev pub whole : (W : ℕ) (plan : List ℕ) → ℕ
whole W plan = length plan / (W + 4)

-- m records of a plan from record k on
unfoldable pub plan_from : ℕ → List ℕ → ℕ → ℕ → List Record
plan_from W plan k zero = []
plan_from W plan k (suc m) = decoded (record_at W plan k) ∷ plan_from W plan (suc k) m

-- the records of a plan, in their order
abbrev pub plan_of : (W : ℕ) (plan : List ℕ) → List Record
plan_of W plan = plan_from W plan 0 (whole W plan)

-- the bytes of a plan
unfoldable pub bytes : ℕ → ℕ → List Record → List ℕ
bytes e N [] = []
bytes e N (r ∷ p) = encode e r.hold N r.outputs ++ bytes e N p

-- d with s laid over it from at on
unfoldable pub laid : (d : List ℕ) (at : ℕ) (s : List ℕ) → List ℕ
laid d at s = take at d ++ s ++ drop (at + length s) d
