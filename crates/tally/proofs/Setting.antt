-- A record inside a plan of width W has W outputs.
use mathlib.Core.Path.{◌≡◌, ap, ◌∙◌}
use mathlib.Core.List.{List}
use Prim.Native.Nat.{ℕ, ◌+◌, ◌<◌}
use native.Mathlib.Omega.{arith}
use lib.ListN.{length, length-drop}
use Rattle.records.specs.Record.{outputs}
use Rattle.records.specs.Bytes.{record_at, whole}
use Rattle.records.proofs.Part.{whole-fits, record-fits, record-size}

module _ (W : ℕ) (plan : List ℕ) (k : ℕ) (l : k < whole W plan) where
  pub record-long : (b : List ℕ) → b ≡ record_at W plan k → length b ≡ W + 4
  record-long b e = ap length e ∙ record-size W plan k (record-fits W plan k (whole W plan) l (whole-fits W plan))

  pub setting-long : (o : List ℕ) → o ≡ outputs (record_at W plan k) → length o ≡ W
  setting-long o e = ap length e ∙ length-drop 4 (record_at W plan k) ∙ (let q : length (record_at W plan k) ≡ W + 4 = record-long (record_at W plan k) (λ _. record_at W plan k) in omega arith)
