-- Plans of sound records: their bytes are well-formed records, and well-formed records are sound ones.
use mathlib.Core.Path.{◌≡◌, ap, ◌∙◌, subst}
use mathlib.Core.Bool.{Bool, true}
use mathlib.Core.List.{List}
use Prim.Native.Nat.{ℕ, zero, suc, ◌+◌, ◌*◌, ◌<◌, ◌≤◌}
use native.Mathlib.Nat.{le_of_suc-le-suc, not-suc-le-zero}
use native.Mathlib.Omega.{arith}
use lib.ListN.{length}
use Rattle.switch.specs.Plan.{Record}
use Rattle.switch.specs.Sound.{Sound, Each, none, more}
use Rattle.records.specs.Record.{well_formed}
use Rattle.records.specs.Bytes.{encode, record_at, plan_from, bytes}
use Rattle.records.proofs.Bytes.{encode-size}
use Rattle.records.proofs.Part.{record-fits, record-size}
use Rattle.records.proofs.Round.{first-record, next-record}
use Rattle.records.proofs.Meaning.{means, encode-sound}

-- is record k of a plan well formed?
abbrev pub fine : ℕ → ℕ → ℕ → List ℕ → ℕ → Bool
fine W e N plan k = well_formed W e N (record_at W plan k)

-- records that are well formed are sound
pub plan-sound : (W e N : ℕ) (plan : List ℕ) → N ≤ W → N ≤ 255 → (m k : ℕ) → (k + m) * (W + 4) ≤ length plan → ((j : ℕ) → k ≤ j → j < k + m → fine W e N plan j ≡ true) → Each (Sound W N) (plan_from W plan k m)
unfolding plan_from
plan-sound W e N plan few small zero k fits h = none
plan-sound W e N plan few small (suc m) k fits h =
    more (means W e N (record_at W plan k) (record-size W plan k (record-fits W plan k (k + suc m) (omega arith) fits)) few small (h k (omega arith) (omega arith))).sound
    (plan-sound W e N plan few small m (suc k) (subst (λ (n : ℕ). n * (W + 4) ≤ length plan) (let q : k + suc m ≡ suc k + m = omega arith in q) fits) (λ j a b. h j (omega arith) (omega arith)))

-- every record of a sound plan's bytes is well formed
pub bytes-fine : (W e N : ℕ) → N ≤ W → N ≤ 255 → {p : List Record} → Each (Sound W N) p → (k : ℕ) → k < length p → well_formed W e N (record_at W (bytes e N p) k) ≡ true
unfolding bytes
bytes-fine W e N few small none k l = absurd (not-suc-le-zero l)
bytes-fine W e N few small (more {r = r} {p = p} s t) zero l =
    ap (well_formed W e N) (first-record W (encode e r.hold N r.outputs) (bytes e N p) (encode-size e r.hold N W r.outputs s.size)) ∙ encode-sound W e N r few small s
bytes-fine W e N few small (more {r = r} {p = p} s t) (suc k) l =
    ap (well_formed W e N) (next-record W (encode e r.hold N r.outputs) (bytes e N p) (encode-size e r.hold N W r.outputs s.size) k)
    ∙ bytes-fine W e N few small t k (le_of_suc-le-suc l)
