-- What was written reads back: a record's hold is its two bytes again, and record k of a plan's bytes stands k records behind their start.
use mathlib.Core.Path.{◌≡◌, refl, sym, ap, ap₂, ◌∙◌}
use mathlib.Core.List.{List, ◌∷◌, ◌++◌}
use Prim.Native.Nat.{ℕ, zero, suc, ◌+◌, ◌*◌, ◌/◌, ◌%◌, ◌<◌, ◌≤◌}
use native.Mathlib.Nat.{suc-mul, zero-mul, mul-div_left, not-suc-le-zero, le_of_suc-le-suc}
use native.Mathlib.Omega.{arith}
use lib.ListN.{length, get_or, take, drop}
use lib.Seq.{take_at, drop_at, drop-drop, drop-cons}
use Rattle.switch.specs.Plan.{Record}
use Rattle.records.specs.Record.{hold, decoded}
use Rattle.switch.specs.Sound.{Each, none, more, OfWidth}
use Rattle.records.specs.Bytes.{encode, record_at, plan_from, plan_of, bytes}
use Rattle.records.proofs.Bytes.{encode-size, bytes-size}

-- what was written is read back with its hold and its outputs (§5.9)
pub decoded-encode : (e h N : ℕ) (o : List ℕ) → decoded (encode e h N o) ≡ record { hold = h; outputs = o }
decoded-encode e h N o = ap {B = Record} (λ (k : ℕ). record { hold = k; outputs = o }) (let same : h % 256 + 256 * (h / 256) ≡ h = omega arith in same)

-- what was read, written anew, is the same bytes (§5.9)
pub encode-decoded : (e N : ℕ) (b : List ℕ) → 4 ≤ length b → get_or b 0 0 < 256 → get_or b 2 0 ≡ N → get_or b 3 0 ≡ e → encode e (hold b) N (drop 4 b) ≡ b
encode-decoded e N b long byte ports edition =
    let lo : hold b % 256 ≡ get_or b 0 0 = omega arith in
    let hi : hold b / 256 ≡ get_or b 1 0 = omega arith in
    cc whole
  where
    whole : b ≡ get_or b 0 0 ∷ get_or b 1 0 ∷ get_or b 2 0 ∷ get_or b 3 0 ∷ drop 4 b
    whole = drop-cons b 0 0 (omega arith)
        ∙ ap (λ (l : List ℕ). get_or b 0 0 ∷ l) (drop-cons b 1 0 (omega arith)
        ∙ ap (λ (l : List ℕ). get_or b 1 0 ∷ l) (drop-cons b 2 0 (omega arith)
        ∙ ap (λ (l : List ℕ). get_or b 2 0 ∷ l) (drop-cons b 3 0 (omega arith))))

module _ (W : ℕ) (s t : List ℕ) (size : length s ≡ W + 4) where
  pub first-record : record_at W (s ++ t) 0 ≡ s
  first-record = ap (λ (k : ℕ). take (W + 4) (drop k (s ++ t))) (zero-mul (W + 4)) ∙ take_at s t (W + 4) size

  pub next-record : (k : ℕ) → record_at W (s ++ t) (suc k) ≡ record_at W t k
  next-record k =
      ap (λ (j : ℕ). take (W + 4) (drop j (s ++ t))) (let e : suc k * (W + 4) ≡ W + 4 + k * (W + 4) = omega (arith, suc-mul k (W + 4)) in e)
      ∙ ap (take (W + 4)) (sym (drop-drop (k * (W + 4)) (W + 4) (s ++ t)) ∙ ap (drop (k * (W + 4))) (drop_at s t (W + 4) size))

  pub next-plan : (k m : ℕ) → plan_from W (s ++ t) (suc k) m ≡ plan_from W t k m
  unfolding plan_from
  next-plan k zero = refl
  next-plan k (suc m) = ap₂ (λ (b : List ℕ) (p : List Record). decoded b ∷ p) (next-record k) (next-plan (suc k) m)

-- record k of a plan's bytes; d stands for what is read past the plan's end
pub record-bytes : (e N W : ℕ) {p : List Record} → Each (OfWidth W) p → (k : ℕ) → k < length p → (d : Record) → record_at W (bytes e N p) k ≡ encode e (get_or p k d).hold N (get_or p k d).outputs
unfolding bytes
record-bytes e N W none k l d = absurd (not-suc-le-zero l)
record-bytes e N W (more {r = r} {p = p} w s) zero l d = first-record W (encode e r.hold N r.outputs) (bytes e N p) (encode-size e r.hold N W r.outputs w)
record-bytes e N W (more {r = r} {p = p} w s) (suc k) l d =
    next-record W (encode e r.hold N r.outputs) (bytes e N p) (encode-size e r.hold N W r.outputs w) k ∙ record-bytes e N W s k (le_of_suc-le-suc l) d

-- the records of a plan's bytes
pub plan-records : (e N W : ℕ) {p : List Record} → Each (OfWidth W) p → plan_from W (bytes e N p) 0 (length p) ≡ p
unfolding plan_from bytes
plan-records e N W none = refl
plan-records e N W (more {r = r} {p = p} w s) =
    let size = encode-size e r.hold N W r.outputs w in
    ap₂ ◌∷◌ (ap decoded (first-record W (encode e r.hold N r.outputs) (bytes e N p) size) ∙ decoded-encode e r.hold N r.outputs)
    (next-plan W (encode e r.hold N r.outputs) (bytes e N p) size 0 (length p) ∙ plan-records e N W s)

-- a plan's bytes hold just its records
pub whole-bytes : (e N W : ℕ) {p : List Record} → Each (OfWidth W) p → length (bytes e N p) / (W + 4) ≡ length p
whole-bytes e N W {p} s = ap (λ (l : ℕ). l / (W + 4)) (bytes-size e N W s) ∙ mul-div_left (length p) {n = W + 4} (omega arith)

-- a written plan reads back as the same plan
pub plan_of-bytes : (e N W : ℕ) {p : List Record} → Each (OfWidth W) p → plan_of W (bytes e N p) ≡ p
plan_of-bytes e N W {p} s = ap (plan_from W (bytes e N p) 0) (whole-bytes e N W s) ∙ plan-records e N W s
