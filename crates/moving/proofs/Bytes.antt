-- A plan's bytes are those of its records, one behind the other, since each well-formed record is written as the bytes that it was read from.
use mathlib.Core.Path.{◌≡◌, sym, ap, ap₂, ◌∙◌, subst}
use mathlib.Core.Bool.{true}
use mathlib.Core.List.{List, ◌++◌}
use Prim.Native.Nat.{ℕ, zero, suc, ◌+◌, ◌*◌, ◌<◌, ◌≤◌}
use native.Mathlib.Nat.{suc-mul, zero-mul, div-add-mod'}
use native.Mathlib.Omega.{arith}
use lib.ListN.{length, get_or, take, drop}
use lib.Seq.{take_all, take-add, drop-drop, get_or-take, get_or-drop}
use Rattle.switch.specs.declared.Counts.{Counts}
use Rattle.switch.specs.declared.Edition.{Edition}
use Rattle.switch.specs.Editions.{Bounded}
use Rattle.records.specs.Record.{well_formed, hold, outputs}
use Rattle.records.specs.Bytes.{encode, record_at, whole, plan_from, plan_of, bytes}
use Rattle.records.proofs.Meaning.{means}
use Rattle.records.proofs.Part.{record-fits, record-size}
use Rattle.records.proofs.Round.{encode-decoded}
use Rattle.plans.proofs.Plans.{Checked}

module _ (W e N : ℕ) (plan : List ℕ) (few : N ≤ W) (small : N ≤ 255) (byte : (i : ℕ) → get_or plan i 0 < 256) where
  record_same : (k : ℕ) → k * (W + 4) + (W + 4) ≤ length plan → well_formed W e N (record_at W plan k) ≡ true
      → encode e (hold (record_at W plan k)) N (outputs (record_at W plan k)) ≡ record_at W plan k
  record_same k fits fine =
      let b = record_at W plan k in
      let size = record-size W plan k fits in
      let m = means W e N b size few small fine in
      encode-decoded e N b (omega (arith, size))
      (rw (get_or-take (W + 4) (drop (k * (W + 4)) plan) 0 0 (omega arith), get_or-drop (k * (W + 4)) plan 0 0) (byte (k * (W + 4) + 0)))
      m.ports m.edition

  bytes-from : (m k : ℕ) → (k + m) * (W + 4) ≤ length plan → ((j : ℕ) → k ≤ j → j < k + m → well_formed W e N (record_at W plan j) ≡ true)
      → bytes e N (plan_from W plan k m) ≡ take (m * (W + 4)) (drop (k * (W + 4)) plan)
  unfolding bytes plan_from
  bytes-from zero k fits fine = sym (ap (λ (n : ℕ). take n (drop (k * (W + 4)) plan)) (zero-mul (W + 4)))
  bytes-from (suc m) k fits fine =
      ap₂ ◌++◌ (record_same k (record-fits W plan k (k + suc m) (omega arith) fits) (fine k (omega arith) (omega arith)))
      (bytes-from m (suc k) (subst (λ (n : ℕ). n * (W + 4) ≤ length plan) (let q : k + suc m ≡ suc k + m = omega arith in q) fits) (λ j a b. fine j (omega arith) (omega arith)))
      ∙ ap (λ (l : List ℕ). record_at W plan k ++ take (m * (W + 4)) l)
      (ap (λ (n : ℕ). drop n plan) (let q : suc k * (W + 4) ≡ k * (W + 4) + (W + 4) = omega (arith, suc-mul k (W + 4)) in q) ∙ sym (drop-drop (W + 4) (k * (W + 4)) plan))
      ∙ sym (take-add (W + 4) (m * (W + 4)) (drop (k * (W + 4)) plan))
      ∙ ap (λ (n : ℕ). take n (drop (k * (W + 4)) plan)) (let q : W + 4 + m * (W + 4) ≡ suc m * (W + 4) = omega (arith, suc-mul m (W + 4)) in q)

-- a plan that no check refuses
module _ (E : Edition) (bounds : Bounded E) (N : ℕ) (plan : List ℕ) (c : Counts) (known : Checked E N plan c) (byte : (i : ℕ) → get_or plan i 0 < 256) where
  abbrev W : ℕ
  W = E.width

  abbrev m : ℕ
  m = whole W plan

  all : m * (W + 4) ≡ length plan
  all = omega (arith, div-add-mod' (length plan) (W + 4), known.even)

  pub bytes-plan : bytes E.byte N (plan_of W plan) ≡ plan
  bytes-plan =
      bytes-from W E.byte N plan (omega (arith, known.few, bounds.ports)) (omega (arith, known.few, bounds.ports, bounds.width)) byte m 0
      (omega (arith, all, ap (λ (n : ℕ). n * (W + 4)) (let q : 0 + m ≡ m = omega arith in q))) (λ j _ l. known.formed j (omega arith))
      ∙ ap (λ (n : ℕ). take (m * (W + 4)) (drop n plan)) (zero-mul (W + 4))
      ∙ take_all (m * (W + 4)) plan (omega (arith, all))
