-- A plan at the start of a buffer is read as it was written, whatever stands behind it; and each turn of a loop lays one of its records, u times as long.
use mathlib.Core.Path.{◌≡◌, refl, sym, ap, ap₂, ◌∙◌, subst}
use mathlib.Core.List.{List, [], ◌∷◌, ◌++◌, map, append_assoc}
use Prim.Native.Nat.{ℕ, zero, suc, ◌+◌, ◌*◌, ◌-◌, ◌≤◌, ◌<◌}
use native.Mathlib.Omega.{arith}
use native.Mathlib.Nat.{suc-mul, mul-le-mul_right}
use native.Mathlib.Decide.{ℕ_discrete}
use native.Mathlib.Numerals.{add-one}
use lib.ListN.{length, take, drop, length-drop}
use lib.Seq.{take_all}
use Rattle.switch.specs.Plan.{Record, total}
use Rattle.switch.specs.Sound.{Each, none, more, OfWidth}
use Rattle.rules.specs.Doubled.{stretch}
use Rattle.records.specs.Record.{hold, outputs, decoded}
use Rattle.records.specs.Bytes.{encode, record_at, whole, plan_from, bytes, laid}
use Rattle.records.proofs.Bytes.{encode-size}
use Rattle.records.proofs.Part.{whole-fits, record-fits, record-size}
use Rattle.records.proofs.Round.{decoded-encode, first-record, next-plan}
use Rattle.records.proofs.Written.{Written, written_none, written_all, written-room, written_next}
use Rattle.plans.proofs.Plans.{length-plan}
use Rattle.turns.proofs.Both.{stretched-size}
use Rattle.grating.specs.Parts.{stretched, First}

-- ---- a plan at the start of a buffer

before-rest : (e N W : ℕ) {p : List Record} → Each (OfWidth W) p → (t : List ℕ) → plan_from W (bytes e N p ++ t) 0 (length p) ≡ p
unfolding plan_from bytes
before-rest e N W none t = refl
before-rest e N W (more {r = r} {p = p} w s) t =
    let size = encode-size e r.hold N W r.outputs w in
    let head = encode e r.hold N r.outputs in
    ap (λ (l : List ℕ). decoded (record_at W l 0) ∷ plan_from W l 1 (length p)) (append_assoc head (bytes e N p) t)
    ∙ ap₂ ◌∷◌ (ap decoded (first-record W head (bytes e N p ++ t) size) ∙ decoded-encode e r.hold N r.outputs)
    (next-plan W head (bytes e N p ++ t) size 0 (length p) ∙ before-rest e N W s t)

pub laid-reads : (e N W : ℕ) {p : List Record} → Each (OfWidth W) p → (d : List ℕ) → plan_from W (laid d 0 (bytes e N p)) 0 (length p) ≡ p
unfolding laid
laid-reads e N W {p} s d = before-rest e N W s (drop (0 + length (bytes e N p)) d)

-- ---- its records one after the other

-- a record's outputs, as the code takes them
pub part-outputs : (b : List ℕ) → take (length b - 4) (drop 4 b) ≡ outputs b
part-outputs b = take_all (length b - 4) (drop 4 b) (omega (arith, length-drop 4 b))

module _ (W : ℕ) (first : List ℕ) where
  -- no record is held longer than all of them together
  pub hold-small : (m j k : ℕ) → j ≤ k → k < j + m → hold (record_at W first k) ≤ total (plan_from W first j m)
  unfolding plan_from total
  hold-small zero j k a b = absurd (let f : ⊥ = omega arith in f)
  hold-small (suc m) j k a b = go (ℕ_discrete j k) (λ l. hold-small m (suc j) k l (let h : k < suc j + m = omega arith in h))
    where
      go : Dec (j ≡ k) → (suc j ≤ k → hold (record_at W first k) ≤ total (plan_from W first (suc j) m))
          → hold (record_at W first k) ≤ hold (record_at W first j) + total (plan_from W first (suc j) m)
      go (yes e) r = rw (← e) (omega arith)
      go (no e) r = omega (arith, r (omega (arith, e)))

  module _ (u m : ℕ) where
    -- what is left from record k on
    abbrev pub rest : ℕ → List Record
    rest k = map (stretch u) (plan_from W first k (m - k))

    pub rest_all : rest 0 ≡ stretched W u first m
    rest_all = ap (λ (n : ℕ). map (stretch u) (plan_from W first 0 n)) (let e : m - 0 ≡ m = omega arith in e)

    -- record k, u times as long
    abbrev pub longer : ℕ → Record
    longer k = record { hold = hold (record_at W first k) * u; outputs = outputs (record_at W first k) }

    pub rest_more : (k : ℕ) → k < m → rest k ≡ longer k ∷ rest (k + 1)
    rest_more k l = go (m - k) (m - (k + 1)) (omega arith)
      where
        go : (n n' : ℕ) → n ≡ suc n' → map (stretch u) (plan_from W first k n) ≡ longer k ∷ map (stretch u) (plan_from W first (k + 1) n')
        go n n' e = unfold plan_from stretch in rw (e, add-one k)

    pub rest-none : (k : ℕ) → m ≤ k → rest k ≡ []
    rest-none k l = go (m - k) (omega arith)
      where
        go : (n : ℕ) → n ≡ 0 → map (stretch u) (plan_from W first k n) ≡ []
        go n e = unfold plan_from in rw e

    -- the records before k are laid over plan₀ from its start on, and there is room for those left
    abbrev pub Laying : ℕ → ℕ → List ℕ → List ℕ → ℕ → Type 0
    Laying e N plan₀ plan k = Written e N (stretched W u first m) plan₀ 0 (rest k) plan k (k * (W + 4))

-- records at the start of a buffer that has room for them
module _ {W u : ℕ} {first : List ℕ} {m sum : ℕ} (f : First W u first m sum) where
  pub record-long : (k : ℕ) → k < m → length (record_at W first k) ≡ W + 4
  record-long k l = record-size W first k (record-fits W first k (whole W first) (omega (arith, f.room)) (whole-fits W first))

  longer-size : (k : ℕ) → k < m → length (longer W first u m k).outputs ≡ W
  longer-size k l = length-drop 4 (record_at W first k) ∙ omega (arith, record-long k l)

  pub longer-small : (k : ℕ) → k < m → hold (record_at W first k) * u ≤ 65535
  longer-small k l = omega (arith, f.small, mul-le-mul_right u (let h : hold (record_at W first k) ≤ sum = omega (arith, f.sum_is, hold-small W first m 0 k (omega arith) (omega arith)) in h))

  widths : (n k : ℕ) → k + n ≤ m → Each (OfWidth W) (plan_from W first k n)
  unfolding plan_from
  widths zero k l = none
  widths (suc n) k l = more (longer-size k (omega arith)) (widths n (suc k) (let h : suc k + n ≤ m = omega arith in h))

  pub first-widths : Each (OfWidth W) (plan_from W first 0 m)
  first-widths = widths m 0 (omega arith)

  -- ---- laid

  module _ (e N : ℕ) (plan₀ : List ℕ) where
    pub laying-none : m * (W + 4) ≤ length plan₀ → Laying W first u m e N plan₀ plan₀ 0
    laying-none l =
        subst (λ (x : ℕ). Written e N (stretched W u first m) plan₀ 0 (rest W first u m 0) plan₀ 0 x) (let z : 0 ≡ 0 * (W + 4) = omega arith in z)
        (subst (λ (p : List Record). Written e N (stretched W u first m) plan₀ 0 p plan₀ 0 0) (sym (rest_all W first u m))
        (written_none e N (stretched W u first m) plan₀ 0 (omega (arith, stretched-size e N W u first-widths, ap (λ (n : ℕ). n * (W + 4)) (length-plan W first 0 m)))))

    module _ {plan : List ℕ} {k : ℕ} (s : Laying W first u m e N plan₀ plan k) where
      pub laying-all : m ≤ k → plan ≡ laid plan₀ 0 (bytes e N (stretched W u first m))
      laying-all l = (written_all e N (stretched W u first m) plan₀ 0 (rest W first u m k) plan k (k * (W + 4)) s (rest-none W first u m k l)).1

      module _ (l : k < m) where
        more_left : rest W first u m k ≡ longer W first u m k ∷ rest W first u m (k + 1)
        more_left = rest_more W first u m k l

        pub laying-room : k * (W + 4) + (length (longer W first u m k).outputs + 4) ≤ length plan
        laying-room = written-room e N (stretched W u first m) plan₀ 0 (rest W first u m k) plan k (k * (W + 4)) s _ _ more_left

        pub laying-next : {plan' : List ℕ} → plan' ≡ laid plan (k * (W + 4)) (encode e (longer W first u m k).hold N (longer W first u m k).outputs)
            → Laying W first u m e N plan₀ plan' (k + 1)
        laying-next {plan'} put =
            subst (λ (x : ℕ). Written e N (stretched W u first m) plan₀ 0 (rest W first u m (k + 1)) plan' (k + 1) x)
            (let z : k * (W + 4) + (length (longer W first u m k).outputs + 4) ≡ (k + 1) * (W + 4) = omega (arith, longer-size k l, suc-mul k (W + 4), ap (λ (n : ℕ). n * (W + 4)) (add-one k)) in z)
            (written_next e N (stretched W u first m) plan₀ 0 (rest W first u m k) plan k (k * (W + 4)) s _ _ more_left plan' put)
