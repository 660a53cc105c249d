-- The two parts, the first as it stands in a buffer: what is counted, and both laid, are the plan's records, total and bytes.
use mathlib.Core.Path.{◌≡◌, sym, ap}
use mathlib.Core.List.{List}
use Prim.Native.Nat.{ℕ, ◌+◌, ◌*◌, ◌≤◌}
use native.Mathlib.Omega.{arith}
use lib.ListN.{length}
use Rattle.switch.specs.Plan.{total}
use Rattle.records.specs.Bytes.{plan_from, whole, bytes, laid}
use Rattle.plans.proofs.Plans.{length-plan}
use Rattle.turns.specs.declared.Turning.TheVariants.{Backward}
use Rattle.turns.specs.Second.{turn, second, Measures}
use Rattle.turns.proofs.Both.{both-records, both-total, both-room, first-room, second-room, second-laid}
use Rattle.grating.specs.Parts.{stretched, made_parts, First}
use Rattle.grating.proofs.First.{first-widths}

module _ {W N u : ℕ} {first : List ℕ} {m sum : ℕ} (f : First W u first m sum) {H : List ℕ} {turns held : ℕ} (s : Measures N H turns held) where
  pub made-records : m + turns ≡ length (made_parts W N u first m H)
  made-records = omega (arith, both-records Backward W N u (plan_from W first 0 m) H, length-plan W first 0 m, s.count W (turn Backward N))

  pub made-total : sum * u + held ≡ total (made_parts W N u first m H)
  made-total = omega (arith, both-total Backward W N u (plan_from W first 0 m) H, ap (λ (x : ℕ). x * u) f.sum_is, s.held W (turn Backward N))

  -- there is room for both
  module _ (plan : List ℕ) (fits : m + turns ≤ whole W plan) where
    room : length (made_parts W N u first m H) * (W + 4) ≤ length plan
    room = both-room Backward W N u (plan_from W first 0 m) H plan (omega (arith, fits, made-records))

    pub made-first : m * (W + 4) ≤ length plan
    made-first = omega (arith, first-room Backward W N u (plan_from W first 0 m) H plan room, ap (λ (k : ℕ). k * (W + 4)) (length-plan W first 0 m))

    -- the first is laid
    module _ (e : ℕ) {plan₁ : List ℕ} (put : plan₁ ≡ laid plan 0 (bytes e N (stretched W u first m))) where
      pub made-second : m * (W + 4) + length (second Backward W N H) * (W + 4) ≤ length plan₁
      made-second = second-room Backward W N u (plan_from W first 0 m) H plan room (first-widths f) e put (sym (length-plan W first 0 m))

      pub made-laid : laid plan₁ (m * (W + 4)) (bytes e N (second Backward W N H)) ≡ laid plan 0 (bytes e N (made_parts W N u first m H))
      made-laid = second-laid Backward W N u (plan_from W first 0 m) H plan room (first-widths f) e put (sym (length-plan W first 0 m))
