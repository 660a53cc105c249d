-- The exact call takes the quotients and has room for its plan of them, so what it writes reads back as that plan; and that, each record u
-- times as long, is the first part.
use Rattle.std.specs.Prelude.{Err, Ok}
use Rattle.switch.specs.declared.Refusal.{Refusal}
use mathlib.Core.Path.{◌≡◌, refl, sym, ap, ap₂, ◌∙◌}
use mathlib.Core.List.{List, ◌++◌, map}
use Prim.Native.Nat.{ℕ, ◌+◌, ◌*◌, ◌/◌, ◌≤◌}
use native.Mathlib.Omega.{arith}
use lib.ListN.{length}
use Rattle.switch.specs.declared.Edition.{Edition}
use Rattle.switch.specs.declared.Counts.{Counts}
use Rattle.switch.specs.Outcome.{Outcome}
use Rattle.switch.specs.Answer.{demand_counts, counts_of}
use Rattle.switch.specs.Empty.{empty_slots}
use Rattle.switch.specs.Demand.{cell, longest}
use Rattle.switch.specs.Plan.{Record, total}
use Rattle.switch.proofs.Check.{some-ports}
use Rattle.switch.proofs.Sound.{each_width}
use Rattle.demand.proofs.Check.{fine}
use Rattle.rules.specs.Exact.{tab, exact_plan}
use Rattle.rules.specs.Doubled.{stretch}
use Rattle.rules.proofs.Sound.{exact-sound}
use Rattle.records.specs.Bytes.{plan_from, whole, bytes, laid}
use Rattle.switch.specs.Result.{Result}
use Rattle.planner.specs.Planned.{planned, writes}
use Rattle.planner.proofs.Planned.{planned-done, written-bytes}
use Rattle.turns.specs.declared.Rule.TheVariants.{Tight}
use Rattle.turns.specs.declared.Turning.TheVariants.{Backward}
use Rattle.turns.specs.Second.{holds_by, second, Divided}
use Rattle.turns.proofs.Divided.{asked, wide, size, sized, within, within-ports, small, first-total, first-records, rule-parts}
use Rattle.grating.specs.Grating.{grating_plan}
use Rattle.grating.specs.Parts.{made_parts, First}
use Rattle.grating.proofs.First.{laid-reads}

module _ {E : Edition} {N T u : ℕ} {d q : List ℕ} (v : Divided E N T u d q) where
  -- the quotients' T
  abbrev S : ℕ
  S = longest N (cell N q)

  abbrev plan : List Record
  plan = exact_plan E.width N q

  few : length plan ≤ E.ports
  few = omega (arith, first-records v refl, within-ports v refl, (asked v).few)

  module _ (buf : List ℕ) (room : E.ports ≤ whole E.width buf) where
    written : planned E N q plan buf ≡ writes E N S (empty_slots N (cell N q) plan) plan buf
    written = planned-done E N q plan buf S (sym (fine E.ports N q (some-ports E.ports N (asked v).some (asked v).few) (size v) (small v refl))) (omega (arith, few, room))

    -- the exact call refuses nothing
    pub unrefused : {o : Outcome} {r : Refusal} → o ≡ (planned E N q plan buf).outcome → o ≡ Err r → ⊥
    unfolding writes
    unrefused {o} outcome-is e =
        let done : o ≡ Ok (demand_counts (length plan) S (total plan) (empty_slots N (cell N q) plan)) = outcome-is ∙ ap (λ (x : Result). x.outcome) written in
        let z : ◌≡◌ {A = ℕ} 0 1 = cc in omega arith

    -- what the exact call leaves
    module _ {o : Outcome} {after : List ℕ} {c : Counts} (outcome-is : o ≡ (planned E N q plan buf).outcome) (bytes-are : after ≡ (planned E N q plan buf).bytes)
        (counts-are : c ≡ counts_of o) where
      counts : c ≡ demand_counts (length plan) S (total plan) (empty_slots N (cell N q) plan)
      unfolding writes
      counts = counts-are ∙ ap counts_of (outcome-is ∙ ap (λ (x : Result). x.outcome) written)

      left : after ≡ laid buf 0 (bytes E.byte N plan)
      left = bytes-are ∙ ap (λ (x : Result). x.bytes) written ∙ sym (written-bytes E N S (empty_slots N (cell N q) plan) plan buf)

      records-are : c.records ≡ length plan
      records-are = ap (λ (x : Counts). x.records) counts

      total-is : c.total ≡ total plan
      total-is = ap (λ (x : Counts). x.total) counts

      reads : plan_from E.width after 0 c.records ≡ plan
      reads =
          ap₂ (λ (l : List ℕ) (n : ℕ). plan_from E.width l 0 n) left records-are
          ∙ laid-reads E.byte N E.width (each_width E.width N (exact-sound E.width N (wide v) (asked v).some q (sized v).room)) buf

      pub first_part : length after ≡ length buf → First E.width u after c.records c.total
      first_part same = record {
        few = omega (arith, records-are, few, v.bounded.ports);
        room = omega (arith, records-are, few, room, ap (λ (n : ℕ). n / (E.width + 4)) same);
        sum_is = total-is ∙ ap total (sym reads);
        small = omega (arith, ap (λ (x : ℕ). x * u) (total-is ∙ first-total v refl), within v refl, (asked v).small);
      }

      pub whole-plan : (H : List ℕ) → H ≡ tab N 0 (holds_by Tight Backward N d u) → made_parts E.width N u after c.records H ≡ grating_plan E.width N d
      unfolding grating_plan
      whole-plan H e = ap (λ (l : List Record). map (stretch u) l ++ second Backward E.width N H) reads ∙ sym (rule-parts v Tight Backward H e)
