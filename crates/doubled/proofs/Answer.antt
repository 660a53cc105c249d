-- Each return of the planner is a case of what a planner answers: nothing asked for, no room for both parts, or both parts laid.
use Rattle.std.specs.Prelude.{Err, Ok}
use mathlib.Core.Path.{◌≡◌, refl, sym, ap, ◌∙◌}
use mathlib.Core.List.{List, []}
use Prim.Native.Nat.{ℕ, ◌+◌, ◌*◌, ◌-◌, ◌≤◌, ◌<◌}
use native.Mathlib.Omega.{arith}
use lib.ListN.{length, get_or}
use Rattle.switch.specs.declared.Refusal.TheVariants.{Room}
use Rattle.switch.specs.declared.Edition.{Edition}
use Rattle.switch.specs.Answer.{plan_counts, demand_counts}
use Rattle.switch.specs.Demand.{cell, longest}
use Rattle.switch.specs.Plan.{Record, grant, total}
use Rattle.switch.specs.Empty.{all_slots, empty_slots, AllFull}
use Rattle.switch.proofs.Plan.{least-total}
use Rattle.switch.proofs.Empty.{full-empty, empty-none}
use Rattle.demand.specs.Check.{check_demand}
use Rattle.demand.specs.Lines.{Short}
use Rattle.demand.proofs.Check.{fine-asked}
use Rattle.rules.specs.Exact.{exact_plan}
use Rattle.rules.specs.Doubled.{rotate, Doubled}
use Rattle.rules.proofs.Rotate.{rotate-joins}
use Rattle.rules.proofs.Tight.{by-empty}
use Rattle.rules.proofs.Empty.{parts-full}
use Rattle.records.specs.Bytes.{whole, bytes, laid}
use Rattle.records.proofs.Laid.{laid_none}
use Rattle.records.proofs.Bytes.{bytes-none}
use Rattle.switch.specs.Result.{Gives}
use Rattle.switch.proofs.Result.{gives}
use Rattle.planner.specs.Planned.{planned}
use Rattle.planner.proofs.Planned.{planned-short, planned-done, written-outcome, written-bytes}
use Rattle.turns.specs.declared.Rule.{Rule}
use Rattle.turns.specs.declared.Turning.TheVariants.{Forward}
use Rattle.turns.specs.Second.{holds_by, doubled_rule, parts, Divided, Measures}
use Rattle.peel.specs.Standing.{Cells}
use Rattle.exact.specs.Laying.{Place}
use Rattle.doubled.specs.Parts.{Needs}
use Rattle.turns.proofs.Divided.{asked, wide, sized, within, first-total, first-records}
use Rattle.turns.proofs.Both.{both-records, both-total, both-room}
use Rattle.doubled.proofs.Divided.{quotient-cells}

-- a plan of r records, total t and x empty slots that is laid is the answer
laid-answer : (E : Edition) (N T r t x : ℕ) (d : List ℕ) (p : List Record) (plan plan' : List ℕ) → check_demand E.ports N d ≡ Ok T → length p ≤ whole E.width plan
    → r ≡ length p → t ≡ total p → x ≡ empty_slots N (cell N d) p → plan' ≡ laid plan 0 (bytes E.byte N p)
    → Gives (planned E N d p plan) (Ok (demand_counts r T t x)) plan'
laid-answer E N T r t x d p plan plan' fine fits a b f c =
    gives (planned-done E N d p plan T fine fits) (written-outcome E N T (empty_slots N (cell N d) p) r t x p plan a b f)
    (c ∙ written-bytes E N T (empty_slots N (cell N d) p) p plan)

-- T is 0
pub empty-answer : (r : Rule) (E : Edition) (N : ℕ) (d plan : List ℕ) → check_demand E.ports N d ≡ Ok 0
    → Gives (planned E N d (doubled_rule r Forward E.width N d) plan) (Ok (plan_counts 0 0 0)) plan
empty-answer r E N d plan fine = laid-answer E N 0 0 0 0 d (doubled_rule r Forward E.width N d) plan plan fine
    (omega (arith, ap length none)) (sym (ap length none)) (unfold total in sym (ap total none))
    (sym (ap (empty_slots N (cell N d)) none ∙ empty-none N (cell N d) [] (λ i j _ _. unfold grant in omega arith)))
    (sym (laid_none plan 0) ∙ ap (laid plan 0) (sym (ap (bytes E.byte N) none ∙ bytes-none E.byte N)))
  where
    none : doubled_rule r Forward E.width N d ≡ []
    none = by-empty E.width N (rotate N) (holds_by r Forward N d) d (sym (fine-asked E.ports N 0 d fine).longest-is)

module _ {E : Edition} {N T u : ℕ} {d q H : List ℕ} (v : Divided E N T u d q) {turns sum : ℕ} (m : Measures N H turns sum) (plan : List ℕ) where
  records : length (parts Forward E.width N u q H) ≡ length (exact_plan E.width N q) + turns
  records = omega (arith, both-records Forward E.width N u (exact_plan E.width N q) H, m.count E.width (rotate N))

  module _ {need : ℕ} (s : Needs (whole E.width plan) need (length (exact_plan E.width N q) + turns)) where
    -- code 5, with the records needed
    pub short-answer : whole E.width plan < need
        → Gives (planned E N d (parts Forward E.width N u q H) plan) (Err (Room need)) plan
    short-answer l =
        let n : need ≡ length (parts Forward E.width N u q H) = omega (arith, s.short l, records) in
        gives (planned-short E N d (parts Forward E.width N u q H) plan T v.fine (omega (arith, n))) (ap (λ (k : ℕ). Err (Room k)) n) refl

    -- there is room, and the quotients are as they were
    module _ (l : need ≤ whole E.width plan) {S : ℕ} (longest-is : S ≡ longest N (cell N q)) {q' : List ℕ} (same : q' ≡ q) where
      fits : length (parts Forward E.width N u q H) ≤ whole E.width plan
      fits = omega (arith, s.fits l, records)

      pub ready : Cells N S q' × Place N S u E.width 0 (parts Forward E.width N u q' H) plan
      ready = rw same (quotient-cells v longest-is, place)
        where
          place : Place N S u E.width 0 (parts Forward E.width N u q H) plan
          place = record {
            wide = wide v;
            narrow = v.bounded.width;
            fits = omega (arith, within v longest-is, (asked v).small);
            room = omega (arith, both-room Forward E.width N u (exact_plan E.width N q) H plan fits);
          }

      pub first-few : {r : ℕ} → r ≡ length (exact_plan E.width N q') → r ≤ S
      first-few e = omega (arith, e ∙ ap (λ (x : List ℕ). length (exact_plan E.width N x)) same, first-records v longest-is)

      -- what both come to
      pub counted-total : S * u + sum ≡ total (parts Forward E.width N u q H)
      counted-total = omega (arith, both-total Forward E.width N u (exact_plan E.width N q) H, ap (λ (k : ℕ). k * u) (first-total v longest-is), m.held E.width (rotate N))

      -- T is no more than that, and twice T is
      pub both-counted : Doubled N d (parts Forward E.width N u q H) → Short N d × (longest N (cell N d) ≤ S * u + sum) × (S * u + sum ≤ 131070)
      both-counted k =
          let a = asked v in (
            record { sized = record { few = omega (arith, wide v, v.bounded.width); room = omega (arith, a.size) }; lines = omega (arith, a.longest-is, a.small) },
            omega (arith, counted-total, least-total N (cell N d) (parts Forward E.width N u q H) k.plan k.covers),
            omega (arith, counted-total, k.short, a.longest-is, a.small),
          )

      -- both parts are laid, and x slots of them are empty
      pub both-answer : Doubled N d (parts Forward E.width N u q H) → {r : ℕ} → r ≡ length (exact_plan E.width N q')
          → {plan' : List ℕ} → plan' ≡ laid plan 0 (bytes E.byte N (parts Forward E.width N u q' H)) → {x : ℕ} → x ≡ N * (S * u + sum) - all_slots N (cell N d)
          → Gives (planned E N d (parts Forward E.width N u q H) plan) (Ok (demand_counts (r + turns) T (S * u + sum) x)) plan'
      both-answer k {r} count {plan'} put {x} f = laid-answer E N T (r + turns) (S * u + sum) x d (parts Forward E.width N u q H) plan plan' v.fine fits
          (omega (arith, count ∙ ap (λ (x : List ℕ). length (exact_plan E.width N x)) same, records))
          counted-total
          (omega (arith, f, ap (λ (t : ℕ). N * t) counted-total, full-empty N (cell N d) full k.covers))
          (put ∙ ap (λ (x : List ℕ). laid plan 0 (bytes E.byte N (parts Forward E.width N u x H))) same)
        where
          full : AllFull N (parts Forward E.width N u q H)
          full = parts-full E.width N (asked v).some (wide v) q (sized v).room (rotate N) (rotate-joins N (asked v).some) u (λ i. get_or H i 0)
