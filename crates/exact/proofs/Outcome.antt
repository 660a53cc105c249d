-- Code 5 is given just where the plan's records do not fit; else what is laid is the plan, whose total is T.
use Rattle.std.specs.Prelude.{Err, Ok, None, Some}
use Rattle.exact.specs.Laying.{Exceeds}
use mathlib.Core.Path.{◌≡◌, refl, sym, ap, ◌∙◌}
use mathlib.Core.List.{List, ◌++◌, map}
use Prim.Native.Nat.{ℕ, ◌+◌, ◌*◌, ◌-◌, ◌/◌, ◌≤◌}
use native.Mathlib.Nat.{le_of_eq}
use native.Mathlib.Omega.{arith}
use lib.ListN.{length}
use Rattle.switch.specs.declared.Refusal.TheVariants.{Room}
use Rattle.switch.specs.Outcome.{Outcome}
use Rattle.switch.specs.declared.Edition.{Edition}
use Rattle.switch.specs.Editions.{Bounded}
use Rattle.switch.specs.Answer.{demand_counts}
use Rattle.switch.specs.Demand.{cell}
use Rattle.switch.specs.Plan.{Record}
use Rattle.switch.specs.Empty.{all_slots, empty_slots}
use Rattle.demand.specs.Lines.{Short}
use Rattle.demand.specs.Check.{check_demand, Asked}
use Rattle.demand.proofs.Check.{fine-asked}
use Rattle.rules.specs.Exact.{exact_plan}
use Rattle.rules.specs.Doubled.{stretch}
use Rattle.rules.proofs.Exact.{exact-total}
use Rattle.rules.proofs.Empty.{exact-empty-slots}
use Rattle.records.specs.Bytes.{bytes, laid}
use Rattle.switch.specs.Result.{Gives}
use Rattle.switch.proofs.Result.{gives}
use Rattle.planner.specs.Planned.{planned}
use Rattle.planner.proofs.Planned.{planned-short, planned-done, written-outcome, written-bytes}
use Rattle.exact.proofs.Fitting.{copied-plan, stretch-once}

module _ (E : Edition) (bounded : Bounded E) (N T : ℕ) (d : List ℕ) (fine : check_demand E.ports N d ≡ Ok T) where
  pub asked : Asked E.ports N T d
  asked = fine-asked E.ports N T d fine

  wide : N ≤ E.width
  wide = omega (arith, asked.few, bounded.ports)

  -- no line of it is over 65,535, and none over T
  pub short : Short N d
  short = record {
    sized = record { few = omega (arith, wide, bounded.width); room = le_of_eq (sym asked.size) };
    lines = omega (arith, asked.longest-is, asked.small);
  }

  abbrev plan : List Record
  plan = exact_plan E.width N d

  -- a working copy w of the demand, and what its count finds
  module _ (buf w z : List ℕ) (copied : w ≡ d ++ z) where
    same-length : length (exact_plan E.width N w) ≡ length plan
    same-length = ap (λ (p : List Record). length p) (copied-plan E bounded N T d w asked z copied)

    -- there is room
    pub enough : ((X : ℕ) → N ≤ X → X ≤ 128 → Exceeds (length buf / (E.width + 4)) (length (exact_plan X N w)) None) → length plan ≤ length buf / (E.width + 4)
    enough lacks = omega (arith, lacks E.width wide bounded.width, same-length)

    pub refuses-room : (need : ℕ) → ((X : ℕ) → N ≤ X → X ≤ 128 → Exceeds (length buf / (E.width + 4)) (length (exact_plan X N w)) (Some need))
        → Gives (planned E N d plan buf) (Err (Room need)) buf
    refuses-room need lacks =
        let m = lacks E.width wide bounded.width in
        gives (planned-short E N d plan buf T fine (omega (arith, m.0, same-length))) (ap {B = Outcome} (λ (k : ℕ). Err (Room k)) (m.1 ∙ same-length)) refl

    -- another working copy, laid
    pub writes-plan : length plan ≤ length buf / (E.width + 4) → (w' z' : List ℕ) → w' ≡ d ++ z' → (records : ℕ) → records ≡ length (exact_plan E.width N w') → (after : List ℕ)
        → after ≡ laid buf 0 (bytes E.byte N (map (stretch 1) (exact_plan E.width N w'))) → (empty : ℕ) → empty ≡ N * T - all_slots N (cell N d)
        → Gives (planned E N d plan buf) (Ok (demand_counts records T T empty)) after
    writes-plan q w' z' copied' records r after a empty x =
        let p = copied-plan E bounded N T d w' asked z' copied' in
        gives (planned-done E N d plan buf T fine q)
        (written-outcome E N T (empty_slots N (cell N d) plan) records T empty plan buf (r ∙ ap length p)
        (asked.longest-is ∙ sym (exact-total E.width N asked.some wide d (le_of_eq (sym asked.size))))
        (x ∙ ap (λ (t : ℕ). N * t - all_slots N (cell N d)) asked.longest-is
        ∙ sym (exact-empty-slots E.width N asked.some wide d (le_of_eq (sym asked.size)))))
        (a ∙ ap (λ (x : List Record). laid buf 0 (bytes E.byte N x)) (stretch-once (exact_plan E.width N w') ∙ p)
        ∙ written-bytes E N T (empty_slots N (cell N d) plan) plan buf)
