-- A planner's contract is one of two results: a refusal, where the demand or the buffer is not taken, or the plan's bytes at the buffer's start,
-- which every reader reads back as the plan.
use Rattle.std.specs.Prelude.{Err, Ok}
use mathlib.Core.Path.{◌≡◌, refl, sym, ap, ◌∙◌, subst}
use mathlib.Core.List.{List}
use Prim.Native.Nat.{ℕ, ◌+◌, ◌*◌, ◌<◌, ◌≤◌}
use native.Mathlib.Nat.{mul-le-mul}
use native.Mathlib.Decide.{dec_lt}
use native.Mathlib.Omega.{arith}
use lib.ListN.{length, take, drop}
use Rattle.switch.specs.declared.Counts.{Counts}
use Rattle.switch.specs.Outcome.{Outcome}
use Rattle.switch.specs.declared.Refusal.{Refusal}
use Rattle.switch.specs.declared.Refusal.TheVariants.{Longest, Room}
use Rattle.switch.specs.Answer.{code_of, counts_of, demand_counts}
use Rattle.switch.specs.Demand.{cell, longest}
use Rattle.switch.specs.Plan.{Record, total, Covers}
use Rattle.switch.specs.Sound.{Each, Sound}
use Rattle.switch.specs.Empty.{empty_slots}
use Rattle.switch.proofs.Answer.{code-done}
use Rattle.switch.proofs.Sound.{each_width}
use Rattle.demand.specs.Checked.{Checked}
use Rattle.demand.specs.Check.{check_demand}
use Rattle.demand.proofs.Check as demand
use Rattle.records.specs.Bytes.{whole, bytes, laid, plan_of}
use Rattle.records.proofs.Bytes.{bytes-size}
use Rattle.records.proofs.Part.{whole-fits}
use Rattle.records.proofs.Round.{plan_of-bytes}
use Rattle.records.proofs.Laid.{length-laid}
use Rattle.switch.specs.declared.Edition.{Edition}
use Rattle.switch.specs.Editions.{first_edition, second_edition}
use Rattle.switch.proofs.Editions.{first-bounded, second-bounded}
use Rattle.switch.specs.Result.{Result, refuses}
use Rattle.planner.specs.Planned.{writes, planned, planned_up_to}
use Rattle.planner.proofs.Planned.{planned-faulty, planned-short, planned-done, limited-faulty, limited-long, limited-short, limited-done}
use Rattle.checker.specs.Check.{check_plan}
use Rattle.checker.proofs.Passes.{sound-passes}
use Rattle.promises.proofs.Laid.{laid-front, laid-behind}
use Rattle.promises.proofs.Outcomes.{never}
use Rattle.promises.proofs.Fair.{fair-longest, fair-fine, fine-fair, not-fine, faulty-fault}
use Rattle.promises.specs.Planner.{Serves, Fair, Taken, Why, faulty, over-limit, no_room, counted, part_of, plan_in, Delivers, Plans}

-- ---- the two results

-- a refusal with its reason, where something is not taken; or the plan written, where all is
data Results (E : Edition) (most N : ℕ) (d : List ℕ) (p : List Record) (buf : List ℕ) : Result → Type 0 where
  refused : (f : Refusal) → (Taken E most N d p buf → ⊥) → Why E most N d p buf f → Results E most N d p buf (refuses f buf)
  written : Taken E most N d p buf → Results E most N d p buf (writes E N (longest N (cell N d)) (empty_slots N (cell N d) p) p buf)

module _ (E : Edition) (N : ℕ) (d : List ℕ) (p : List Record) (buf : List ℕ) where
  -- a demand that is checked
  module _ (most : ℕ) (few : most ≤ 65535) (T : ℕ) (q : Ok T ≡ check_demand E.ports N d) where
    longest-is : T ≡ longest N (cell N d)
    longest-is = (demand.fine-asked E.ports N T d (sym q)).longest-is

    fits : T ≤ most → length p ≤ whole E.width buf
        → {x : Result} → x ≡ writes E N T (empty_slots N (cell N d) p) p buf → Results E most N d p buf x
    fits l room e =
        subst (Results E most N d p buf) (sym (e ∙ ap (λ (t : ℕ). writes E N t (empty_slots N (cell N d) p) p buf) longest-is))
        (written (record { fair = fine-fair E N d T most q l; room = room }))

    long : most < T → Taken E most N d p buf → ⊥
    long l t = omega (arith, l, fair-longest E N d t.fair, longest-is)

  faulty-not : (most : ℕ) → most ≤ 65535 → (f : Refusal) → Err f ≡ check_demand E.ports N d → Taken E most N d p buf → ⊥
  faulty-not most few f q t = not-fine E N d (q ∙ sym (fair-fine E N d few t.fair))

  limited-results : (most : ℕ) → most ≤ 65535 → Results E most N d p buf (planned_up_to most E N d p buf)
  limited-results most few = by-demand (check_demand E.ports N d) refl
    where
      by-room : (T : ℕ) → Ok T ≡ check_demand E.ports N d → Dec (most < T) → Dec (whole E.width buf < length p)
          → Results E most N d p buf (planned_up_to most E N d p buf)
      by-room T q (yes h) x = rw (limited-long most E N d p buf T (sym q) h) (refused Longest (long most few T q h)
          (over-limit (fine-fair E N d T 65535 q (demand.fine-asked E.ports N T d (sym q)).small) (omega (arith, h, longest-is most few T q))))
      by-room T q (no h) (yes l) =
          rw (limited-short most E N d p buf T (sym q) (omega (arith, h)) l)
          (refused (Room (length p)) (λ t. omega (arith, l, t.room)) (no_room (fine-fair E N d T most q (omega (arith, h))) l))
      by-room T q (no h) (no l) =
          let a : T ≤ most = omega (arith, h) in
          let b : length p ≤ whole E.width buf = omega (arith, l) in
          fits most few T q a b (limited-done most E N d p buf T (sym q) a b)

      by-demand : (o : Checked) → o ≡ check_demand E.ports N d → Results E most N d p buf (planned_up_to most E N d p buf)
      by-demand (Err f) q =
          rw (limited-faulty most E N d p buf f (sym q)) (refused f (faulty-not most few f q) (faulty (faulty-fault E N d f q)))
      by-demand (Ok T) q = by-room T q (dec_lt most T) (dec_lt (whole E.width buf) (length p))

  -- a planner without a limit of its own: no line is over 65,535
  planned-results : Results E 65535 N d p buf (planned E N d p buf)
  planned-results = by-demand (check_demand E.ports N d) refl
    where
      by-room : (T : ℕ) → Ok T ≡ check_demand E.ports N d → Dec (whole E.width buf < length p)
          → Results E 65535 N d p buf (planned E N d p buf)
      by-room T q (yes l) =
          rw (planned-short E N d p buf T (sym q) l)
          (refused (Room (length p)) (λ t. omega (arith, l, t.room))
          (no_room (fine-fair E N d T 65535 q (demand.fine-asked E.ports N T d (sym q)).small) l))
      by-room T q (no l) =
          let b : length p ≤ whole E.width buf = omega (arith, l) in
          fits 65535 (omega arith) T q (demand.fine-asked E.ports N T d (sym q)).small b (planned-done E N d p buf T (sym q) b)

      by-demand : (o : Checked) → o ≡ check_demand E.ports N d → Results E 65535 N d p buf (planned E N d p buf)
      by-demand (Err f) q =
          rw (planned-faulty E N d p buf f (sym q)) (refused f (faulty-not 65535 (omega arith) f q) (faulty (faulty-fault E N d f q)))
      by-demand (Ok T) q = by-room T q (dec_lt (whole E.width buf) (length p))

-- ---- what the written plan is worth

-- what is to be known of a rule's plan p of a demand that is taken
pub record Ready (E : Edition) (N : ℕ) (d : List ℕ) (p : List Record) (Worth : List Record → Type 0) : Type 0 where
  pub few : length p ≤ E.records
  pub sound : Each (Sound E.width N) p
  pub covers : Covers N (cell N d) p
  pub worth : Worth p

module _ (E : Edition) (serves : Serves E) (most : ℕ) (small : most ≤ 65535) (N : ℕ) (d : List ℕ) (p : List Record) (Worth : List Record → Type 0)
    (buf : List ℕ) (ready : Fair E most N d → Ready E N d p Worth) where
  -- the plan's bytes at the buffer's start
  module _ (t : Taken E most N d p buf) (r : Outcome) (after : List ℕ)
      (outcome-is : r ≡ Ok (demand_counts (length p) (longest N (cell N d)) (total p) (empty_slots N (cell N d) p)))
      (bytes-are : after ≡ laid buf 0 (bytes E.byte N p)) where
    known : Ready E N d p Worth
    known = ready t.fair

    counts-are : counts_of r ≡ demand_counts (length p) (longest N (cell N d)) (total p) (empty_slots N (cell N d) p)
    counts-are = ap counts_of outcome-is

    abbrev s : List ℕ
    s = bytes E.byte N p

    size_is : length s ≡ counted E r
    size_is = bytes-size E.byte N E.width (each_width E.width N known.sound) ∙ ap (λ (c : Counts). c.records * (E.width + 4)) (sym counts-are)

    fits_in : 0 + length s ≤ length buf
    fits_in = omega (
      arith,
      whole-fits E.width buf,
      mul-le-mul t.room (let l : E.width + 4 ≤ E.width + 4 = omega arith in l),
      bytes-size E.byte N E.width (each_width E.width N known.sound),
    )

    part : part_of E r after ≡ s
    part = ap (take (counted E r)) bytes-are ∙ laid-front buf s (counted E r) size_is

    back : plan_in E r after ≡ p
    back = ap (plan_of E.width) part ∙ plan_of-bytes E.byte N E.width (each_width E.width N known.sound)

    written-delivers : Delivers E N d buf Worth r after
    written-delivers = record {
      sound = subst (Each (Sound E.width N)) (sym back) known.sound;
      worth = subst Worth (sym back) known.worth;
      counts = counts-are
          ∙ ap (λ (q : List Record). demand_counts (length q) (longest N (cell N d)) (total q) (empty_slots N (cell N d) q)) (sym back);
      passes = ap (check_plan E N d) part
          ∙ sound-passes E serves.bounded N (longest N (cell N d)) d (fair-fine E N d small t.fair) known.few known.sound known.covers
          ∙ sym outcome-is;
      size = ap length bytes-are ∙ length-laid buf 0 s fits_in;
      behind = ap (drop (counted E r)) bytes-are ∙ laid-behind buf s (counted E r) size_is;
    }

  -- a result as one of the two has all that is promised
  promised : {x : Result} → Results E most N d p buf x → (r : Outcome) (after : List ℕ) → r ≡ x.outcome → after ≡ x.bytes
      → Plans E most N d p Worth buf r after
  promised (refused f h why) r after o b = record {
    taken = λ e. absurd (not_done e);
    takes = λ t. absurd (h t);
    delivers = λ e. absurd (not_done e);
    reads-back = λ e. absurd (not_done e);
    refuses = λ g e. (subst (Why E most N d p buf) (same-refusal (sym o ∙ e)) why, ap counts_of o, b);
  }
    where
      same-refusal : {a c : Refusal} → ◌≡◌ {A = Outcome} (Err a) (Err c) → a ≡ c
      same-refusal q = cc

      not_done : code_of r ≡ 0 → ⊥
      not_done e = let q : Err f ≡ Ok (counts_of r) = sym o ∙ code-done r e in let z : ◌≡◌ {A = ℕ} 0 1 = cc in omega arith
  promised (written t) r after o b = record {
    taken = λ _. t;
    takes = λ _. ap code_of outcome-is;
    delivers = λ _. written-delivers t r after outcome-is bytes-are;
    reads-back = λ _. back t r after outcome-is bytes-are;
    refuses = λ f e. never (sym e ∙ outcome-is);
  }
    where
      outcome-is : r ≡ Ok (demand_counts (length p) (longest N (cell N d)) (total p) (empty_slots N (cell N d) p))
      outcome-is = o ∙ (unfold writes in refl)

      bytes-are : after ≡ laid buf 0 (bytes E.byte N p)
      bytes-are = b ∙ (unfold writes in refl)

  -- the contract of a planner with a limit
  pub limited-promise : (r : Outcome) (after : List ℕ) → r ≡ (planned_up_to most E N d p buf).outcome
      → after ≡ (planned_up_to most E N d p buf).bytes → Plans E most N d p Worth buf r after
  limited-promise = promised (limited-results E N d p buf most small)

-- the contract of a planner without one
pub planned-promise : (E : Edition) → Serves E → (N : ℕ) (d : List ℕ) (p : List Record) (Worth : List Record → Type 0) (buf : List ℕ)
    → (Fair E 65535 N d → Ready E N d p Worth) → (r : Outcome) (after : List ℕ) → r ≡ (planned E N d p buf).outcome
    → after ≡ (planned E N d p buf).bytes → Plans E 65535 N d p Worth buf r after
planned-promise E serves N d p Worth buf ready = promised E serves 65535 (omega arith) N d p Worth buf ready (planned-results E N d p buf)

-- both editions serve
pub first-serves : Serves first_edition
first-serves = record { bounded = first-bounded; roomy = omega arith }

pub second-serves : Serves second_edition
second-serves = record { bounded = second-bounded; roomy = omega arith }

-- a fair demand's N and cells, as the rules' laws ask for them
module _ (E : Edition) (serves : Serves E) {most N : ℕ} {d : List ℕ} (fair : Fair E most N d) where
  pub fair-top : N ≤ E.width
  fair-top = omega (arith, fair.few, serves.bounded.ports)

  pub fair-small : N ≤ 128
  fair-small = omega (arith, fair-top, serves.bounded.width)

  pub fair-cells : N * N ≤ length d
  fair-cells = omega (arith, fair.cells)

  pub fair-square : N * N + 2048 ≤ E.records
  fair-square = omega (arith, serves.roomy, mul-le-mul fair.few fair.few)
