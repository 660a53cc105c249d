-- The demand and the limit decide first, and then the room: too few records are code 5 with those needed, and else the plan is written, each of its
-- records 64 outputs wide.
use Rattle.labels.specs.Ports.{Outputs}
use Rattle.std.specs.Prelude.{Err, Ok}
use mathlib.Core.Path.{◌≡◌, refl, sym, ap, ◌∙◌, subst}
use mathlib.Core.List.{List, ◌++◌}
use Prim.Native.Nat.{ℕ, ◌+◌, ◌*◌, ◌-◌, ◌/◌, ◌%◌, ◌≤◌, ◌<◌}
use native.Mathlib.Nat.{mod-lt, mul-le-mul, mul-le-mul_left, le-div_iff_mul-le, div-mul-le_self}
use native.Mathlib.Omega.{arith}
use lib.ListN.{length, take}
use lib.Seq.{length-take-le}
use borrow.Author.Tests.{lt-ltb, le-ltb}
use Rattle.counting.specs.Matrix.{row}
use Rattle.counting.proofs.Sum.{sum_mono, sum-const, sum-at}
use Rattle.counting.proofs.Most.{most-le}
use Rattle.switch.specs.declared.Refusal.{Refusal}
use Rattle.switch.specs.declared.Refusal.TheVariants.{Room, Limit}
use Rattle.switch.specs.Outcome.{Outcome}
use Rattle.switch.specs.Answer.{plan_counts}
use Rattle.switch.specs.Demand.{cell}
use Rattle.switch.specs.Editions.{first_edition}
use Rattle.switch.specs.Plan.{Record, total}
use Rattle.switch.specs.Empty.{empty_slots}
use Rattle.switch.specs.Result.{Result, refuses, Gives}
use Rattle.switch.proofs.Demand.{cell-append, row-le-longest}
use Rattle.switch.proofs.Result.{gives}
use Rattle.switch.proofs.Sound.{each_width}
use Rattle.demand.specs.Check.{check_demand, Asked}
use Rattle.demand.proofs.Check.{fine-asked}
use Rattle.records.specs.Bytes.{whole, bytes, laid}
use Rattle.records.proofs.Bytes.{bytes-size}
use Rattle.planner.proofs.Planned.{no_room, room, written-outcome, written-bytes}
use Rattle.board.specs.Level.{Sized}
use Rattle.board.specs.Labelled.{Labelled}
use Rattle.quiet_rule.specs.Limit.{band, busiest}
use Rattle.quiet_rule.specs.Quiet.{pairs, quiet_plan}
use Rattle.quiet_rule.proofs.Quiet.{quiet-total, quiet-empty-slots, quiet-records}
use Rattle.quiet_rule.proofs.QuietFrom.{pairs-cong, quiet-cong}
use Rattle.quiet_rule.proofs.Sound.{quiet-sound}
use Rattle.quiet.specs.Planned.{decides, quiet_planned}
use Rattle.quiet.specs.Taking.{leftover, Short}
use Rattle.quiet.specs.Lent.{Space, Small, Copied}

-- ---- the plan's bytes and its total

plan-size : (N L : ℕ) (d : List ℕ) → N ≤ 64 → 0 < L → length (bytes 0 N (quiet_plan 64 N L d)) ≡ length (quiet_plan 64 N L d) * 68
plan-size N L d few limit = bytes-size 0 N 64 (each_width 64 N (quiet-sound 64 N few (omega (arith, few)) L limit d))

-- ---- the working copy

pub copied : (N : ℕ) (d w : List ℕ) → Small N d → (w' : List ℕ) (rows' : List Outputs) → w' ≡ d ++ w → Sized N w' → Labelled N w' rows' → Copied N d w' rows'
copied N d w m w' rows' e s l = record {
  copy = record { sized = s; labels = l };
  same = subst (λ (x : List ℕ). (i j : ℕ) → i < N → j < N → cell N x i j ≡ cell N d i j) (sym e) (cell-append N d w m.size);
}

module _ (N L : ℕ) (d w : List ℕ) (rows : List Outputs) (c : Copied N d w rows) where
  -- what is still to come of it is the demand's plan
  pub copied-plan : leftover N L w ≡ quiet_plan 64 N L d
  unfolding quiet_plan
  copied-plan = quiet-cong 64 N L (cell N w) (cell N d) c.same

  -- where there is room for as many records as the plan has
  pub copied-fits : Small N d → 0 < L → (buf : List ℕ) → length (quiet_plan 64 N L d) ≤ whole 64 buf → length (bytes 0 N (leftover N L w)) ≤ length buf
  copied-fits m limit buf l = subst (λ (p : List Record). length (bytes 0 N p) ≤ length buf) (sym copied-plan)
      (omega (arith, plan-size N L d m.few limit, (le-div_iff_mul-le {k = 68} {x = length (quiet_plan 64 N L d)} {y = length buf} (omega arith)).0 l))

  -- room for as many records as there are cells that are not zero is enough
  pub copied-enough : Small N d → 0 < L → (r k : ℕ) → r ≡ pairs N (cell N w) → r ≤ k → length (quiet_plan 64 N L d) ≤ k
  copied-enough m limit r k e l = omega (arith, e, l, same-pairs, quiet-records 64 N m.few (omega (arith, m.few)) L limit d)
    where
      same-pairs : pairs N (cell N w) ≡ pairs N (cell N d)
      same-pairs = pairs-cong N L (cell N w) (cell N d) c.same

module _ (N : ℕ) (d : List ℕ) (m : Small N d) where
  cell-small : (i j : ℕ) → i < N → j < N → cell N d i j ≤ 65535
  cell-small i j li lj =
      let input : cell N d i j ≤ row N (cell N d) i = unfold row in sum-at N (cell N d i) j lj in
      omega (arith, row-le-longest N (cell N d) i li, m.lines)

  busiest-small : busiest N (cell N d) ≤ 64 * 65535
  unfolding busiest band
  busiest-small = most-le N (64 * 65535) (band N (cell N d)) (λ w lw. omega (
    arith,
    sum_mono N (λ i. cell N d i ((i + w) % N)) (λ _. 65535) (λ i li. cell-small i ((i + w) % N) li (mod-lt (i + w) (omega arith))),
    sum-const N 65535,
    mul-le-mul_left 65535 m.few,
  ))

  total-small : (L : ℕ) → 0 < L → total (quiet_plan 64 N L d) < 4294967296
  total-small L limit =
      let one : 1 ≤ L = omega arith in
      omega (
        arith,
        quiet-total 64 N m.few (omega (arith, m.few)) L limit d,
        m.lines,
        busiest-small,
        div-mul-le_self (busiest N (cell N d) - 1) L,
        mul-le-mul_left ((busiest N (cell N d) - 1) / L) one,
      )

  pub copied-short : (L : ℕ) → 0 < L → (w : List ℕ) (rows : List Outputs) → Copied N d w rows → Short N w (leftover N L w)
  copied-short L limit w rows c = record {
    cells = λ i j li lj. omega (arith, c.same i j li lj, cell-small i j li lj);
    holds = omega (arith, ap total (copied-plan N L d w rows c), total-small L limit);
  }

-- ---- the answer

module _ (N : ℕ) (d : List ℕ) (L : ℕ) (buf : List ℕ) where
  abbrev answer : Result
  answer = quiet_planned first_edition N d L buf

  -- codes 1, 2 and 3
  pub gives-fault : (r : Refusal) → check_demand 64 N d ≡ Err r → Gives answer (Err r) buf
  gives-fault r c = gives is refl refl
    where
      is : answer ≡ refuses r buf
      is = unfold quiet_planned in rw c

  module _ (T : ℕ) (fine : check_demand 64 N d ≡ Ok T) where
    -- code 17
    pub gives-limit : L ≡ 0 → Gives answer (Err Limit) buf
    gives-limit z = gives is refl refl
      where
        is : answer ≡ refuses Limit buf
        is = unfold quiet_planned in rw (fine, le-ltb 0 L (omega arith))

    module _ (limit : 0 < L) where
      decided : answer ≡ decides first_edition N d T (quiet_plan 64 N L d) buf
      decided = unfold quiet_planned in rw (fine, lt-ltb 0 L limit)

      -- code 5
      pub gives-room : (r : ℕ) → r ≡ length (quiet_plan 64 N L d) → whole 64 buf < r → Gives answer (Err (Room r)) buf
      gives-room r count h =
          gives (decided ∙ no_room first_edition N T (empty_slots N (cell N d) (quiet_plan 64 N L d)) (quiet_plan 64 N L d) buf (omega (arith, count)))
          (ap {B = Outcome} (λ (k : ℕ). Err (Room k)) count) refl

      -- the plan, and no slot empty
      pub gives-plan : (r t : ℕ) → length (quiet_plan 64 N L d) ≤ whole 64 buf → r ≡ length (quiet_plan 64 N L d) → t ≡ total (quiet_plan 64 N L d)
          → (after : List ℕ) → after ≡ laid buf 0 (bytes 0 N (quiet_plan 64 N L d)) → Gives answer (Ok (plan_counts r T t)) after
      gives-plan r t fits count held after b =
          let k = fine-asked 64 N T d fine in
          gives (decided ∙ room first_edition N T (empty_slots N (cell N d) (quiet_plan 64 N L d)) (quiet_plan 64 N L d) buf fits)
          (written-outcome first_edition N T (empty_slots N (cell N d) (quiet_plan 64 N L d)) r t 0 (quiet_plan 64 N L d) buf count held (sym (quiet-empty-slots 64 N k.few (omega (arith, k.few)) L limit d)))
          (b ∙ written-bytes first_edition N T (empty_slots N (cell N d) (quiet_plan 64 N L d)) (quiet_plan 64 N L d) buf)

-- ---- what is lent

module _ (N T : ℕ) (d : List ℕ) (fine : check_demand 64 N d ≡ Ok T) where
  -- as many labels as ports are lent of those that there are
  pub lends : (w : List ℕ) (rows : List Outputs) → length w ≡ 4096 → length rows ≡ 64 → (N ≤ 64) × Space N w (take N rows)
  lends w rows a b =
      let k : Asked 64 N T d = fine-asked 64 N T d fine in (
        k.few,
        record {
          sized = record { some = k.some; few = omega (arith, k.few); room = omega (arith, mul-le-mul k.few k.few, a) };
          each = length-take-le N rows (omega (arith, k.few, b));
        },
      )

  pub small_of : Small N d
  small_of = let k : Asked 64 N T d = fine-asked 64 N T d fine in record { few = k.few; size = k.size; lines = omega (arith, k.longest-is, k.small) }
