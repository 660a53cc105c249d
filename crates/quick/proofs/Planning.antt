-- The room decides the rest: too few records are code 5 with those needed, and else the plan is written, each of its records W outputs wide.
use Rattle.labels.specs.Ports.{Outputs}
use Rattle.std.specs.Prelude.{Err, Ok}
use mathlib.Core.Path.{◌≡◌, refl, sym, ap, ◌∙◌}
use mathlib.Core.Bool.{Bool, true, false, cond}
use mathlib.Core.List.{List, [], ◌∷◌}
use Prim.Native.Nat.{ℕ, zero, suc, ◌+◌, ◌*◌, ◌≤◌, ◌<◌}
use native.Mathlib.Nat.{mul-le-mul, le-div_iff_mul-le}
use native.Mathlib.Omega.{arith}
use lib.ListN.{length, take}
use lib.Seq.{length-take-le}
use lib.Dec.{eqb}
use Rattle.counting.specs.Sum.{sum}
use Rattle.counting.specs.Matrix.{row}
use Rattle.switch.specs.declared.Refusal.{Refusal}
use Rattle.switch.specs.declared.Refusal.TheVariants.{Longest, Room}
use Rattle.switch.specs.Outcome.{Outcome}
use Rattle.switch.specs.declared.Edition.{Edition}
use Rattle.switch.specs.Editions.{Bounded}
use Rattle.switch.specs.Answer.{plan_counts}
use Rattle.switch.specs.Demand.{cell}
use Rattle.switch.specs.Plan.{Record}
use Rattle.switch.specs.Empty.{empty_slots}
use Rattle.demand.specs.Check.{check_demand, Asked}
use Rattle.demand.proofs.Check.{fine-asked}
use Rattle.switch.specs.Sound.{Each, none, more, OfWidth}
use Rattle.records.specs.Bytes.{whole, bytes, laid}
use Rattle.records.proofs.Bytes.{bytes-size}
use Rattle.rules.specs.Peel.{peel}
use Rattle.rules.specs.Exact.{tab}
use Rattle.rules.specs.Quick.{slot, slots, quick_from, quick_plan}
use Rattle.rules.proofs.Peels.{length-tab}
use Rattle.rules.proofs.Quick.{quick-total, quick-at-most}
use Rattle.rules.proofs.Empty.{quick-empty-slots}
use Rattle.switch.specs.Result.{Result, Gives}
use Rattle.planner.specs.Planned.{planned_up_to}
use Rattle.switch.proofs.Result.{gives, gives_one}
use Rattle.planner.proofs.Planned.{limited-faulty, limited-long, limited-short, limited-done, written-outcome, written-bytes}
use Rattle.room.specs.Room.{quick_room}
use Rattle.quick.specs.Lent.{Lent, Space}

-- the room that is promised beforehand is always enough
pub enough : (E : Edition) → Bounded E → (N T room : ℕ) (d : List ℕ) → Asked E.ports N T d → quick_room T ≤ room → length (quick_plan E.width N d) ≤ room
unfolding quick_room
enough E b N T room d a l =
    let f : N ≤ E.width = omega (arith, a.few, b.ports) in
    omega (arith, quick-at-most E.width N a.some f (omega (arith, f, b.width)) d, a.longest-is)

-- ---- the plan's bytes

slots-wide : (W k N s : ℕ) (M : ℕ → ℕ → ℕ) → Each (OfWidth W) (slots W k N s M)
unfolding slots
slots-wide W zero N s M = none
slots-wide W (suc k) N s M = go (eqb (sum N (row N M)) 0) (slots-wide W k N (suc s) (peel 1 (slot N M s) M))
  where
    go : (b : Bool) {p : List Record} → Each (OfWidth W) p → Each (OfWidth W) (cond b [] (record { hold = 1; outputs = tab W 0 (slot N M s) } ∷ p))
    go true e = none
    go false e = more (length-tab W 0 (slot N M s)) e

plan-size : (W e N : ℕ) (d : List ℕ) → length (bytes e N (quick_plan W N d)) ≡ length (quick_plan W N d) * (W + 4)
unfolding quick_plan quick_from
plan-size W e N d = bytes-size e N W (slots-wide W (sum N (row N (cell N d))) N 0 (cell N d))

-- a plan of no more records than there is room for
pub plan-fits : (W e N : ℕ) (d buf : List ℕ) → length (quick_plan W N d) ≤ whole W buf → length (bytes e N (quick_plan W N d)) ≤ length buf
plan-fits W e N d buf l = omega (arith, plan-size W e N d, (le-div_iff_mul-le {k = W + 4} {x = length (quick_plan W N d)} {y = length buf} (omega arith)).0 l)

-- ---- the answer

module _ (E : Edition) (N : ℕ) (d buf : List ℕ) where
  abbrev plan : List Record
  plan = quick_plan E.width N d

  abbrev answer : Result
  answer = planned_up_to 1024 E N d plan buf

  -- codes 1, 2 and 3
  pub gives-fault : (r : Refusal) → check_demand E.ports N d ≡ Err r → Gives answer (Err r) buf
  gives-fault r c = gives (limited-faulty 1024 E N d plan buf r c) refl refl

  module _ (T : ℕ) (fine : check_demand E.ports N d ≡ Ok T) where
    -- code 4
    pub gives-longest : 1024 < T → Gives answer (Err Longest) buf
    gives-longest l = gives (limited-long 1024 E N d plan buf T fine l) refl refl

    module _ (small : T ≤ 1024) (r : ℕ) (count : r ≡ length plan) where
      -- code 5
      pub gives-room : whole E.width buf < r → Gives answer (Err (Room r)) buf
      gives-room h =
          gives (limited-short 1024 E N d plan buf T fine small (omega (arith, count))) (ap {B = Outcome} (λ (k : ℕ). Err (Room k)) count) refl

      -- as many records as the plan has, each held for one slot, and no slot empty
      pub gives-plan : Bounded E → length plan ≤ whole E.width buf → (after : List ℕ) → after ≡ laid buf 0 (bytes E.byte N plan)
          → Gives answer (Ok (plan_counts r T r)) after
      gives-plan w fits after b =
          let k = fine-asked E.ports N T d fine in
          let f : N ≤ E.width = omega (arith, k.few, w.ports) in
          let s : N ≤ 255 = omega (arith, f, w.width) in
          gives (limited-done 1024 E N d plan buf T fine small fits)
          (written-outcome E N T (empty_slots N (cell N d) plan) r r 0 plan buf count (count ∙ sym (quick-total E.width N k.some f s d))
          (sym (quick-empty-slots E.width N k.some f s d)))
          (b ∙ written-bytes E N T (empty_slots N (cell N d) plan) plan buf)

-- any two results of the call are one
pub one-result : (E : Edition) (N : ℕ) (d buf : List ℕ) (r s : Outcome) (after later : List ℕ)
    → Gives (answer E N d buf) r after → Gives (answer E N d buf) s later → (r ≡ s) × (after ≡ later)
one-result E N d buf r s after later = gives_one

-- ---- what is lent

-- of an edition's largest switch there is room for any demand that is not refused by itself
pub lends : (E : Edition) (N T ports cells : ℕ) (d w : List ℕ) (rows : List Outputs) (out : List ℕ) → Lent E ports cells → check_demand E.ports N d ≡ Ok T
    → length w ≡ cells → length rows ≡ ports → length out ≡ ports → (N ≤ length rows) × Space N w (take N rows) out
lends E N T ports cells d w rows out l f hw hr ho =
    let k : Asked E.ports N T d = fine-asked E.ports N T d f in
    let a : N ≤ length rows = omega (arith, k.few, l.each, hr) in
    let s : N ≤ E.width = omega (arith, k.few, l.bounded.ports) in (
      a,
      record {
        sized = record { some = k.some; few = omega (arith, s, l.bounded.width); room = omega (arith, mul-le-mul k.few k.few, l.squared, hw) };
        each = length-take-le N rows a;
        wide = omega (arith, l.wide, ho, l.bounded.width);
        seats = omega (arith, l.wide, ho, s);
      },
    )
