-- What is moved is the plan's own records in the other width, so it is read, checked and moved back as the plan itself.
use Rattle.std.specs.Prelude.{Err, Ok}
use mathlib.Core.Path.{◌≡◌, refl, sym, ap, ◌∙◌, subst}
use mathlib.Core.List.{List}
use Prim.Native.Nat.{ℕ, ◌+◌, ◌*◌, ◌<◌, ◌≤◌}
use native.Mathlib.Decide.{dec_lt}
use native.Mathlib.Omega.{arith}
use lib.ListN.{length, get_or, drop}
use Rattle.switch.specs.declared.Counts.{Counts}
use Rattle.switch.specs.declared.Edition.{Edition}
use Rattle.switch.specs.Outcome.{Outcome}
use Rattle.switch.specs.declared.Refusal.{Refusal}
use Rattle.switch.specs.declared.Refusal.TheVariants.{Room}
use Rattle.switch.specs.Answer.{code_of, counts_of, demand_counts}
use Rattle.switch.specs.Demand.{cell, longest}
use Rattle.switch.specs.Editions.{first_edition, second_edition, Bounded}
use Rattle.switch.specs.Empty.{beyond, empty_slots}
use Rattle.switch.specs.Plan.{Record, grant, total}
use Rattle.switch.specs.Result.{Result, refuses, Gives}
use Rattle.switch.specs.Sound.{Each, OfWidth}
use Rattle.switch.proofs.Answer.{code-done}
use Rattle.switch.proofs.Check.{some-ports}
use Rattle.switch.proofs.Editions.{first-bounded, second-bounded}
use Rattle.switch.proofs.Sound.{each_width}
use Rattle.demand.proofs.Check.{fine}
use Rattle.records.specs.Bytes.{whole, plan_of, bytes, laid}
use Rattle.plans.specs.Read.{checking}
use Rattle.plans.proofs.Plans.{checked, length-plan}
use Rattle.checker.specs.Check.{check_plan}
use Rattle.checker.proofs.Passes.{passes, reached, sound-passes}
use Rattle.moving.specs.Move.{movable, moved_plan, moving}
use Rattle.moving.proofs.Moved.{total-moved, plan-grants}
use Rattle.moving.proofs.Bytes.{bytes-plan}
use Rattle.moving.proofs.Answer.{movable-bounded, moving-refused, moving-short, moving-done}
use Rattle.moving.proofs.Back.{known, narrow, wide, sound, count, moved-plan, moved_back}
use Rattle.promises.specs.Joined.{part}
use Rattle.promises.specs.Moved.{Moved}
use Rattle.promises.specs.Reading.{GoodPlan, Unwritten, unread, no_room}
use Rattle.promises.specs.SecondReaders.{ToSecond, ToFirst}
use Rattle.promises.proofs.Laid.{plan-front, plan-behind}
use Rattle.promises.proofs.Outcomes.{never, same-counts, same-refusal}
use Rattle.promises.proofs.Reading as reading
use Rattle.promises.proofs.Reading.{good-checks, checks-good}

-- a plan of S that passes its checker, moved to T
module _ (S T : Edition) (from : Bounded S) (to : Bounded T) (N : ℕ) (plan : List ℕ) (o : Counts) (reads : Ok o ≡ checking S N plan)
    (few : N ≤ T.ports) (most : o.records ≤ T.records) where
  abbrev p : List Record
  p = plan_of S.width plan

  abbrev q : List Record
  q = moved_plan T.width N p

  same-grants : grant q ≡ grant p
  same-grants = λ k i j. plan-grants S.width T.width N (narrow S T from to N plan o reads few most) (wide S T from to N plan o reads few most)
      (known S T from to N plan o reads few most).sound i j k

  same-empty : (M : ℕ → ℕ → ℕ) → empty_slots N M q ≡ empty_slots N M p
  unfolding empty_slots
  same-empty M = ap (beyond N M) same-grants

  pub moved_passes : (d : List ℕ) (c : Counts) → check_plan S N d plan ≡ Ok c → check_plan T N d (bytes T.byte N q) ≡ Ok c
  moved_passes d c e =
      let P = passes S N d plan from c (sym e) in
      let a = P.asked in
      let m = count S T from to N plan o reads few most in
      let records : length q ≡ whole S.width plan = m ∙ ap (λ (x : Counts). x.records) (known S T from to N plan o reads few most).counts in
      sound-passes T to N _ d (fine T.ports N d (some-ports T.ports N a.some few) a.size a.small) (omega (arith, m)) (sound S T from to N plan o reads few most)
      (λ i j li lj. subst (λ (g : ℕ → ℕ → ℕ). cell N d i j ≤ g i j) (sym same-grants) (P.covers i j li lj))
      ∙ ap {B = Outcome} (λ (x : Counts). Ok x)
      ((λ k. demand_counts (records k) (longest N (cell N d)) (total-moved T.width N p k) (same-empty (cell N d) k)) ∙ sym P.counts)

module _ (S T : Edition) (from : Bounded S) (to : Bounded T) (ports : S.ports ≤ T.ports) (records : S.records ≤ T.records)
    (N : ℕ) (plan : List ℕ) (byte : (i : ℕ) → get_or plan i 0 < 256) (buf : List ℕ) (r : Outcome) (after : List ℕ) (met : Gives (moving S T N plan buf) r after) where
  -- T's records within S's limits, as a move back reads them
  abbrev R : Edition
  R = record { width = T.width; byte = T.byte; ports = S.ports; records = S.records }

  bounds : Bounded R
  bounds = record { width = to.width; ports = omega (arith, ports, to.ports); records = from.records }

  refused : (x : Refusal) → refuses x buf ≡ moving S T N plan buf → (GoodPlan S N plan → whole S.width plan ≤ whole T.width buf → ⊥)
      → Unwritten S N plan (whole T.width buf) (whole S.width plan) x → Moved S T N plan buf r after
  refused x e bad why =
      let is : r ≡ Err x = met.outcome ∙ ap (λ (y : Result). y.outcome) (sym e) in
      let same : after ≡ buf = met.bytes ∙ ap (λ (y : Result). y.bytes) (sym e) in
      record {
        taken = λ g l. absurd (bad g l);
        only_then = λ z. never (sym is ∙ code-done r z);
        grants = λ z. never (sym is ∙ code-done r z);
        later = λ z. never (sym is ∙ code-done r z);
        passes = λ z. never (sym is ∙ code-done r z);
        back = λ z. never (sym is ∙ code-done r z);
        refuses = λ f q. subst (Unwritten S N plan (whole T.width buf) (whole S.width plan)) (same-refusal (sym is ∙ q)) why;
        unchanged = λ _. same;
      }

  module _ (o : Counts) (reads : checking S N plan ≡ Ok o) where
    good : GoodPlan S N plan
    good = checks-good S N plan from o reads

    here : N ≤ S.ports
    here = good.opens.few

    there : N ≤ T.ports
    there = omega (arith, here, ports)

    size : o.records ≡ whole S.width plan
    size = ap (λ (x : Counts). x.records) (checked S N plan from o (sym reads)).counts

    enough : o.records ≤ S.records
    enough = omega (arith, size, good.opens.most)

    fits : o.records ≤ T.records
    fits = omega (arith, enough, records)

    widths : Each (OfWidth T.width) (moved_plan T.width N (plan_of S.width plan))
    widths = each_width T.width N (sound S T from to N plan o (sym reads) there fits)

    module _ (room : o.records ≤ whole T.width buf) where
      abbrev moved : List ℕ
      moved = bytes T.byte N (moved_plan T.width N (plan_of S.width plan))

      is : r ≡ Ok o
      is = met.outcome ∙ ap (λ (y : Result). y.outcome) (sym (moving-done S T N plan buf (sym reads) room))

      lays : after ≡ laid buf 0 moved
      lays = met.bytes ∙ ap (λ (y : Result). y.bytes) (sym (moving-done S T N plan buf (sym reads) room))

      told : code_of r ≡ 0 → (P : Counts → Type 0) → P o → P (counts_of r)
      told z P h = subst P (same-counts (sym is ∙ code-done r z)) h

      front : part T o after ≡ moved
      front =
          ap (part T o) lays
          ∙ subst (λ (n : ℕ). part T (record { records = n; longest = 0; total = 0; length = 0; empty = 0 }) (laid buf 0 moved) ≡ moved)
          (count S T from to N plan o (sym reads) there fits) (plan-front T.byte N T.width widths buf)

      behind : drop (o.records * (T.width + 4)) after ≡ drop (o.records * (T.width + 4)) buf
      behind =
          ap (drop (o.records * (T.width + 4))) lays
          ∙ subst (λ (n : ℕ). drop (n * (T.width + 4)) (laid buf 0 moved) ≡ drop (n * (T.width + 4)) buf)
          (count S T from to N plan o (sym reads) there fits) (plan-behind T.byte N T.width widths buf)

      done : Moved S T N plan buf r after
      done = record {
        taken = λ g l. is ∙ sym reads ∙ good-checks S N plan from g;
        only_then = λ z. (good, omega (arith, size));
        grants = λ z. told z (λ (x : Counts). (i j : ℕ) → grant (plan_of T.width (part T x after)) i j ≡ grant (plan_of S.width plan) i j)
            (λ i j. ap (λ (b : List ℕ). grant (plan_of T.width b) i j) front
            ∙ ap (λ (x : List Record). grant x i j) (moved-plan S T from to N plan o (sym reads) there fits)
            ∙ ap (λ (g : ℕ → ℕ → ℕ). g i j) (same-grants S T from to N plan o (sym reads) there fits));
        later = λ z. told z (λ (x : Counts). drop (x.records * (T.width + 4)) after ≡ drop (x.records * (T.width + 4)) buf) behind;
        passes = λ z d c e. told z (λ (x : Counts). check_plan T N d (part T x after) ≡ Ok c)
            (ap (check_plan T N d) front ∙ moved_passes S T from to N plan o (sym reads) there fits d c e);
        back = λ z next l. told z (λ (x : Counts). x.records ≤ whole S.width next → moving R S N (part T x after) next ≡ record { outcome = r; bytes = laid next 0 plan })
            (λ h. ap (λ (b : List ℕ). moving R S N b next) front
            ∙ moved_back S R from bounds N plan o (sym reads) here enough byte next h
            ∙ ap {B = Result} (λ (a : Outcome). record { outcome = a; bytes = laid next 0 plan }) (sym is)) l;
        refuses = λ f q. never (sym q ∙ is);
        unchanged = λ n. absurd (n (ap code_of is));
      }

  pub moves : Moved S T N plan buf r after
  moves = by (checking S N plan) refl
    where
      by : (o : Outcome) → checking S N plan ≡ o → Moved S T N plan buf r after
      by (Err x) e = refused x (moving-refused S T N plan buf (sym e)) (λ g l. never (sym e ∙ good-checks S N plan from g))
          (unread (reading.unread S from N plan x e))
      by (Ok o) e = placed (dec_lt (whole T.width buf) o.records)
        where
          placed : Dec (whole T.width buf < o.records) → Moved S T N plan buf r after
          placed (yes l) = refused _ (moving-short S T N plan buf (sym e) l) (λ g h. omega (arith, size o e))
              (subst (λ (n : ℕ). Unwritten S N plan (whole T.width buf) (whole S.width plan) (Room n)) (sym (size o e))
              (no_room (checks-good S N plan from o e) (omega (arith, size o e))))
          placed (no l) = done o e (omega (arith, l))

-- either way
pub to-second-promise : (N : ℕ) (plan : List ℕ) → ((i : ℕ) → get_or plan i 0 < 256) → (buf : List ℕ) (r : Outcome) (after : List ℕ) → ToSecond N plan buf r after
    → Moved first_edition second_edition N plan buf r after
to-second-promise N plan byte buf r after met = moves first_edition second_edition first-bounded second-bounded (omega arith) (omega arith) N plan byte buf r after met

pub to-first-promise : (N : ℕ) (plan : List ℕ) → ((i : ℕ) → get_or plan i 0 < 256) → (buf : List ℕ) (r : Outcome) (after : List ℕ) → ToFirst N plan buf r after
    → Moved movable first_edition N plan buf r after
to-first-promise N plan byte buf r after met = moves movable first_edition movable-bounded first-bounded (omega arith) (omega arith) N plan byte buf r after met

-- a plan that passes the second edition's checker passes within the limits of the first, where it keeps to them; so what is moved from it passes too
pub narrowed : (N : ℕ) (d plan : List ℕ) → ((i : ℕ) → get_or plan i 0 < 256) → (c : Counts) → check_plan second_edition N d plan ≡ Ok c
    → N ≤ 64 → whole 128 plan ≤ 8192 → check_plan movable N d plan ≡ Ok c
narrowed N d plan byte c e few most =
    let P = passes second_edition N d plan second-bounded c (sym e) in
    let a = P.asked in
    let R = reached second_edition N d plan (Ok c) tt (sym e) in
    let size = length-plan 128 plan 0 (whole 128 plan) in
    ap (check_plan movable N d) (sym (bytes-plan second_edition second-bounded N plan R.counts (checked second_edition N plan second-bounded R.counts R.plan) byte))
    ∙ sound-passes movable movable-bounded N _ d (fine 64 N d (some-ports 64 N a.some few) a.size a.small) (omega (arith, size)) P.sound P.covers
    ∙ ap {B = Outcome} (λ (x : Counts). Ok x)
    ((λ k. demand_counts (size k) (longest N (cell N d)) (total (plan_of 128 plan)) (empty_slots N (cell N d) (plan_of 128 plan))) ∙ sym P.counts)

-- what is written depends on the records of the target alone, so a plan moved to the first edition comes back by the move to the second
pub written_as : (S : Edition) (N : ℕ) (plan buf : List ℕ) → moving S movable N plan buf ≡ moving S second_edition N plan buf
unfolding moving
written_as S N plan buf = refl
