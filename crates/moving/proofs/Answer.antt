-- Moving case by case: a plan that is refused by itself changes nothing, and else it is laid where there is room for it.
use Rattle.std.specs.Prelude.{Err, Ok}
use mathlib.Core.Path.{◌≡◌, refl, sym, ap, ◌∙◌}
use mathlib.Core.List.{List}
use Prim.Native.Nat.{ℕ, ◌+◌, ◌<◌, ◌≤◌}
use native.Mathlib.Nat.{mul-le-mul_right}
use native.Mathlib.Omega.{arith}
use lib.Dec.{leb}
use borrow.Author.Tests.{le-leb, lt-leb}
use Rattle.switch.specs.declared.Counts.{Counts}
use Rattle.switch.specs.declared.Edition.{Edition}
use Rattle.switch.specs.Outcome.{Outcome}
use Rattle.switch.specs.declared.Refusal.{Refusal}
use Rattle.switch.specs.declared.Refusal.TheVariants.{Room}
use Rattle.switch.specs.Editions.{Bounded}
use Rattle.switch.specs.Result.{Result, refuses, unless, after_reading, Gives}
use Rattle.switch.proofs.Result.{gives}
use Rattle.records.specs.Bytes.{whole, plan_from, plan_of, bytes, laid}
use Rattle.records.proofs.Part.{whole-fits}
use Rattle.plans.specs.Read.{checking}
use Rattle.plans.proofs.Plans.{Checked, checked}
use Rattle.moving.specs.Move.{movable, moved_plan, moves, moving, Moving}

pub movable-bounded : Bounded movable
movable-bounded = record { width = omega arith; ports = omega arith; records = omega arith }

module _ (S T : Edition) (N : ℕ) (plan buf : List ℕ) where
  abbrev placed : Counts → Result
  placed c = unless (leb c.records (whole T.width buf)) (refuses (Room c.records) buf) (moves T N (plan_of S.width plan) c buf)

  after : {o : Outcome} → o ≡ checking S N plan → after_reading o buf placed ≡ moving S T N plan buf
  unfolding moving
  after e = ap (λ (o : Outcome). after_reading o buf placed) e

  -- codes 1, 9, 10 and 11
  pub moving-refused : {r : Refusal} → Err r ≡ checking S N plan → refuses r buf ≡ moving S T N plan buf
  moving-refused e = after e

  module _ {c : Counts} (fine : Ok c ≡ checking S N plan) where
    -- code 5
    pub moving-short : whole T.width buf < c.records → refuses (Room c.records) buf ≡ moving S T N plan buf
    moving-short l = rw (lt-leb _ _ l) at (after fine)

    pub moving-done : c.records ≤ whole T.width buf → moves T N (plan_of S.width plan) c buf ≡ moving S T N plan buf
    moving-done l = rw (le-leb _ _ l) at (after fine)

  pub answers-refused : {r : Refusal} → Err r ≡ checking S N plan → {o : Outcome} → o ≡ Err r → Gives (moving S T N plan buf) o buf
  answers-refused e q = gives (sym (moving-refused e)) q refl

  module _ {c : Counts} (fine : Ok c ≡ checking S N plan) where
    pub answers-short : whole T.width buf < c.records → Gives (moving S T N plan buf) (Err (Room c.records)) buf
    answers-short l = gives (sym (moving-short fine l)) refl refl

    module _ (from : Bounded S) (room : c.records ≤ whole T.width buf) where
      known : Checked S N plan c
      known = checked S N plan from c fine

      count : c.records ≡ whole S.width plan
      count = ap (λ (x : Counts). x.records) known.counts

      -- what laying the records asks for
      pub can-move : Bounded T → S.ports ≤ T.width → Moving N plan S.width T c.records buf
      can-move to wide = record {
        bounded = to;
        width = from.width;
        ports = omega (arith, known.few, from.ports);
        few = omega (arith, known.few, wide);
        inside = omega (arith, count);
        room = omega (arith, mul-le-mul_right (T.width + 4) room, whole-fits T.width buf);
      }

      pub answers-done : {after : List ℕ} → after ≡ laid buf 0 (bytes T.byte N (moved_plan T.width N (plan_from S.width plan 0 c.records)))
          → Gives (moving S T N plan buf) (Ok c) after
      answers-done w =
          gives (sym (moving-done fine room)) refl
          (w ∙ ap (λ (m : ℕ). laid buf 0 (bytes T.byte N (moved_plan T.width N (plan_from S.width plan 0 m)))) count)
