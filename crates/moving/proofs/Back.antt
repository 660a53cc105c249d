-- A moved plan is a plan of its edition, and moved back it is the bytes that it was: its records are sound, and those of a plan are its bytes.
use Rattle.std.specs.Prelude.{Ok}
use mathlib.Core.Path.{◌≡◌, sym, ap, ap₂, ◌∙◌}
use mathlib.Core.List.{List}
use Prim.Native.Nat.{ℕ, ◌<◌, ◌≤◌}
use native.Mathlib.Omega.{arith}
use lib.ListN.{length, get_or}
use Rattle.switch.specs.declared.Counts.{Counts}
use Rattle.switch.specs.declared.Edition.{Edition}
use Rattle.switch.specs.Outcome.{Outcome}
use Rattle.switch.specs.Answer.{plan_counts}
use Rattle.switch.specs.Editions.{Bounded}
use Rattle.switch.specs.Plan.{Record}
use Rattle.switch.specs.Result.{Result}
use Rattle.switch.specs.Sound.{Sound, Each}
use Rattle.switch.proofs.Sound.{each_width}
use Rattle.records.specs.Bytes.{whole, plan_of, bytes, laid}
use Rattle.records.proofs.Round.{plan_of-bytes}
use Rattle.plans.specs.Read.{checking}
use Rattle.plans.proofs.Plans.{Checked, checked, length-plan, bytes-pass}
use Rattle.moving.specs.Move.{moved_plan, moving}
use Rattle.moving.proofs.Moved.{length_moved, total-moved, plan-sound, plan-back}
use Rattle.moving.proofs.Bytes.{bytes-plan}
use Rattle.moving.proofs.Answer.{moving-done}

-- a plan of S that no check refuses, moved to R, which takes so many ports and records
module _ (S R : Edition) (from : Bounded S) (to : Bounded R) (N : ℕ) (plan : List ℕ) (c : Counts) (fine : Ok c ≡ checking S N plan)
    (few : N ≤ R.ports) (most : c.records ≤ R.records) where
  pub known : Checked S N plan c
  known = checked S N plan from c fine

  abbrev records : List Record
  records = plan_of S.width plan

  abbrev pub moved : List ℕ
  moved = bytes R.byte N (moved_plan R.width N records)

  pub narrow : N ≤ S.width
  narrow = omega (arith, known.few, from.ports)

  pub wide : N ≤ R.width
  wide = omega (arith, few, to.ports)

  -- its records are sound, and as many
  pub sound : Each (Sound R.width N) (moved_plan R.width N records)
  sound = plan-sound S.width R.width N narrow wide known.sound

  pub count : length (moved_plan R.width N records) ≡ c.records
  count = length_moved R.width N records ∙ length-plan S.width plan 0 (whole S.width plan) ∙ sym (ap (λ (x : Counts). x.records) known.counts)

  pub moved-plan : plan_of R.width moved ≡ moved_plan R.width N records
  moved-plan = plan_of-bytes R.byte N R.width (each_width R.width N sound)

  -- it is read with the same counts
  pub moved-checks : Ok c ≡ checking R N moved
  moved-checks =
      sym (bytes-pass R to N known.some few (omega (arith, count)) sound
      ∙ ap₂ {C = Outcome} (λ (m t : ℕ). Ok (plan_counts m 0 t)) count (total-moved R.width N records ∙ sym (ap (λ (x : Counts). x.total) known.counts))
      ∙ ap {B = Outcome} (λ (x : Counts). Ok x) (sym counts))
    where
      counts : c ≡ plan_counts c.records 0 c.total
      counts = cc known.counts

  -- and moved back, into any buffer with room for it, it is the plan itself
  pub moved_back : ((i : ℕ) → get_or plan i 0 < 256) → (buf : List ℕ) → c.records ≤ whole S.width buf
      → moving R S N moved buf ≡ record { outcome = Ok c; bytes = laid buf 0 plan }
  moved_back byte buf room =
      sym (moving-done R S N moved buf moved-checks room)
      ∙ ap {B = Result} (λ (x : List ℕ). record { outcome = Ok c; bytes = laid buf 0 x }) same
    where
      same : bytes S.byte N (moved_plan S.width N (plan_of R.width moved)) ≡ plan
      same =
          ap (λ (p : List Record). bytes S.byte N (moved_plan S.width N p)) moved-plan
          ∙ ap (bytes S.byte N) (plan-back S.width R.width N narrow wide known.sound)
          ∙ bytes-plan S from N plan c known byte
