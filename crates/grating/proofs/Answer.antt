-- Each return of the call is a case of what it answers: a demand that is refused, nothing asked for, no room for both parts, or both parts laid.
use Rattle.std.specs.Prelude.{Err, Ok}
use mathlib.Core.Path.{◌≡◌, refl, sym, ap, ◌∙◌}
use mathlib.Core.List.{List, []}
use Prim.Native.Nat.{ℕ, ◌≤◌, ◌<◌}
use native.Mathlib.Omega.{arith}
use lib.ListN.{length}
use Rattle.switch.specs.declared.Refusal.{Refusal}
use Rattle.switch.specs.declared.Refusal.TheVariants.{Room}
use Rattle.switch.specs.declared.Edition.{Edition}
use Rattle.switch.specs.Answer.{plan_counts}
use Rattle.switch.specs.Plan.{Record, total}
use Rattle.demand.specs.Check.{check_demand}
use Rattle.demand.proofs.Check.{fine-asked}
use Rattle.rules.specs.Doubled.{opposite, tight}
use Rattle.rules.proofs.Tight.{by-empty}
use Rattle.records.specs.Bytes.{whole, bytes, laid}
use Rattle.records.proofs.Laid.{laid_none}
use Rattle.records.proofs.Bytes.{bytes-none}
use Rattle.switch.specs.Result.{Gives}
use Rattle.switch.proofs.Result.{gives, gives_as}
use Rattle.planner.specs.Planned.{writes, room_for}
use Rattle.planner.proofs.Planned.{no_room, room}
use Rattle.grating.specs.Grating.{grating_plan, grating_planned}

module _ (E : Edition) (N : ℕ) (p : List Record) (buf : List ℕ) where
  -- code 5
  pub short-answer : (need : ℕ) → need ≡ length p → whole E.width buf < need → Gives (room_for E N 0 0 p buf) (Err (Room need)) buf
  short-answer need n l = gives (no_room E N 0 0 p buf (omega (arith, n))) (ap (λ (k : ℕ). Err (Room k)) n) refl

  -- the plan is laid
  module _ (fits : length p ≤ whole E.width buf) where
    pub done : record { outcome = Ok (plan_counts (length p) 0 (total p)); bytes = laid buf 0 (bytes E.byte N p) } ≡ room_for E N 0 0 p buf
    unfolding writes
    done = sym (room E N 0 0 p buf fits)

    pub laid-answer : (r t : ℕ) (after : List ℕ) → r ≡ length p → t ≡ total p → after ≡ laid buf 0 (bytes E.byte N p) → Gives (room_for E N 0 0 p buf) (Ok (plan_counts r 0 t)) after
    laid-answer r t after a b put = gives (sym done) (λ i. Ok (plan_counts (a i) 0 (b i))) put

module _ (E : Edition) (N : ℕ) (d buf : List ℕ) where
  -- codes 1, 2 and 3
  pub faulty-answer : (r : Refusal) → check_demand E.ports N d ≡ Err r → Gives (grating_planned E N d buf) (Err r) buf
  unfolding grating_planned
  faulty-answer r q = rw q (record { outcome = refl; bytes = refl })

  pub fine-answer : (T : ℕ) → check_demand E.ports N d ≡ Ok T → room_for E N 0 0 (grating_plan E.width N d) buf ≡ grating_planned E N d buf
  unfolding grating_planned
  fine-answer T q = rw q

  -- T is 0
  pub empty-answer : check_demand E.ports N d ≡ Ok 0 → Gives (grating_planned E N d buf) (Ok (plan_counts 0 0 0)) buf
  empty-answer q =
      let a = laid-answer E N (grating_plan E.width N d) buf (omega (arith, ap length none)) 0 0 buf (sym (ap length none)) (unfold total in sym (ap total none))
      (sym (laid_none buf 0) ∙ ap (laid buf 0) (sym (ap (bytes E.byte N) none ∙ bytes-none E.byte N))) in
      gives_as (sym (fine-answer 0 q)) a
    where
      none : grating_plan E.width N d ≡ []
      none = unfold grating_plan in by-empty E.width N (opposite N) (tight N (opposite N) d) d (sym (fine-asked E.ports N 0 d q).longest-is)
