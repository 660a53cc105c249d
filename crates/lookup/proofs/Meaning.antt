-- What a lookup's answer means: the one record in force at the slot, out of tonight's plan before its total, and from there on out of the
-- standby plan, which starts there and repeats; the numbers name the same bytes as the part; a refusal that names a plan is of code 9, 10 or 11.
use Rattle.std.specs.Prelude.{Err, Ok}
use mathlib.Core.Path.{◌≡◌, refl, sym, ap, ◌∙◌}
use mathlib.Core.Logic.{dite}
use mathlib.Core.List.{List, []}
use Prim.Native.Nat.{ℕ, ◌+◌, ◌-◌, ◌%◌, ◌<◌, ◌≤◌}
use native.Mathlib.Nat.{mod-lt, add-mod_right}
use native.Mathlib.Decide.{ℕ_discrete}
use native.Mathlib.Omega.{arith}
use lib.ListN.{length, take, drop}
use Rattle.switch.specs.declared.About.TheVariants as about
use Rattle.switch.specs.declared.Counts.{Counts}
use Rattle.switch.specs.declared.Refusal.TheVariants.{NotInForce}
use Rattle.switch.specs.Plan.{Record, total}
use Rattle.switch.proofs.Check.{some-ports}
use Rattle.records.specs.Bytes.{record_at, plan_of}
use Rattle.switch.specs.declared.Edition.{Edition}
use Rattle.switch.specs.Editions.{Bounded}
use Rattle.plans.specs.Read.{checking}
use Rattle.plans.proofs.Plans.{checked}
use Rattle.lookup.specs.declared.Spot.TheVariants as spot
use Rattle.lookup.specs.Force.{in_force, InForce}
use Rattle.lookup.specs.Lookup.{Answered, in_tonight, in_standby, refused, spot_in, spot_of, part_of, found_of, plan_named}
use Rattle.lookup.proofs.Force.{in-force, in-force-one, in-force-total}
use Rattle.lookup.proofs.Lookup.{spot-tonight, spot-nothing, spot-standby, plan-judged, of-plans}

module _ (p s : List Record) (t : ℕ) where
  -- past tonight's total, where the standby plan stands
  abbrev pub past : ℕ
  past = (t - total p) % total s

  -- the record in force at t in tonight's plan is what a lookup finds
  pub finds-tonight : (k : ℕ) → InForce p t k → spot_in p s t ≡ in_tonight k
  finds-tonight k f =
      let l = in-force-total p t k f in
      sym (spot-tonight p s t l) ∙ ap in_tonight (in-force-one p t (in_force p t) k (in-force p t l) f)

  -- and past tonight's total the record in force there in the standby plan
  pub finds-standby : (k : ℕ) → total p ≤ t → InForce s past k → spot_in p s t ≡ in_standby k
  finds-standby k over f =
      sym (spot-standby p s t over (λ e. absurd (omega (arith, e, f.inside))))
      ∙ ap in_standby (in-force-one s past (in_force s past) k (in-force s past (in-force-total s past k f)) f)

  -- there is one, unless tonight's plan is over and the standby plan has no slot
  pub tonight-stands : t < total p → InForce p t (in_force p t)
  tonight-stands l = in-force p t l

  pub standby-stands : 0 < total s → InForce s past (in_force s past)
  standby-stands l = in-force s past (mod-lt (t - total p) l)

  pub finds-nothing : total p ≤ t → s ≡ [] → spot_in p s t ≡ refused about.Nothing NotInForce
  finds-nothing over e = sym (spot-nothing p s t over (ap length e))

-- the standby plan repeats
pub repeats : (p s : List Record) (t : ℕ) → total p ≤ t → spot_in p s (t + total s) ≡ spot_in p s t
repeats p s t over =
    dite (ℕ_discrete (length s) 0)
    (λ e. sym (spot-nothing p s (t + total s) (omega arith) e) ∙ spot-nothing p s t over e)
    (λ n. sym (spot-standby p s (t + total s) (omega arith) n) ∙ ap (λ (x : ℕ). in_standby (in_force s x)) round ∙ spot-standby p s t over n)
  where
    round : past p s (t + total s) ≡ past p s t
    round = ap (λ (x : ℕ). x % total s) (let e : t + total s - total p ≡ t - total p + total s = omega arith in e) ∙ add-mod_right (t - total p) (total s)

-- the whole call, where neither plan is refused
module _ (E : Edition) (b : Bounded E) (N : ℕ) (tonight standby : List ℕ) (t : ℕ) where
  abbrev found : Answered
  found = spot_of E N tonight standby t

  abbrev first-plan : List Record
  first-plan = plan_of E.width tonight

  abbrev second-plan : List Record
  second-plan = plan_of E.width standby

  pub found_in : {c d : Counts} → Ok c ≡ checking E N tonight → Ok d ≡ checking E N standby → found ≡ spot_in first-plan second-plan t
  found_in {c} first second =
      let k = checked E N tonight b c first in
      sym (plan-judged about.Standby _ second ∙ plan-judged about.Tonight _ first ∙ of-plans E N tonight standby t (some-ports E.ports N k.some k.few))

  module _ {c d : Counts} (first : Ok c ≡ checking E N tonight) (second : Ok d ≡ checking E N standby) (k : ℕ) where
    -- the part is tonight's record k's own bytes
    pub part-tonight : InForce first-plan t k → part_of E found tonight standby ≡ record_at E.width tonight k
    part-tonight f = ap (λ (s : Answered). part_of E s tonight standby) (found_in first second ∙ finds-tonight first-plan second-plan t k f)

    -- or standby's
    pub part-standby : total first-plan ≤ t → InForce second-plan (past first-plan second-plan t) k
        → part_of E found tonight standby ≡ record_at E.width standby k
    part-standby over f = ap (λ (s : Answered). part_of E s tonight standby) (found_in first second ∙ finds-standby first-plan second-plan t k over f)

-- bytes start .. start + size of the plan named are the part
pub found_part : (E : Edition) (s : Answered) (tonight standby : List ℕ)
    → take (found_of E s).size (drop (found_of E s).start (plan_named (found_of E s).plan tonight standby)) ≡ part_of E s tonight standby
found_part E (Ok (spot.Tonight k)) a b = refl
found_part E (Ok (spot.Standby k)) a b = refl
found_part E (Err x) a b = refl
