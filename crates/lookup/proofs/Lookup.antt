-- Lookups case by case: which return is which case of the definition, and a record in force is one of its plan.
use Rattle.std.specs.Prelude.{Err, Ok}
use mathlib.Core.Path.{◌≡◌, refl, ap, subst}
use mathlib.Core.Bool.{Bool, true, false, cond}
use mathlib.Core.Logic.{dite}
use mathlib.Core.List.{List, [], ◌∷◌}
use Prim.Native.Nat.{ℕ, ◌-◌, ◌%◌, ◌<◌, ◌≤◌}
use native.Mathlib.Nat.{mod-lt}
use native.Mathlib.Decide.{ℕ_discrete, dec_lt}
use native.Mathlib.Omega.{arith}
use lib.ListN.{length}
use borrow.Author.Tests.{lt-ltb, le-ltb, eq-eqb, ne_eqb}
use Rattle.switch.specs.declared.About.{About}
use Rattle.switch.specs.declared.About.TheVariants as about
use Rattle.switch.specs.declared.Counts.{Counts}
use Rattle.switch.specs.Outcome.{Outcome}
use Rattle.switch.specs.declared.Refusal.{Refusal}
use Rattle.switch.specs.declared.Refusal.TheVariants.{Ports, NotInForce}
use Rattle.switch.specs.Check.{ports_fine}
use Rattle.switch.specs.Plan.{Record, total}
use Rattle.switch.specs.Sound.{Sound, Each}
use Rattle.records.specs.Bytes.{whole, plan_of}
use Rattle.switch.specs.declared.Edition.{Edition}
use Rattle.switch.specs.Editions.{Bounded}
use Rattle.plans.specs.Read.{checking}
use Rattle.plans.proofs.Plans.{checked, length-plan}
use Rattle.lookup.specs.Force.{in_force}
use Rattle.lookup.specs.Lookup.{Answered, in_tonight, in_standby, refused, repeating, spot_in, after_plan, spot_of, Inside, Judged}
use Rattle.lookup.proofs.Force.{in-force}

-- the case of each return
module _ (p s : List Record) (t : ℕ) where
  pub spot-tonight : t < total p → in_tonight (in_force p t) ≡ spot_in p s t
  unfolding spot_in
  spot-tonight l = rw (lt-ltb _ _ l)

  module _ (over : total p ≤ t) where
    pub spot-nothing : length s ≡ 0 → refused about.Nothing NotInForce ≡ spot_in p s t
    unfolding spot_in repeating
    spot-nothing e = rw (le-ltb _ _ over, eq-eqb _ _ e)

    pub spot-standby : (length s ≡ 0 → ⊥) → in_standby (in_force s ((t - total p) % total s)) ≡ spot_in p s t
    unfolding spot_in repeating
    spot-standby n = rw (le-ltb _ _ over, ne_eqb _ _ n)

-- a plan that is refused is named, and one that is not leaves the rest to say
module _ (a : About) (s : Answered) {o : Outcome} where
  pub plan-refused : {r : Refusal} → Err r ≡ o → refused a r ≡ after_plan a o s
  plan-refused e = ap (λ (x : Outcome). after_plan a x s) e

  pub plan-judged : {c : Counts} → Ok c ≡ o → s ≡ after_plan a o s
  plan-judged e = ap (λ (x : Outcome). after_plan a x s) e

module _ (E : Edition) (N : ℕ) (tonight standby : List ℕ) (t : ℕ) where
  abbrev pub within : Answered
  within = spot_in (plan_of E.width tonight) (plan_of E.width standby) t

  abbrev pub after : Answered
  after = after_plan about.Standby (checking E N standby) within

  pub of-ports : ports_fine E.ports N ≡ false → refused about.Nothing Ports ≡ spot_of E N tonight standby t
  unfolding spot_of
  of-ports e = rw e

  pub of-plans : ports_fine E.ports N ≡ true → after_plan about.Tonight (checking E N tonight) after ≡ spot_of E N tonight standby t
  unfolding spot_of
  of-plans e = rw e

-- a plan of sound records that has one has a slot
total-some : {W N : ℕ} (p : List Record) → Each (Sound W N) p → 0 < length p → 0 < total p
unfolding total
total-some [] s l = absurd (omega arith)
total-some (r ∷ p) (Each.more h s) l = omega (arith, h.held)

module _ (E : Edition) (N : ℕ) (plan : List ℕ) (b : Bounded E) (c : Counts) (d : Ok c ≡ checking E N plan) where
  pub judged : Judged E.width plan c
  judged =
      let k = checked E N plan b c d in
      record {
        records = ap (λ (x : Counts). x.records) k.counts;
        slots = ap (λ (x : Counts). x.total) k.counts;
        held = λ l. total-some (plan_of E.width plan) k.sound (omega (arith, length-plan E.width plan 0 (whole E.width plan)));
      }

  pub judged-few : whole E.width plan ≤ E.records
  judged-few = (checked E N plan b c d).most

-- a record in force is one of its plan
module _ (p s : List Record) (t : ℕ) (held : 0 < length s → 0 < total s) (x y : ℕ) (l : length p ≤ x) (m : length s ≤ y) where
  inside-in : Inside x y (spot_in p s t)
  inside-in =
      dite (dec_lt t (total p))
      (λ h. subst (Inside x y) (spot-tonight p s t h) (omega (arith, (in-force p t h).inside)))
      (λ g. let over : total p ≤ t = omega (arith, g) in dite (ℕ_discrete (length s) 0)
      (λ e. subst (Inside x y) (spot-nothing p s t over e) tt)
      (λ n. let slot = mod-lt (t - total p) (held (omega (arith, n))) in
      subst (Inside x y) (spot-standby p s t over n) (omega (arith, (in-force s ((t - total p) % total s) slot).inside))))

module _ (E : Edition) (N : ℕ) (tonight standby : List ℕ) (t : ℕ) (b : Bounded E) where
  -- as many records as a plan may have that no check refuses
  abbrev Few : List ℕ → ℕ → Type 0
  Few plan x = (c : Counts) → Ok c ≡ checking E N plan → whole E.width plan ≤ x

  inside_of : (x y : ℕ) → Few tonight x → Few standby y → Inside x y (spot_of E N tonight standby t)
  unfolding spot_of
  inside_of x y f g = by-ports (ports_fine E.ports N)
    where
      judge : (d h : Outcome) → d ≡ checking E N tonight → h ≡ checking E N standby
          → Inside x y (after_plan about.Tonight d (after_plan about.Standby h (within E N tonight standby t)))
      judge (Err r) h d e = tt
      judge (Ok c) (Err r) d e = tt
      judge (Ok c) (Ok h) d e =
          let size = length-plan E.width standby 0 (whole E.width standby) in
          inside-in (plan_of E.width tonight) (plan_of E.width standby) t (λ l. (judged E N standby b h e).held (omega (arith, size))) x y
          (omega (arith, f c d, length-plan E.width tonight 0 (whole E.width tonight))) (omega (arith, g h e, size))

      by-ports : (fine : Bool)
          → Inside x y (cond fine (after_plan about.Tonight (checking E N tonight) (after E N tonight standby t)) (refused about.Nothing Ports))
      by-ports true = judge (checking E N tonight) (checking E N standby) refl refl
      by-ports false = tt

  pub spot-inside : Inside (whole E.width tonight) (whole E.width standby) (spot_of E N tonight standby t)
  spot-inside = inside_of (whole E.width tonight) (whole E.width standby) (λ c d. omega arith) (λ c d. omega arith)

  pub spot-few : Inside E.records E.records (spot_of E N tonight standby t)
  spot-few = inside_of E.records E.records (judged-few E N tonight b) (judged-few E N standby b)
