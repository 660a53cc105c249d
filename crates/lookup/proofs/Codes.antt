-- A refusal names a plan exactly where its code is 9, 10 or 11: N is judged before both plans, and code 14 comes after them.
use Rattle.std.specs.Prelude.{Err, Ok}
use mathlib.Core.Path.{◌≡◌, refl, subst}
use mathlib.Core.Bool.{Bool, true, false, ◌&&◌, cond}
use mathlib.Core.List.{List}
use Prim.Native.Nat.{ℕ, ◌+◌, ◌%◌}
use lib.Dec.{ltb, leb, eqb}
use lib.ListN.{length}
use Rattle.switch.specs.declared.About.{About}
use Rattle.switch.specs.declared.About.TheVariants as about
use Rattle.switch.specs.Outcome.{Outcome}
use Rattle.switch.specs.declared.Refusal.{Refusal}
use Rattle.switch.specs.declared.Refusal.TheVariants.{Torn, Records, Malformed, NotInForce}
use Rattle.switch.specs.Answer.{refusal_code, about_number, plan_counts}
use Rattle.switch.specs.Check.{ports_fine}
use Rattle.switch.specs.Plan.{Record, total}
use Rattle.records.specs.Bytes.{whole, plan_of}
use Rattle.switch.specs.declared.Edition.{Edition}
use Rattle.switch.specs.Result.{by_outcome}
use Rattle.plans.specs.Read.{opening, checking_in, checking}
use Rattle.lookup.specs.declared.Spot.TheVariants as spot
use Rattle.lookup.specs.Lookup.{Answered, in_tonight, in_standby, refused, repeating, spot_in, after_plan, spot_of}
use Rattle.lookup.proofs.Lookup.{within, after, of-ports, of-plans}

-- what holds of both branches
either : {A : Type 0} (P : A → Type 0) (b : Bool) (x y : A) → P x → P y → P (cond b x y)
either P true x y p q = p
either P false x y p q = q

-- codes 9, 10 and 11
abbrev pub of_plan : Refusal → Bool
of_plan r = leb 9 (refusal_code r) && leb (refusal_code r) 11

-- what is said of an outcome's refusal
abbrev Plans : Outcome → Type 0
Plans (Ok c) = Unit {0}
Plans (Err r) = of_plan r ≡ true

-- where N is fine, a whole plan is refused by 9, 10 and 11 alone
module _ (E : Edition) (N : ℕ) (plan : List ℕ) where
  in-plan : (m : ℕ) → Plans (checking_in m E N plan)
  unfolding checking_in
  in-plan m = either Plans (ltb _ m) (Err (Malformed _)) (Ok _) refl tt

  abbrev Whole : Outcome → Type 0
  Whole o = Plans (by_outcome o Err (λ c. checking_in c.records E N plan))

  pub of-plan : ports_fine E.ports N ≡ true → Plans (checking E N plan)
  unfolding checking opening
  of-plan fine =
      let w = whole E.width plan in
      let counted = Ok (plan_counts w 0 0) in
      let many = Err (Records E.records) in
      let few = leb w E.records in
      let even = eqb (length plan % (E.width + 4)) 0 in
      rw fine (either Whole even (cond few counted many) (Err (Torn w)) (either Whole few counted many (in-plan w) refl) refl)

-- what is said of a spot's refusal
abbrev Names : Answered → Type 0
Names (Ok (spot.Tonight k)) = Unit {0}
Names (Ok (spot.Standby k)) = Unit {0}
Names (Err b) = of_plan b.refusal ≡ ltb 0 (about_number b.about)

names_in : (p s : List Record) (t : ℕ) → Names (spot_in p s t)
unfolding spot_in repeating
names_in p s t =
    either Names (ltb t (total p)) (in_tonight _) _ tt
    (either Names (eqb (length s) 0) (refused about.Nothing NotInForce) (in_standby _) refl tt)

names-after : (a : About) → ltb 0 (about_number a) ≡ true → (o : Outcome) (s : Answered) → Plans o → Names s → Names (after_plan a o s)
names-after a e (Ok c) s p n = n
names-after a e (Err r) s p n = rw (p, e)

pub names-plan : (E : Edition) (N : ℕ) (tonight standby : List ℕ) (t : ℕ) → Names (spot_of E N tonight standby t)
names-plan E N tonight standby t = by (ports_fine E.ports N) refl
  where
    by : (fine : Bool) → ports_fine E.ports N ≡ fine → Names (spot_of E N tonight standby t)
    by false e = subst Names (of-ports E N tonight standby t e) refl
    by true e =
        subst Names (of-plans E N tonight standby t e)
        (names-after about.Tonight refl (checking E N tonight) (after E N tonight standby t) (of-plan E N tonight e)
        (names-after about.Standby refl (checking E N standby) (within E N tonight standby t) (of-plan E N standby e)
        (names_in (plan_of E.width tonight) (plan_of E.width standby) t)))

pub names : (E : Edition) (N : ℕ) (tonight standby : List ℕ) (t : ℕ) (a : About) (r : Refusal)
    → spot_of E N tonight standby t ≡ refused a r → of_plan r ≡ ltb 0 (about_number a)
names E N tonight standby t a r e = subst Names e (names-plan E N tonight standby t)
