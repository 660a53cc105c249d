-- A lookup finds what the definition finds, of which the crate lookup has shown that it is the record in force; each refusal is the first that holds.
use Rattle.std.specs.Prelude.{Err, Ok}
use mathlib.Core.Path.{◌≡◌, refl, sym, ◌∙◌, subst}
use mathlib.Core.Logic.{dite}
use mathlib.Core.List.{List, []}
use Prim.Native.Nat.{ℕ, ◌<◌, ◌≤◌}
use native.Mathlib.Decide.{ℕ_discrete, dec_lt}
use native.Mathlib.Omega.{arith}
use lib.ListN.{length}
use Rattle.switch.specs.declared.About.{About}
use Rattle.switch.specs.declared.About.TheVariants as about
use Rattle.switch.specs.declared.Counts.{Counts}
use Rattle.switch.specs.declared.Edition.{Edition}
use Rattle.switch.specs.Outcome.{Outcome}
use Rattle.switch.specs.declared.Refusal.{Refusal}
use Rattle.switch.specs.Editions.{first_edition, Bounded}
use Rattle.switch.specs.Plan.{Record, total}
use Rattle.switch.proofs.Answer.{code-done}
use Rattle.switch.proofs.Check.{some-ports, no-ports, many-ports}
use Rattle.switch.proofs.Editions.{first-bounded}
use Rattle.records.specs.Bytes.{whole, plan_of}
use Rattle.plans.specs.Read.{checking}
use Rattle.plans.proofs.Plans.{length-plan}
use Rattle.lookup.specs.declared.Found.{Found}
use Rattle.lookup.specs.Lookup.{Answered, after_plan, spot_of, part_of, found_of}
use Rattle.lookup.proofs.Lookup.{spot-tonight, spot-nothing, spot-standby, plan-refused, plan-judged, of-ports, of-plans, within, after, judged}
use Rattle.lookup.proofs.Meaning.{tonight-stands, standby-stands}
use Rattle.promises.specs.Calls.{FindInForce, PartInForce}
use Rattle.promises.specs.Reading.{GoodPlan}
use Rattle.promises.specs.Lookup as is
use Rattle.promises.specs.Lookup.{Stands, Unfound, LooksUp}
use Rattle.promises.proofs.Outcomes.{never, same-refusal}
use Rattle.promises.proofs.Reading.{checks-good, unread}

module _ (E : Edition) (bounds : Bounded E) (N : ℕ) (tonight standby : List ℕ) (t : ℕ) where
  abbrev p : List Record
  p = plan_of E.width tonight

  abbrev s : List Record
  s = plan_of E.width standby

  -- what is promised of a spot
  abbrev Looked : Answered → Type 0
  Looked x = LooksUp E N tonight standby t (found_of E x) (part_of E x tonight standby)

  refused : (a : About) (f : Refusal) → Unfound E N tonight standby t a f → LooksUp E N tonight standby t (record { outcome = Err f; about = a; plan = 0; start = 0; size = 0 }) []
  refused a f u = record { stands = λ z. never (code-done (Err f) z); refuses = λ x q. (subst (Unfound E N tonight standby t a) (same-refusal q) u, refl) }

  found : (x : Found) (part : List ℕ) {c : Counts} → x.outcome ≡ Ok c → Stands E tonight standby t x part → LooksUp E N tonight standby t x part
  found x part e st = record { stands = λ z. st; refuses = λ f q. never (sym q ∙ e) }

  -- both plans are fine
  module _ (g : GoodPlan E N tonight) (h : GoodPlan E N standby) (held : 0 < whole E.width standby → 0 < total s) where
    looked-in : Looked (within E N tonight standby t)
    looked-in =
        dite (dec_lt t (total p))
        (λ l. subst Looked (spot-tonight p s t l) (found _ _ refl (is.Stands.in-tonight _ (tonight-stands p s t l))))
        (λ n. let over : total p ≤ t = omega (arith, n) in dite (ℕ_discrete (length s) 0)
        (λ e. subst Looked (spot-nothing p s t over e) (refused _ _ (is.Unfound.nothing g h over (omega (arith, e, size)))))
        (λ m. subst Looked (spot-standby p s t over m) (found _ _ refl (is.Stands.in-standby _ over (standby-stands p s t (held (omega (arith, m, size))))))))
      where
        size : length s ≡ whole E.width standby
        size = length-plan E.width standby 0 (whole E.width standby)

  looked-after : GoodPlan E N tonight → Looked (after E N tonight standby t)
  looked-after g = by (checking E N standby) refl
    where
      by : (o : Outcome) → o ≡ checking E N standby → Looked (after E N tonight standby t)
      by (Ok c) e = subst Looked (plan-judged about.Standby _ e) (looked-in g (checks-good E N standby bounds c (sym e)) (judged E N standby bounds c e).held)
      by (Err f) e = subst Looked (plan-refused about.Standby _ e) (refused _ _ (is.Unfound.in-standby g (unread E bounds N standby f (sym e))))

  looked : Looked (spot_of E N tonight standby t)
  looked =
      dite (dec_lt 0 N)
      (λ some. dite (dec_lt E.ports N)
      (λ l. subst Looked (of-ports E N tonight standby t (many-ports _ _ l)) (refused _ _ (is.Unfound.no-ports (λ _ few. omega arith))))
      (λ n. let few : N ≤ E.ports = omega (arith, n) in
      subst Looked (of-plans E N tonight standby t (some-ports _ _ some few)) (by some few (checking E N tonight) refl)))
      (λ none. subst Looked (of-ports E N tonight standby t (no-ports _ _ (omega (arith, none)))) (refused _ _ (is.Unfound.no-ports (λ some _. none some))))
    where
      by : 0 < N → N ≤ E.ports → (o : Outcome) → o ≡ checking E N tonight → Looked (after_plan about.Tonight (checking E N tonight) (after E N tonight standby t))
      by some few (Ok c) e = subst Looked (plan-judged about.Tonight _ e) (looked-after (checks-good E N tonight bounds c (sym e)))
      by some few (Err f) e = subst Looked (plan-refused about.Tonight _ e) (refused _ _ (is.Unfound.in-tonight some few (unread E bounds N tonight f (sym e))))

-- the record in force, in numbers and as a part of one of the two plans
pub lookup-promise : (N : ℕ) (tonight standby : List ℕ) (t : ℕ) (r : Found) (part : List ℕ) → FindInForce N tonight standby t r → PartInForce N tonight standby t part
    → LooksUp first_edition N tonight standby t r part
lookup-promise N tonight standby t r part f g = rw (f, g) (looked first_edition first-bounded N tonight standby t)
