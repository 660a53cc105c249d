-- The length is by definition the total hold and what the records are charged, and no record is charged more than d.
use Rattle.std.specs.Prelude.{Err, Ok}
use mathlib.Core.Path.{◌≡◌, refl, sym, ap, ◌∙◌, subst}
use mathlib.Core.List.{List, [], ◌∷◌}
use Prim.Native.Nat.{ℕ}
use native.Mathlib.Omega.{arith}
use lib.ListN.{length}
use Rattle.switch.specs.Outcome.{Outcome}
use Rattle.switch.specs.Answer.{code_of}
use Rattle.switch.proofs.Answer.{code-done}
use Rattle.switch.specs.Plan.{Record}
use Rattle.records.specs.Bytes.{plan_of}
use Rattle.switch.specs.declared.Edition.{Edition}
use Rattle.switch.specs.Editions.{first_edition, Bounded}
use Rattle.plans.specs.Read.{checking}
use Rattle.switch.proofs.Editions.{first-bounded}
use Rattle.switch.specs.Result.{by_outcome}
use Rattle.plans.specs.Reading.{reading}
use Rattle.length.specs.Length.{charge, length_of, length_counts, plan_length}
use Rattle.length.proofs.Length.{charge-first, charge-moved, charge-kept, length-le, length_none}
use Rattle.promises.specs.Calls.{PlanLength}
use Rattle.promises.specs.Reading.{Unread}
use Rattle.promises.specs.Length.{Lasts, Measured}
use Rattle.promises.proofs.Outcomes.{never, same-counts, same-refusal}
use Rattle.promises.proofs.Reading.{good-checks, checks-good, unread}

counted : (d : ℕ) (p : List Record) → Lasts d p (length_counts d p)
unfolding length_of
counted d p = record {
  records = refl;
  holds = refl;
  charge = charge d p;
  charges = record { first = charge-first d p; moved = charge-moved d p; kept = charge-kept d p };
  lasts = refl;
  most = length-le d p;
  empty = none p;
}
  where
    none : (q : List Record) → length q ≡ 0 → length_of d q ≡ 0
    none [] e = length_none d
    none (r ∷ q) e = absurd (omega (arith, e))

module _ (E : Edition) (bounds : Bounded E) (N : ℕ) (plan : List ℕ) (d : ℕ) (r : Outcome) (met : r ≡ plan_length E d N plan) where
  abbrev p : List Record
  p = plan_of E.width plan

  pub length-measured : Measured E N plan d r
  unfolding plan_length reading
  length-measured = by (checking E N plan) refl
    where
      by : (o : Outcome) → checking E N plan ≡ o → Measured E N plan d r
      by (Ok o) e =
          let is : r ≡ Ok (length_counts d p) = met ∙ ap (λ (x : Outcome). by_outcome x Err (λ c. Ok (length_counts d p))) e in
          record {
            taken = λ g. ap code_of is;
            only_then = λ z. checks-good E N plan bounds o e;
            refuses = λ f q. never (sym q ∙ is);
            lasts = λ z. subst (Lasts d p) (same-counts (sym is ∙ code-done r z)) (counted d p);
          }
      by (Err x) e =
          let is : r ≡ Err x = met ∙ ap (λ (y : Outcome). by_outcome y Err (λ c. Ok (length_counts d p))) e in
          record {
            taken = λ g. never (sym e ∙ good-checks E N plan bounds g);
            only_then = λ z. never (sym is ∙ code-done r z);
            refuses = λ f q. subst (Unread E N plan) (same-refusal (sym is ∙ q)) (unread E bounds N plan x e);
            lasts = λ z. never (sym is ∙ code-done r z);
          }

-- the length of a plan
pub length-promise : (N : ℕ) (plan : List ℕ) (d : ℕ) (r : Outcome) → PlanLength N plan d r → Measured first_edition N plan d r
length-promise N plan d r met = length-measured first_edition first-bounded N plan d r met
