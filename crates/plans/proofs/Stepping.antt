-- A step over the record that stands at its place: it is told by what the check of the record finds.
use Rattle.std.specs.Prelude.{Ok}
use mathlib.Core.Path.{◌≡◌, sym, ap, ◌∙◌, subst}
use mathlib.Core.Bool.{Bool, true, false, not}
use mathlib.Core.List.{List}
use Prim.Native.Nat.{ℕ, ◌+◌, ◌-◌, ◌<◌}
use lib.ListN.{length, replicate}
use borrow.Author.Tests.{not-true, not-false}
use Rattle.switch.specs.declared.Counts.{Counts}
use Rattle.switch.specs.declared.Edition.{Edition}
use Rattle.switch.specs.Editions.{Bounded}
use Rattle.records.specs.Record.{well_formed}
use Rattle.records.specs.Bytes.{record_at}
use Rattle.plans.specs.declared.Step.{Step}
use Rattle.plans.specs.declared.Step.TheVariants as step
use Rattle.plans.specs.declared.Stepped.{Stepped}
use Rattle.plans.specs.Read.{opening, nothing, given, step_at, Took}
use Rattle.plans.specs.Reading.{Readable}
use Rattle.plans.proofs.Read.{step-malformed, step-record, step-opened}
use Rattle.plans.proofs.Reading.{readable}
use Rattle.plans.proofs.Pass.{read-size, read-fine}

-- the same step by another name
pub took-as : {V W : ℕ} {x y : Stepped V} {t : Stepped W} → y ≡ x → Took y t → Took x t
took-as {V} {t = t} is = subst (λ (z : Stepped V). Took z t) is

-- a step that gives no record
pub took_none : (E : Edition) (s : Step) (at : ℕ) {x : Stepped E.width} → nothing E s at ≡ x → {W : ℕ} → W ≡ E.width → {t : Stepped W}
    → t ≡ record { step = s; hold = 0; outputs = replicate W 255; next = at } → Took x t
took_none E s at is {W} width e = took-as is (record {
  step = ap (λ (y : Stepped W). y.step) e;
  hold = ap (λ (y : Stepped W). y.hold) e;
  outputs = ap (λ (y : Stepped W). y.outputs) e ∙ ap (λ (w : ℕ). replicate w 255) width;
  next = ap (λ (y : Stepped W). y.next) e;
})

-- a plan that is opened, and b, the record at its place
module _ (E : Edition) (bounds : Bounded E) (N : ℕ) (plan : List ℕ) {c : Counts} (opens : Ok c ≡ opening E N plan) (at : ℕ) (l : at < c.records) where
  can : Readable E N plan c.records
  can = readable E N plan c bounds opens

  module _ (b : List ℕ) (is : b ≡ record_at E.width plan at) where
    pub here-size : length b ≡ E.width + 4
    here-size = read-size E N plan c.records can at 0 l b is

    module _ (fine : Bool) (found : fine ≡ well_formed (length b - 4) E.byte N b) where
      pub here-malformed : not fine ≡ true → nothing E (step.Malformed at) at ≡ step_at E N plan at
      here-malformed n =
          step-malformed E c.records N plan at l (sym (read-fine E N plan c.records can at 0 l b is) ∙ sym found ∙ not-true fine n)
          ∙ step-opened E N plan at opens

      pub here-record : not fine ≡ false → given b (at + 1) ≡ step_at E N plan at
      here-record n =
          ap (λ (x : List ℕ). given x (at + 1)) is
          ∙ step-record E c.records N plan at l (sym (read-fine E N plan c.records can at 0 l b is) ∙ sym found ∙ not-false fine n)
          ∙ step-opened E N plan at opens
