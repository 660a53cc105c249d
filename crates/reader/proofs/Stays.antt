-- A step that gives no record leaves the reader as it was, so that every further step of it gives the same answer.
use mathlib.Core.Path.{◌≡◌, ap}
use Rattle.plans.specs.declared.Step.TheVariants as step
use Rattle.switch.specs.Editions.{first_edition}
use Rattle.plans.specs.Read.{step_at}
use Rattle.plans.proofs.Read as plans
use Rattle.reader.specs.declared.Reader.{Reader}
use Rattle.reader.specs.Reader.{moved_to}

pub stays : (r : Reader) → ((step_at first_edition r.n r.plan.now r.at).step ≡ step.Record → ⊥) → moved_to r (step_at first_edition r.n r.plan.now r.at).next ≡ r
stays r none = ap (moved_to r) (plans.stays first_edition r.n r.plan.now r.at none)
