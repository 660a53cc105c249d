-- The kind of a step that crosses the edge tells its code, and its code and place are those of a refused record.
use mathlib.Core.Path.{◌≡◌, refl}
use Prim.Native.Nat.{ℕ}
use Rattle.switch.specs.declared.Refusal.TheVariants as refusal
use Rattle.switch.specs.Answer.{refusal_code, refusal_place}
use Rattle.plans.specs.declared.Step.{Step}
use Rattle.plans.specs.declared.Step.TheVariants.{Record, End, Malformed}
use Rattle.plans.specs.Read.{step_code, step_place}
use Rattle.answers.specs.Flat.{kind_of, kind_code}

pub kind-tells : (s : Step) → kind_code (kind_of s) ≡ step_code s
kind-tells Record = refl
kind-tells End = refl
kind-tells (Malformed k) = refl

pub damage-refused : (k : ℕ) → (step_code (Malformed k) ≡ refusal_code (refusal.Malformed k)) × (step_place (Malformed k) ≡ refusal_place (refusal.Malformed k))
damage-refused k = (refl, refl)
