-- What crosses the edge tells the call's own answer: an outcome can be read back from its numbers, and code 0 is success alone.
use mathlib.Core.Path.{◌≡◌, refl, ap}
use mathlib.Core.List.{List}
use Prim.Native.Nat.{ℕ}
use Rattle.switch.specs.Outcome.{Outcome}
use Rattle.switch.specs.declared.Numbers.{Numbers}
use Rattle.switch.specs.Result.{Result, Gives}
use Rattle.switch.proofs.Answer.{answer-tells}
use Rattle.answers.specs.declared.CvAnswer.{CvAnswer}
use Rattle.answers.specs.Flat.{flat, Crosses}

-- the numbers of an answer at the edge
numbers : CvAnswer → Numbers
numbers a = record {
  code = a.code;
  place = a.place;
  side = a.side;
  counts = record { records = a.records; longest = a.longest; total = a.total; length = a.length; empty = a.empty };
}

-- two outcomes that look the same from outside are the same
pub flat-tells : (o p : Outcome) → flat o ≡ flat p → o ≡ p
unfolding numbers
flat-tells o p e = answer-tells o p (ap numbers e)

-- so all that is promised of a call holds of its answer at the edge
pub crosses : {x : Result} {r : CvAnswer} {after : List ℕ} → Crosses x r after → (o : Outcome) × Gives x o after × (r ≡ flat o)
crosses {x} met = (x.outcome, record { outcome = refl; bytes = met.bytes }, met.answer)
