-- A call that gives a result gives it to the edge too, once its outcome is flattened.
use mathlib.Core.Path.{◌≡◌, ap, ◌∙◌}
use mathlib.Core.List.{List}
use Prim.Native.Nat.{ℕ}
use Rattle.switch.specs.Outcome.{Outcome}
use Rattle.switch.specs.Result.{Result, Gives}
use Rattle.answers.specs.declared.CvAnswer.{CvAnswer}
use Rattle.answers.specs.Flat.{flat, Crosses}

pub crosses : {given : Result} {o : Outcome} {r : CvAnswer} {after : List ℕ} → r ≡ flat o → Gives given o after → Crosses given r after
crosses e g = record { answer = e ∙ ap flat g.outcome; bytes = g.bytes }
