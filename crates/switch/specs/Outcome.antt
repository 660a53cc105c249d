-- What a call answers: what it counted, or why it refuses. Definitions only.
use Rattle.std.specs.declared.result.Result.{Result}
use Rattle.switch.specs.declared.Counts.{Counts}
use Rattle.switch.specs.declared.Refusal.{Refusal}

abbrev pub Outcome : Type 0
Outcome = Result Counts Refusal
