-- What the checks of a demand find: its longest line, or why it is refused. Definitions only.
use Rattle.std.specs.Prelude.{ℕ}
use Rattle.std.specs.declared.result.Result.{Result}
use Rattle.switch.specs.declared.Refusal.{Refusal}

abbrev pub Checked : Type 0
Checked = Result ℕ Refusal
