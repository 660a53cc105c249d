-- The lines from a record on are that of the record and those behind it.
use mathlib.Core.List.{map}
use mathlib.Core.Path.{◌≡◌}
use lib.ListN.{length}
use Rattle.records.specs.Record.{decoded}
use Rattle.text.specs.Text.{record_lines}
use Rattle.text.proofs.Put.{Left}
use Rattle.text.proofs.Text.{lines_from}
use Rattle.text.proofs.put_record_lines.Given as goal

abbrev pub invariant-loop-rec : goal.invariant-loop-rec
invariant-loop-rec l = (length l.text ≡ length l.initial.text) × Left l.initial.text l.at (record_lines l.n (map decoded l.plan)) l.text l.to (lines_from l.n l.plan l.rec-index)
