-- The fields from an output on are that of the output and those behind it.
use mathlib.Core.List.{map}
use mathlib.Core.Path.{◌≡◌}
use lib.ListN.{length}
use Rattle.text.specs.Line.{spaced}
use Rattle.text.specs.Text.{output_field}
use Rattle.text.proofs.Put.{Left}
use Rattle.text.proofs.Text.{fields_from}
use Rattle.text.proofs.put_outputs.Given as goal

abbrev pub invariant-loop-output : goal.invariant-loop-output
invariant-loop-output l = (length l.text ≡ length l.initial.text) × Left l.initial.text l.at (spaced (map output_field l.outputs)) l.text l.to (fields_from l.outputs l.output-index)
