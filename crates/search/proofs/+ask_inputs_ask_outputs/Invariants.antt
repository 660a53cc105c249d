-- A wave is marked before its holders are asked, so that fewer outputs are left to try: the search ends, with one handed on or with a closed set.
use Rattle.std.proofs.Common.{◌+◌, ◌*◌}
use Rattle.sets.specs.Label.{absent}
use Rattle.search.specs.Tables.{tried_of}
use Rattle.search.proofs.+ask_inputs_ask_outputs.Given as goal

-- the outputs that are left to try, twice, and one more for inputs, which ask for a wave of the same outputs
abbrev pub decreases-ask_inputs : goal.decreases-ask_inputs
decreases-ask_inputs l = 2 * absent 128 (tried_of l.tried) + 1

abbrev pub decreases-ask_outputs : goal.decreases-ask_outputs
decreases-ask_outputs l = 2 * absent 128 (tried_of l.tried)
