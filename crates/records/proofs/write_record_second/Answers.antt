-- The second edition keeps to the bounds of every edition.
use Rattle.switch.proofs.Editions.{second-bounded}
use Rattle.std.proofs.Common.{rules}
use Rattle.records.proofs.write_record_second.Goals as goal

pub write_for-requires : goal.write_for-requires
write_for-requires c = rw c.second_edition.ensures (second-bounded, search rules)

pub returns : goal.returns
returns c = rw c.second_edition.ensures at c.write_for.ensures
