-- The first edition keeps to the bounds of every edition.
use Rattle.switch.proofs.Editions.{first-bounded}
use Rattle.std.proofs.Common.{rules}
use Rattle.records.proofs.write_record.Goals as goal

pub write_for-requires : goal.write_for-requires
write_for-requires c = rw c.first_edition.ensures (first-bounded, search rules)

pub returns : goal.returns
returns c = rw c.first_edition.ensures at c.write_for.ensures
