-- Code 3 comes with its name.
use Rattle.std.proofs.Common.{rules}
use Rattle.carry.specs.Carry.{lines_of}
use Rattle.carry.proofs.lines_of.Goals as goal

pub returns-in_err-map_err : goal.returns-in_err-map_err
unfolding lines_of
returns-in_err-map_err c = search rules

pub returns : goal.returns
unfolding lines_of
returns c = search rules
