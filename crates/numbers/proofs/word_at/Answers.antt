-- The word of four bytes, spelled out.
use Rattle.std.proofs.Common.{arith}
use Rattle.numbers.specs.Word.{word}
use Rattle.numbers.proofs.word_at.Goals as goal

pub returns : goal.returns
unfolding word
returns c = omega (arith, c.from_le_bytes.ensures)
