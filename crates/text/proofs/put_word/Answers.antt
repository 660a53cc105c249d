-- Each side has its word.
use Rattle.text.specs.Line.{spaced}
use Rattle.text.proofs.put_word.Goals as goal

pub put_bytes-requires : goal.put_bytes-requires
unfolding spaced
put_bytes-requires c = rw c.in-Input.is at c.requires

pub put_bytes-requires-in_default : goal.put_bytes-requires-in_default
unfolding spaced
put_bytes-requires-in_default c = rw c.in_default.is at c.requires

pub returns-in_default : goal.returns-in_default
unfolding spaced
returns-in_default c = rw c.in_default.is c.put_bytes-in_default.ensures

pub returns-in-Input : goal.returns-in-Input
unfolding spaced
returns-in-Input c = rw c.in-Input.is c.put_bytes.ensures
