-- One store puts one byte.
use native.Mathlib.Omega.{arith}
use Rattle.text.proofs.Put.{put_byte}
use Rattle.text.proofs.put_digit.Goals as goal

pub returns : goal.returns
returns c = put_byte _ _ _ (omega arith)
