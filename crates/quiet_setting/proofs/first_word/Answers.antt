-- The first word of a label of two has its first 64 digits.
use mathlib.Core.Path.{sym, ap, ◌∙◌}
use Prim.Native.Nat.{ℕ}
use Rattle.sets.specs.Label.{digit}
use Rattle.sets.proofs.Words.{low}
use Rattle.quiet_setting.proofs.first_word.Goals as goal

pub returns : goal.returns
returns c = λ k l. ap (λ (x : ℕ). digit x k) (sym c.row_of-row.ensures) ∙ low _ _ k l
