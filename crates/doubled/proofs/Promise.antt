-- The contracts give the outcome and the buffer by a definition, so they determine both; and both rules are instances of one law.
use mathlib.Core.Path.{◌≡◌}
use mathlib.Core.List.{List}
use Prim.Native.Nat.{ℕ, ◌*◌, ◌≤◌, ◌<◌}
use lib.ListN.{length}
use Rattle.switch.specs.Outcome.{Outcome}
use Rattle.switch.specs.declared.Edition.{Edition}
use Rattle.switch.specs.Plan.{Record}
use Rattle.switch.proofs.Answer.{determined}
use Rattle.rules.specs.Doubled.{every_rotation_plan, doubled_plan, Doubled}
use Rattle.rules.proofs.Rotate.{doubled}
use Rattle.rules.proofs.Tight.{tight-doubled}
use Rattle.planner.specs.Planned.{planned}
use Rattle.turns.specs.declared.Rule.{Rule}
use Rattle.turns.specs.declared.Rule.TheVariants.{Tight, Every}
use Rattle.turns.specs.declared.Turning.TheVariants.{Forward}
use Rattle.turns.specs.Second.{doubled_rule}

-- any two outcomes, and any two buffers afterwards, that satisfy either contract are equal
module _ (E : Edition) (N : ℕ) (d : List ℕ) (p : List Record) (buf : List ℕ) where
  pub same_outcome : (r s : Outcome) → r ≡ (planned E N d p buf).outcome → s ≡ (planned E N d p buf).outcome → r ≡ s
  same_outcome r s x y = determined r s _ x y

  pub same_bytes : (l m : List ℕ) → l ≡ (planned E N d p buf).bytes → m ≡ (planned E N d p buf).bytes → l ≡ m
  same_bytes l m x y = determined l m _ x y

-- both bounds and the cover, by either rule: each has holds from the largest remainder to u - 1, which is what `doubled-any` asks
pub either-rule : (r : Rule) (W N : ℕ) → 0 < N → N ≤ W → (d : List ℕ) → N * N ≤ length d → Doubled N d (doubled_rule r Forward W N d)
unfolding doubled_plan every_rotation_plan
either-rule Tight W N pos top d s = tight-doubled W N pos top d s
either-rule Every W N pos top d s = doubled W N pos top d s
