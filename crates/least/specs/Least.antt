-- What the call that tells the least total within a limit answers. Definitions only.
use Rattle.std.specs.Prelude.{Err, Ok}
use Rattle.std.specs.Prelude.{List, ℕ, ltb}
use Rattle.switch.specs.declared.Edition.{Edition}
use Rattle.switch.specs.Outcome.{Outcome}
use Rattle.switch.specs.declared.Refusal.TheVariants.{Limit}
use Rattle.switch.specs.Answer.{plan_counts}
use Rattle.switch.specs.Demand.{cell}
use Rattle.switch.specs.Result.{unless}
use Rattle.demand.specs.Checked.{Checked}
use Rattle.demand.specs.Check.{check_demand}
use Rattle.quiet_rule.specs.Limit.{least_within}

-- a demand that is refused by itself, and else what is answered with its longest line
abbrev pub answer_after : Checked → (ℕ → Outcome) → Outcome
answer_after (Ok T) go = go T
answer_after (Err r) go = Err r

-- refusals 1, 2 and 3, then 17: a limit of 0; else T, and as total the least that a plan within the limit can have
unfoldable pub least_of : (E : Edition) (N : ℕ) (d : List ℕ) (L : ℕ) → Outcome
least_of E N d L = answer_after (check_demand E.width N d) (λ T. unless (ltb 0 L) (Err Limit) (Ok (plan_counts 0 T (least_within N L (cell N d)))))
