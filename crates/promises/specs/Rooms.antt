-- What the room promised beforehand is worth to a caller of any planner, in any edition. Definitions only.
use Rattle.std.specs.Prelude.{Ok}
use Rattle.std.specs.Prelude.{◌≡◌, List, [], ◌∷◌, ℕ, ◌≤◌}
use Rattle.switch.specs.declared.Counts.{Counts}
use Rattle.switch.specs.declared.Edition.{Edition}
use Rattle.switch.specs.Answer.{code_of}
use Rattle.switch.specs.Demand.{cell, longest}
use Rattle.switch.specs.Result.{Result}
use Rattle.rules.specs.Exact.{exact_plan}
use Rattle.rules.specs.Quick.{quick_plan}
use Rattle.records.specs.Bytes.{whole}
use Rattle.planner.specs.Planned.{planned, planned_up_to}
use Rattle.room.specs.declared.Planner.{Planner}
use Rattle.room.specs.declared.Planner.TheVariants.{Exact, Doubled, Quick}
use Rattle.room.specs.Room.{exact_room, doubled_room, quick_room, roomed}
use Rattle.promises.specs.Doubled.{Rule, plan_by}

-- the planners, the doubled one by either rule
pub data Method : Type 0 where
  exactly quickly : Method
  doubling : Rule → Method

-- whose room is asked for
abbrev pub planner_of : Method → Planner
planner_of exactly = Exact
planner_of quickly = Quick
planner_of (doubling rule) = Doubled

-- what the planner gives for a demand and a buffer
abbrev pub result_of : Method → Edition → ℕ → List ℕ → List ℕ → Result
result_of exactly E N d = planned E N d (exact_plan E.width N d)
result_of quickly E N d = planned_up_to 1024 E N d (quick_plan E.width N d)
result_of (doubling rule) E N d = planned E N d (plan_by rule E.width N d)

-- the number of records that is promised
abbrev pub number_of : Planner → ℕ → ℕ → ℕ
number_of Exact N T = exact_room N T
number_of Doubled N T = doubled_room N
number_of Quick N T = quick_room T

-- once a call says for N and T how many records suffice, a buffer of so many whole records is never too small for a demand whose lines sum to T at most
abbrev pub Suffices : (m : Method) (E : Edition) → Type 0
Suffices m E = (N T : ℕ) (c : Counts) → roomed E (planner_of m) N T ≡ Ok c → (d buf : List ℕ) → longest N (cell N d) ≤ T
    → c.records ≤ whole E.width buf → code_of (result_of m E N d buf).outcome ≡ 5 → ⊥

-- a demand of three ports whose exact plan has as many records as one of three ports may have, 5
abbrev pub five : List ℕ
five = 0 ∷ 1 ∷ 2 ∷ 1 ∷ 2 ∷ 2 ∷ 0 ∷ 0 ∷ 0 ∷ []
