-- The contracts of the second edition's calls that are no planners, and of the move between the editions. Definitions only.
use Rattle.std.specs.Prelude.{◌≡◌, List, ℕ}
use Rattle.switch.specs.Outcome.{Outcome}
use Rattle.switch.specs.Editions.{first_edition, second_edition}
use Rattle.switch.specs.Result.{Gives}
use Rattle.wishes.specs.Wishes.{wishing}
use Rattle.records.specs.Write.{written}
use Rattle.plans.specs.Read.{opening, step_at}
use Rattle.checker.specs.Check.{check_plan}
use Rattle.length.specs.Length.{plan_length}
use Rattle.joining.specs.Join.{joining}
use Rattle.moving.specs.Move.{movable, moving}
use Rattle.answers.specs.declared.CvAnswer.{CvAnswer}
use Rattle.answers.specs.declared.Cv2Step.{Cv2Step}
use Rattle.answers.specs.Flat.{flat, flat_wide, Crosses}

-- checker::check_plan_second(n, cells, plan)
abbrev pub CheckSecond : (N : ℕ) (d plan : List ℕ) → Outcome → Type 0
CheckSecond N d plan r = r ≡ check_plan second_edition N d plan

-- length::plan_length_second(n, plan, d)
abbrev pub LengthSecond : (N : ℕ) (plan : List ℕ) (d : ℕ) → Outcome → Type 0
LengthSecond N plan d r = r ≡ plan_length second_edition d N plan

-- joining::join_plan_second(n, plan, joined)
abbrev pub JoinSecond : (N : ℕ) (plan buf : List ℕ) → Outcome → List ℕ → Type 0
JoinSecond N plan buf = Gives (joining second_edition N plan buf)

-- moving::to_second(n, plan, moved)
abbrev pub ToSecond : (N : ℕ) (plan buf : List ℕ) → Outcome → List ℕ → Type 0
ToSecond N plan buf = Gives (moving first_edition second_edition N plan buf)

-- moving::to_first(n, plan, moved)
abbrev pub ToFirst : (N : ℕ) (plan buf : List ℕ) → Outcome → List ℕ → Type 0
ToFirst N plan buf = Gives (moving movable first_edition N plan buf)

-- ---- the edge

-- cv2_wishes(n, list, cells)
abbrev pub Cv2Wishes : (N : ℕ) (list cells : List ℕ) → CvAnswer → List ℕ → Type 0
Cv2Wishes N list cells = Crosses (wishing second_edition N list cells)

-- cv2_check(n, cells, plan)
abbrev pub Cv2Check : (N : ℕ) (d plan : List ℕ) → CvAnswer → Type 0
Cv2Check N d plan r = r ≡ flat (check_plan second_edition N d plan)

-- cv2_length(n, plan, d)
abbrev pub Cv2Length : (N : ℕ) (plan : List ℕ) (d : ℕ) → CvAnswer → Type 0
Cv2Length N plan d r = r ≡ flat (plan_length second_edition d N plan)

-- cv2_join(n, plan, joined)
abbrev pub Cv2Join : (N : ℕ) (plan buf : List ℕ) → CvAnswer → List ℕ → Type 0
Cv2Join N plan buf = Crosses (joining second_edition N plan buf)

-- cv2_write(hold, n, outputs, plan)
abbrev pub Cv2Write : (hold N : ℕ) (outputs buf : List ℕ) → CvAnswer → List ℕ → Type 0
Cv2Write hold N outputs buf = Crosses (written second_edition hold N outputs buf)

-- cv2_open(n, plan)
abbrev pub Cv2Open : (N : ℕ) (plan : List ℕ) → CvAnswer → Type 0
Cv2Open N plan r = r ≡ flat (opening second_edition N plan)

-- cv2_step_at(n, plan, at)
abbrev pub Cv2StepAt : (N : ℕ) (plan : List ℕ) (at : ℕ) → Cv2Step → Type 0
Cv2StepAt N plan at r = r ≡ flat_wide (step_at second_edition N plan at)

-- cv_to_second(n, plan, moved)
abbrev pub CvToSecond : (N : ℕ) (plan buf : List ℕ) → CvAnswer → List ℕ → Type 0
CvToSecond N plan buf = Crosses (moving first_edition second_edition N plan buf)

-- cv_to_first(n, plan, moved)
abbrev pub CvToFirst : (N : ℕ) (plan buf : List ℕ) → CvAnswer → List ℕ → Type 0
CvToFirst N plan buf = Crosses (moving movable first_edition N plan buf)
