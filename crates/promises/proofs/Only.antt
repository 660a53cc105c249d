-- Any two results that meet a call's contract are equal: each contract gives answer and lent memory by a definition, and what equals one thing is one thing.
use Rattle.carry.specs.Carry.{Carried, new_cells, cells_after}
use Rattle.switch.specs.Editions.{first_edition}
use mathlib.Core.Path.{◌≡◌, sym, ap, ◌∙◌}
use mathlib.Core.List.{List}
use Prim.Native.Nat.{ℕ}
use lib.Ieee.{Float}
use denote.Ref.{Bor}
use Rattle.switch.specs.declared.Edition.{Edition}
use Rattle.switch.specs.Result.{Result, Gives}
use Rattle.switch.proofs.Answer.{determined}
use Rattle.switch.proofs.Result.{gives_one}
use Rattle.plans.specs.declared.Stepped.{Stepped}
use Rattle.reader.specs.declared.Reader.{Reader}
use Rattle.reader.specs.Reader.{moved_to}
use Rattle.room.specs.declared.Planner.{Planner}
use Rattle.room.specs.declared.Planner.TheVariants.{Exact, Doubled, Quick}
use Rattle.answers.specs.Flat.{Crosses}
use Rattle.promises.specs.Only.{OneAnswer, OneResult}
use Rattle.promises.specs.Calls as call

-- what equals one thing
pub one : {A : Type 0} (x : A) → OneAnswer (λ r. r ≡ x)
one x a b = determined a b x

-- and in lent memory
pub gives-one-result : (x : Result) → OneResult (Gives x)
gives-one-result x a b k l p q = gives_one p q

pub crosses-one-result : (x : Result) → OneResult (Crosses x)
crosses-one-result x a b k l p q = (one _ a b p.answer q.answer, one _ k l p.bytes q.bytes)

-- ---- the calls

pub wish-one-answer : (bits : ℕ) → OneAnswer (call.OfBits bits)
wish-one-answer bits = one _

pub classify-one-answer : (x : Float) → OneAnswer (call.Classify x)
classify-one-answer x = one _

pub wishes-one-result : (E : Edition) (N : ℕ) (list cells : List ℕ) → OneResult (call.WishList E N list cells)
wishes-one-result E N list cells = gives-one-result _

pub exact-one-result : (N : ℕ) (d buf : List ℕ) → OneResult (call.ExactPlan N d buf)
exact-one-result N d buf = gives-one-result _

pub doubled-one-result : (N : ℕ) (d buf : List ℕ) → OneResult (call.DoubledPlan N d buf)
doubled-one-result N d buf = gives-one-result _

pub every-rotation-one-result : (N : ℕ) (d buf : List ℕ) → OneResult (call.EveryRotation N d buf)
every-rotation-one-result N d buf = gives-one-result _

pub quick-one-result : (N : ℕ) (d buf : List ℕ) → OneResult (call.QuickPlan N d buf)
quick-one-result N d buf = gives-one-result _

pub exact-second-one-result : (N : ℕ) (d buf : List ℕ) → OneResult (call.ExactPlanSecond N d buf)
exact-second-one-result N d buf = gives-one-result _

pub doubled-second-one-result : (N : ℕ) (d buf : List ℕ) → OneResult (call.DoubledPlanSecond N d buf)
doubled-second-one-result N d buf = gives-one-result _

pub every-rotation-second-one-result : (N : ℕ) (d buf : List ℕ) → OneResult (call.EveryRotationSecond N d buf)
every-rotation-second-one-result N d buf = gives-one-result _

pub quick-second-one-result : (N : ℕ) (d buf : List ℕ) → OneResult (call.QuickPlanSecond N d buf)
quick-second-one-result N d buf = gives-one-result _

pub grating-doubled-one-result : (N : ℕ) (d buf : List ℕ) → OneResult (call.GratingDoubled N d buf)
grating-doubled-one-result N d buf = gives-one-result _

pub quiet-one-result : (N : ℕ) (d : List ℕ) (L : ℕ) (buf : List ℕ) → OneResult (call.QuietPlan N d L buf)
quiet-one-result N d L buf = gives-one-result _

pub least-one-answer : (N : ℕ) (d : List ℕ) (L : ℕ) → OneAnswer (call.LeastWithin N d L)
least-one-answer N d L = one _

pub write-one-result : (E : Edition) (hold N : ℕ) (outputs buf : List ℕ) → OneResult (call.WriteRecord E hold N outputs buf)
write-one-result E hold N outputs buf = gives-one-result _

pub open-one-answer : (E : Edition) (N : ℕ) (plan : List ℕ) → OneAnswer (call.OpenPlan E N plan)
open-one-answer E N plan = one _

pub step-one-answer : (E : Edition) (N : ℕ) (plan : List ℕ) (at : ℕ) → OneAnswer (call.StepAt E N plan at)
step-one-answer E N plan at = one _

pub step-second-one-answer : (N : ℕ) (plan : List ℕ) (at : ℕ) → OneAnswer (call.StepSecond N plan at)
step-second-one-answer N plan at = one _

-- a reader and the step that it takes
pub reader-one-answer : (N : ℕ) (plan : Bor (List ℕ)) → OneAnswer (call.OpenReader N plan)
reader-one-answer N plan a b p q = λ i. record { answer = one _ _ _ p.0 q.0 i; reader = one _ _ _ p.1 q.1 i }

pub reader-step-one-result : (r : Reader) → OneResult (call.ReaderStep r)
reader-step-one-result r a b l m p q =
    let same : a ≡ b = one _ a b p.0 q.0 in
    (same, p.1 ∙ ap (λ (s : Stepped 64). moved_to r s.next) same ∙ sym q.1)

pub check-one-answer : (N : ℕ) (d plan : List ℕ) → OneAnswer (call.CheckPlan N d plan)
check-one-answer N d plan = one _

pub length-one-answer : (N : ℕ) (plan : List ℕ) (d : ℕ) → OneAnswer (call.PlanLength N plan d)
length-one-answer N plan d = one _

pub join-one-result : (N : ℕ) (plan buf : List ℕ) → OneResult (call.JoinPlan N plan buf)
join-one-result N plan buf = gives-one-result _

pub grating-report-one-result : (N : ℕ) (plan buf : List ℕ) → OneResult (call.GratingReport N plan buf)
grating-report-one-result N plan buf = gives-one-result _

pub find-one-answer : (N : ℕ) (tonight standby : List ℕ) (slot : ℕ) → OneAnswer (call.FindInForce N tonight standby slot)
find-one-answer N tonight standby slot = one _

pub part-one-answer : (N : ℕ) (tonight standby : List ℕ) (slot : ℕ) → OneAnswer (call.PartInForce N tonight standby slot)
part-one-answer N tonight standby slot = one _

pub carry-over-one-result : (N : ℕ) (asked plan : List ℕ) (first : ℕ) (wished cells : List ℕ) → OneResult (call.CarryOver N asked plan first wished cells)
carry-over-one-result N asked plan first wished cells a b l m p q =
    let same : a ≡ b = one _ a b p.answer q.answer in
    (same, p.cells ∙ ap (λ (x : Carried). cells_after x (new_cells first_edition N asked plan first wished) cells) same ∙ sym q.cells)

pub shop-one-result : (N : ℕ) (cells : List ℕ) (d : ℕ) (buf : List ℕ) → OneResult (call.ShopPlan N cells d buf)
shop-one-result N cells d buf = gives-one-result _

pub tasks-one-answer : (N : ℕ) (tasks : List ℕ) → OneAnswer (call.ReadTasks N tasks)
tasks-one-answer N tasks = one _

pub exact-room-one-answer : (E : Edition) (N T : ℕ) → OneAnswer (call.RoomFor E Exact N T)
exact-room-one-answer E N T = one _

pub doubled-room-one-answer : (E : Edition) (N T : ℕ) → OneAnswer (call.RoomFor E Doubled N T)
doubled-room-one-answer E N T = one _

pub quick-room-one-answer : (E : Edition) (N T : ℕ) → OneAnswer (call.RoomFor E Quick N T)
quick-room-one-answer E N T = one _

pub listing-one-result : (input text : List ℕ) → OneResult (call.Listing input text)
listing-one-result input text a b l m p q = (one _ a b p.0 q.0, one _ l m p.1 q.1)

-- ---- the edge

pub cv-version-one-answer : OneAnswer call.CvVersion
cv-version-one-answer = one _

pub cv-wish-one-answer : (bits : ℕ) → OneAnswer (call.CvWish bits)
cv-wish-one-answer bits = one _

pub cv-wishes-one-result : (N : ℕ) (list cells : List ℕ) → OneResult (call.CvWishes N list cells)
cv-wishes-one-result N list cells = crosses-one-result _

pub cv-exact-one-result : (N : ℕ) (d buf : List ℕ) → OneResult (call.CvExact N d buf)
cv-exact-one-result N d buf = crosses-one-result _

pub cv-doubled-one-result : (N : ℕ) (d buf : List ℕ) → OneResult (call.CvDoubled N d buf)
cv-doubled-one-result N d buf = crosses-one-result _

pub cv-every-rotation-one-result : (N : ℕ) (d buf : List ℕ) → OneResult (call.CvEveryRotation N d buf)
cv-every-rotation-one-result N d buf = crosses-one-result _

pub cv-quick-one-result : (N : ℕ) (d buf : List ℕ) → OneResult (call.CvQuick N d buf)
cv-quick-one-result N d buf = crosses-one-result _

pub cv2-exact-one-result : (N : ℕ) (d buf : List ℕ) → OneResult (call.Cv2Exact N d buf)
cv2-exact-one-result N d buf = crosses-one-result _

pub cv2-doubled-one-result : (N : ℕ) (d buf : List ℕ) → OneResult (call.Cv2Doubled N d buf)
cv2-doubled-one-result N d buf = crosses-one-result _

pub cv2-every-rotation-one-result : (N : ℕ) (d buf : List ℕ) → OneResult (call.Cv2EveryRotation N d buf)
cv2-every-rotation-one-result N d buf = crosses-one-result _

pub cv2-quick-one-result : (N : ℕ) (d buf : List ℕ) → OneResult (call.Cv2Quick N d buf)
cv2-quick-one-result N d buf = crosses-one-result _

pub cv-room-one-answer : (E : Edition) (planner : Planner) (N T : ℕ) → OneAnswer (call.CvRoomFor E planner N T)
cv-room-one-answer E planner N T = one _

pub cv-grating-doubled-one-result : (N : ℕ) (d buf : List ℕ) → OneResult (call.CvGratingDoubled N d buf)
cv-grating-doubled-one-result N d buf = crosses-one-result _

pub cv-grating-quiet-one-result : (N : ℕ) (d : List ℕ) (L : ℕ) (buf : List ℕ) → OneResult (call.CvGratingQuiet N d L buf)
cv-grating-quiet-one-result N d L buf = crosses-one-result _

pub cv-grating-least-one-answer : (N : ℕ) (d : List ℕ) (L : ℕ) → OneAnswer (call.CvGratingLeast N d L)
cv-grating-least-one-answer N d L = one _

pub cv-grating-report-one-result : (N : ℕ) (plan buf : List ℕ) → OneResult (call.CvGratingReport N plan buf)
cv-grating-report-one-result N plan buf = crosses-one-result _

pub cv-check-one-answer : (N : ℕ) (d plan : List ℕ) → OneAnswer (call.CvCheck N d plan)
cv-check-one-answer N d plan = one _

pub cv-length-one-answer : (N : ℕ) (plan : List ℕ) (d : ℕ) → OneAnswer (call.CvLength N plan d)
cv-length-one-answer N plan d = one _

pub cv-join-one-result : (N : ℕ) (plan buf : List ℕ) → OneResult (call.CvJoin N plan buf)
cv-join-one-result N plan buf = crosses-one-result _

pub cv-write-one-result : (hold N : ℕ) (outputs buf : List ℕ) → OneResult (call.CvWrite hold N outputs buf)
cv-write-one-result hold N outputs buf = crosses-one-result _

pub cv-open-one-answer : (N : ℕ) (plan : List ℕ) → OneAnswer (call.CvOpen N plan)
cv-open-one-answer N plan = one _

pub cv-step-at-one-answer : (N : ℕ) (plan : List ℕ) (at : ℕ) → OneAnswer (call.CvStepAt N plan at)
cv-step-at-one-answer N plan at = one _

pub cv-in-force-one-answer : (N : ℕ) (tonight standby : List ℕ) (slot : ℕ) → OneAnswer (call.CvInForce N tonight standby slot)
cv-in-force-one-answer N tonight standby slot = one _

pub cv-carry-over-one-result : (N : ℕ) (asked plan : List ℕ) (first : ℕ) (wished cells : List ℕ) → OneResult (call.CvCarryOver N asked plan first wished cells)
cv-carry-over-one-result N asked plan first wished cells a b l m p q = (one _ a b p.answer q.answer, one _ l m p.cells q.cells)

pub cv-shop-one-result : (N : ℕ) (cells : List ℕ) (d : ℕ) (buf : List ℕ) → OneResult (call.CvShop N cells d buf)
cv-shop-one-result N cells d buf = crosses-one-result _

pub cv-tasks-one-answer : (N : ℕ) (tasks : List ℕ) → OneAnswer (call.CvTasks N tasks)
cv-tasks-one-answer N tasks = one _
