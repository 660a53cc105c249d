-- The contract of each public call, as a statement about its answer and about what it leaves in lent memory. Definitions only.
use Rattle.std.specs.Prelude.{◌≡◌, List, ℕ, length, take, Float}
use Rattle.std.specs.Borrow.{Bor}
use Rattle.switch.specs.Outcome.{Outcome}
use Rattle.switch.specs.Result.{Gives}
use Rattle.wish.specs.Wish.{Wish, wish_of, wish_bits}
use Rattle.wishes.specs.Wishes.{wishing}
use Rattle.rules.specs.Exact.{exact_plan}
use Rattle.rules.specs.Doubled.{every_rotation_plan, doubled_plan}
use Rattle.rules.specs.Quick.{quick_plan}
use Rattle.planner.specs.Planned.{planned, planned_up_to}
use Rattle.records.specs.Bytes.{laid}
use Rattle.records.specs.Write.{written}
use Rattle.plans.specs.declared.Stepped.{Stepped}
use Rattle.switch.specs.declared.Edition.{Edition}
use Rattle.switch.specs.Editions.{first_edition, second_edition}
use Rattle.plans.specs.Read.{opening, step_at}
use Rattle.reader.specs.declared.Reader.{Reader}
use Rattle.reader.specs.declared.Opened.{Opened}
use Rattle.reader.specs.Reader.{starting, moved_to}
use Rattle.room.specs.declared.Planner.{Planner}
use Rattle.room.specs.Room.{roomed}
use Rattle.carry.specs.Carry.{Carried, Carries}
use Rattle.rescue.specs.declared.Answer.{Answer}
use Rattle.rescue.specs.Rescue.{rescuing, Saves}
use Rattle.lookup.specs.declared.Found.{Found}
use Rattle.lookup.specs.Lookup.{spot_of, part_of, found_of}
use Rattle.checker.specs.Check.{check_plan}
use Rattle.length.specs.Length.{plan_length}
use Rattle.joining.specs.Join.{joining}
use Rattle.wavelengths.specs.Report.{reported}
use Rattle.grating.specs.Grating.{grating_planned}
use Rattle.quiet.specs.Planned.{quiet_planned}
use Rattle.least.specs.Least.{least_of}
use Rattle.tasks.specs.Read.{reading}
use Rattle.shop.specs.Shopped.{shopped}
use Rattle.listing.specs.Listing.{listing_of}
use Rattle.answers.specs.declared.CvAnswer.{CvAnswer}
use Rattle.answers.specs.declared.CvStep.{CvStep}
use Rattle.answers.specs.declared.CvPart.{CvPart}
use Rattle.answers.specs.Flat.{version, flat, flat_wish, flat_step, flat_part, Crosses, CarriesFlat, RescuesFlat}

-- ---- wishes

-- wish::of_bits(bits)
abbrev pub OfBits : (bits : ℕ) (r : Wish) → Type 0
OfBits bits r = r ≡ wish_bits bits

-- wish::classify(x)
abbrev pub Classify : (x : Float) (r : Wish) → Type 0
Classify x r = r ≡ wish_of x

-- wishes::wishes(n, list, cells), and wishes_second of the second edition
abbrev pub WishList : (E : Edition) (N : ℕ) (list cells : List ℕ) → Outcome → List ℕ → Type 0
WishList E N list cells = Gives (wishing E N list cells)

-- ---- planners, of a demand d into a plan's buffer

-- exact::exact_plan(n, cells, plan)
abbrev pub ExactPlan : (N : ℕ) (d buf : List ℕ) → Outcome → List ℕ → Type 0
ExactPlan N d buf = Gives (planned first_edition N d (exact_plan 64 N d) buf)

-- doubled::doubled_plan(n, cells, plan)
abbrev pub DoubledPlan : (N : ℕ) (d buf : List ℕ) → Outcome → List ℕ → Type 0
DoubledPlan N d buf = Gives (planned first_edition N d (doubled_plan 64 N d) buf)

-- doubled::doubled_plan_every_rotation(n, cells, plan)
abbrev pub EveryRotation : (N : ℕ) (d buf : List ℕ) → Outcome → List ℕ → Type 0
EveryRotation N d buf = Gives (planned first_edition N d (every_rotation_plan 64 N d) buf)

-- quick::quick_plan(n, cells, plan)
abbrev pub QuickPlan : (N : ℕ) (d buf : List ℕ) → Outcome → List ℕ → Type 0
QuickPlan N d buf = Gives (planned_up_to 1024 first_edition N d (quick_plan 64 N d) buf)

-- the same in the second edition: exact::exact_plan_second(n, cells, plan)
abbrev pub ExactPlanSecond : (N : ℕ) (d buf : List ℕ) → Outcome → List ℕ → Type 0
ExactPlanSecond N d buf = Gives (planned second_edition N d (exact_plan 128 N d) buf)

-- doubled::doubled_plan_second(n, cells, plan)
abbrev pub DoubledPlanSecond : (N : ℕ) (d buf : List ℕ) → Outcome → List ℕ → Type 0
DoubledPlanSecond N d buf = Gives (planned second_edition N d (doubled_plan 128 N d) buf)

-- doubled::doubled_plan_every_rotation_second(n, cells, plan)
abbrev pub EveryRotationSecond : (N : ℕ) (d buf : List ℕ) → Outcome → List ℕ → Type 0
EveryRotationSecond N d buf = Gives (planned second_edition N d (every_rotation_plan 128 N d) buf)

-- quick::quick_plan_second(n, cells, plan)
abbrev pub QuickPlanSecond : (N : ℕ) (d buf : List ℕ) → Outcome → List ℕ → Type 0
QuickPlanSecond N d buf = Gives (planned_up_to 1024 second_edition N d (quick_plan 128 N d) buf)

-- grating::grating_doubled(n, cells, plan)
abbrev pub GratingDoubled : (N : ℕ) (d buf : List ℕ) → Outcome → List ℕ → Type 0
GratingDoubled N d buf = Gives (grating_planned first_edition N d buf)

-- quiet::quiet_plan(n, cells, limit, plan)
abbrev pub QuietPlan : (N : ℕ) (d : List ℕ) (L : ℕ) (buf : List ℕ) → Outcome → List ℕ → Type 0
QuietPlan N d L buf = Gives (quiet_planned first_edition N d L buf)

-- least::least_within(n, cells, limit)
abbrev pub LeastWithin : (N : ℕ) (d : List ℕ) (L : ℕ) (r : Outcome) → Type 0
LeastWithin N d L r = r ≡ least_of first_edition N d L

-- ---- plans

-- records::write_record(hold, n, outputs, plan), and write_record_second of the second edition
abbrev pub WriteRecord : (E : Edition) (hold N : ℕ) (outputs buf : List ℕ) → Outcome → List ℕ → Type 0
WriteRecord E hold N outputs buf = Gives (written E hold N outputs buf)

-- plans::open_plan(n, plan), reader::open_answer(n, plan), and plans::open_second(n, plan) of the second edition
abbrev pub OpenPlan : (E : Edition) (N : ℕ) (plan : List ℕ) (r : Outcome) → Type 0
OpenPlan E N plan r = r ≡ opening E N plan

-- plans::step_at(n, plan, at), and reader::step_from(n, plan, at)
abbrev pub StepAt : (E : Edition) (N : ℕ) (plan : List ℕ) (at : ℕ) (s : Stepped E.width) → Type 0
StepAt E N plan at s = s ≡ step_at E N plan at

-- plans::step_second(n, plan, at): the same in the second edition, whose records have 128 outputs
abbrev pub StepSecond : (N : ℕ) (plan : List ℕ) (at : ℕ) (s : Stepped 128) → Type 0
StepSecond N plan at s = StepAt second_edition N plan at s

-- reader::open(n, plan)
abbrev pub OpenReader : (N : ℕ) (plan : Bor (List ℕ)) (o : Opened) → Type 0
OpenReader N plan o = (o.answer ≡ opening first_edition N plan.now) × (o.reader ≡ starting N plan)

-- Reader::step(&mut self), of a reader r that is r' afterwards
abbrev pub ReaderStep : (r : Reader) (s : Stepped 64) (r' : Reader) → Type 0
ReaderStep r s r' = (s ≡ step_at first_edition r.n r.plan.now r.at) × (r' ≡ moved_to r s.next)

-- checker::check_plan(n, cells, plan)
abbrev pub CheckPlan : (N : ℕ) (d plan : List ℕ) (r : Outcome) → Type 0
CheckPlan N d plan r = r ≡ check_plan first_edition N d plan

-- length::plan_length(n, plan, d)
abbrev pub PlanLength : (N : ℕ) (plan : List ℕ) (d : ℕ) (r : Outcome) → Type 0
PlanLength N plan d r = r ≡ plan_length first_edition d N plan

-- joining::join_plan(n, plan, joined)
abbrev pub JoinPlan : (N : ℕ) (plan buf : List ℕ) → Outcome → List ℕ → Type 0
JoinPlan N plan buf = Gives (joining first_edition N plan buf)

-- wavelengths::grating_report(n, plan, report)
abbrev pub GratingReport : (N : ℕ) (plan buf : List ℕ) → Outcome → List ℕ → Type 0
GratingReport N plan buf = Gives (reported first_edition N plan buf)

-- lookup::find(n, tonight, standby, slot)
abbrev pub FindInForce : (N : ℕ) (tonight standby : List ℕ) (slot : ℕ) (r : Found) → Type 0
FindInForce N tonight standby slot r = r ≡ found_of first_edition (spot_of first_edition N tonight standby slot)

-- lookup::part_in_force(n, tonight, standby, slot), by the bytes of the part given back
abbrev pub PartInForce : (N : ℕ) (tonight standby : List ℕ) (slot : ℕ) (r : List ℕ) → Type 0
PartInForce N tonight standby slot r = r ≡ part_of first_edition (spot_of first_edition N tonight standby slot) tonight standby

-- carry::carry_over(n, asked, plan, first, wished, cells)
abbrev pub CarryOver : (N : ℕ) (asked plan : List ℕ) (first : ℕ) (wished cells : List ℕ) → Carried → List ℕ → Type 0
CarryOver N asked plan first wished cells = Carries first_edition N asked plan first wished cells

-- shop::shop_plan(n, cells, d, tasks)
abbrev pub ShopPlan : (N : ℕ) (cells : List ℕ) (d : ℕ) (buf : List ℕ) → Outcome → List ℕ → Type 0
ShopPlan N cells d buf = Gives (shopped N d cells buf)

-- tasks::read_tasks(n, tasks)
abbrev pub ReadTasks : (N : ℕ) (tasks : List ℕ) (r : Outcome) → Type 0
ReadTasks N tasks r = r ≡ reading N tasks

-- rescue::rescue_plan(n, cells, damaged, plan, list)
abbrev pub RescuePlan : (N : ℕ) (d damaged plan list : List ℕ) → Answer → List ℕ → List ℕ → Type 0
RescuePlan N d damaged plan list = Saves (rescuing first_edition N d damaged plan list)

-- ---- room::exact_room(n, longest), doubled_room(n, longest) and quick_room(n, longest), and those of the second edition
abbrev pub RoomFor : (E : Edition) (planner : Planner) (N T : ℕ) (r : Outcome) → Type 0
RoomFor E planner N T r = r ≡ roomed E planner N T

-- ---- listing::listing(input, text)
abbrev pub Listing : (input text : List ℕ) (r : ℕ) (after : List ℕ) → Type 0
Listing input text r after = (r ≡ length (listing_of input)) × (after ≡ laid text 0 (listing_of input)) × (take r after ≡ listing_of input)

-- ---- the edge: the same, an outcome told by its numbers

-- cv_version(), and cv_interface_1() too
abbrev pub CvVersion : (r : ℕ) → Type 0
CvVersion r = r ≡ version

-- cv_wish(bits)
abbrev pub CvWish : (bits : ℕ) (r : CvAnswer) → Type 0
CvWish bits r = r ≡ flat_wish (wish_bits bits)

-- cv_wishes(n, list, cells)
abbrev pub CvWishes : (N : ℕ) (list cells : List ℕ) → CvAnswer → List ℕ → Type 0
CvWishes N list cells = Crosses (wishing first_edition N list cells)

-- cv_exact(n, cells, plan)
abbrev pub CvExact : (N : ℕ) (d buf : List ℕ) → CvAnswer → List ℕ → Type 0
CvExact N d buf = Crosses (planned first_edition N d (exact_plan 64 N d) buf)

-- cv_doubled(n, cells, plan)
abbrev pub CvDoubled : (N : ℕ) (d buf : List ℕ) → CvAnswer → List ℕ → Type 0
CvDoubled N d buf = Crosses (planned first_edition N d (doubled_plan 64 N d) buf)

-- cv_doubled_every_rotation(n, cells, plan)
abbrev pub CvEveryRotation : (N : ℕ) (d buf : List ℕ) → CvAnswer → List ℕ → Type 0
CvEveryRotation N d buf = Crosses (planned first_edition N d (every_rotation_plan 64 N d) buf)

-- cv_quick(n, cells, plan)
abbrev pub CvQuick : (N : ℕ) (d buf : List ℕ) → CvAnswer → List ℕ → Type 0
CvQuick N d buf = Crosses (planned_up_to 1024 first_edition N d (quick_plan 64 N d) buf)

-- cv2_exact(n, cells, plan)
abbrev pub Cv2Exact : (N : ℕ) (d buf : List ℕ) → CvAnswer → List ℕ → Type 0
Cv2Exact N d buf = Crosses (planned second_edition N d (exact_plan 128 N d) buf)

-- cv2_doubled(n, cells, plan)
abbrev pub Cv2Doubled : (N : ℕ) (d buf : List ℕ) → CvAnswer → List ℕ → Type 0
Cv2Doubled N d buf = Crosses (planned second_edition N d (doubled_plan 128 N d) buf)

-- cv2_doubled_every_rotation(n, cells, plan)
abbrev pub Cv2EveryRotation : (N : ℕ) (d buf : List ℕ) → CvAnswer → List ℕ → Type 0
Cv2EveryRotation N d buf = Crosses (planned second_edition N d (every_rotation_plan 128 N d) buf)

-- cv2_quick(n, cells, plan)
abbrev pub Cv2Quick : (N : ℕ) (d buf : List ℕ) → CvAnswer → List ℕ → Type 0
Cv2Quick N d buf = Crosses (planned_up_to 1024 second_edition N d (quick_plan 128 N d) buf)

-- cv_exact_room(n, longest), cv_doubled_room and cv_quick_room, and cv2_ of each
abbrev pub CvRoomFor : (E : Edition) (planner : Planner) (N T : ℕ) (r : CvAnswer) → Type 0
CvRoomFor E planner N T r = r ≡ flat (roomed E planner N T)

-- cv_grating_doubled(n, cells, plan)
abbrev pub CvGratingDoubled : (N : ℕ) (d buf : List ℕ) → CvAnswer → List ℕ → Type 0
CvGratingDoubled N d buf = Crosses (grating_planned first_edition N d buf)

-- cv_grating_quiet(n, cells, limit, plan)
abbrev pub CvGratingQuiet : (N : ℕ) (d : List ℕ) (L : ℕ) (buf : List ℕ) → CvAnswer → List ℕ → Type 0
CvGratingQuiet N d L buf = Crosses (quiet_planned first_edition N d L buf)

-- cv_grating_least(n, cells, limit)
abbrev pub CvGratingLeast : (N : ℕ) (d : List ℕ) (L : ℕ) (r : CvAnswer) → Type 0
CvGratingLeast N d L r = r ≡ flat (least_of first_edition N d L)

-- cv_grating_report(n, plan, report)
abbrev pub CvGratingReport : (N : ℕ) (plan buf : List ℕ) → CvAnswer → List ℕ → Type 0
CvGratingReport N plan buf = Crosses (reported first_edition N plan buf)

-- cv_check(n, cells, plan)
abbrev pub CvCheck : (N : ℕ) (d plan : List ℕ) (r : CvAnswer) → Type 0
CvCheck N d plan r = r ≡ flat (check_plan first_edition N d plan)

-- cv_length(n, plan, d)
abbrev pub CvLength : (N : ℕ) (plan : List ℕ) (d : ℕ) (r : CvAnswer) → Type 0
CvLength N plan d r = r ≡ flat (plan_length first_edition d N plan)

-- cv_join(n, plan, joined)
abbrev pub CvJoin : (N : ℕ) (plan buf : List ℕ) → CvAnswer → List ℕ → Type 0
CvJoin N plan buf = Crosses (joining first_edition N plan buf)

-- cv_write(hold, n, outputs, plan)
abbrev pub CvWrite : (hold N : ℕ) (outputs buf : List ℕ) → CvAnswer → List ℕ → Type 0
CvWrite hold N outputs buf = Crosses (written first_edition hold N outputs buf)

-- cv_open(n, plan)
abbrev pub CvOpen : (N : ℕ) (plan : List ℕ) (r : CvAnswer) → Type 0
CvOpen N plan r = r ≡ flat (opening first_edition N plan)

-- cv_step_at(n, plan, at)
abbrev pub CvStepAt : (N : ℕ) (plan : List ℕ) (at : ℕ) (r : CvStep) → Type 0
CvStepAt N plan at r = r ≡ flat_step (step_at first_edition N plan at)

-- cv_in_force(n, tonight, standby, slot)
abbrev pub CvInForce : (N : ℕ) (tonight standby : List ℕ) (slot : ℕ) (r : CvPart) → Type 0
CvInForce N tonight standby slot r = r ≡ flat_part (found_of first_edition (spot_of first_edition N tonight standby slot))

-- cv_carry_over(n, asked, plan, first, wished, cells)
abbrev pub CvCarryOver : (N : ℕ) (asked plan : List ℕ) (first : ℕ) (wished cells : List ℕ) → CvAnswer → List ℕ → Type 0
CvCarryOver N asked plan first wished cells = CarriesFlat first_edition N asked plan first wished cells

-- cv_shop(n, cells, d, tasks)
abbrev pub CvShop : (N : ℕ) (cells : List ℕ) (d : ℕ) (buf : List ℕ) → CvAnswer → List ℕ → Type 0
CvShop N cells d buf = Crosses (shopped N d cells buf)

-- cv_tasks(n, tasks)
abbrev pub CvTasks : (N : ℕ) (tasks : List ℕ) (r : CvAnswer) → Type 0
CvTasks N tasks r = r ≡ flat (reading N tasks)

-- cv_rescue(n, cells, damaged, plan, dropped)
abbrev pub CvRescue : (N : ℕ) (d damaged plan list : List ℕ) → CvAnswer → List ℕ → List ℕ → Type 0
CvRescue N d damaged plan list = RescuesFlat (rescuing first_edition N d damaged plan list)
