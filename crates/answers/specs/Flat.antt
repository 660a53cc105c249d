-- Answers and steps as the numbers that cross the edge. Definitions only.
use Rattle.std.specs.Prelude.{Err, Ok}
use Rattle.std.specs.Prelude.{◌≡◌, cond, List, ℕ, eqb}
use Rattle.switch.specs.Outcome.{Outcome}
use Rattle.switch.specs.declared.About.{About}
use Rattle.switch.specs.declared.About.TheVariants as about
use Rattle.switch.specs.declared.Edition.{Edition}
use Rattle.switch.specs.Answer.{code_of, place_of, side_of, counts_of, no_counts, about_number}
use Rattle.switch.specs.Result.{Result}
use Rattle.lookup.specs.declared.Found.{Found}
use Rattle.carry.specs.Carry.{Carried, new_cells, carry_over, cells_after}
use Rattle.rescue.specs.declared.Answer.{Answer}
use Rattle.rescue.specs.Rescue.{Saved}
use Rattle.wish.specs.Wish.{Wish}
use Rattle.wish.specs.Wish as wish
use Rattle.plans.specs.declared.Step.{Step}
use Rattle.plans.specs.declared.Step.TheVariants.{Record, End, Malformed}
use Rattle.plans.specs.declared.Stepped.{Stepped}
use Rattle.plans.specs.Read.{step_place}
use Rattle.answers.specs.declared.CvAnswer.{CvAnswer}
use Rattle.answers.specs.declared.CvPart.{CvPart}
use Rattle.answers.specs.declared.CvStep.{CvStep}
use Rattle.answers.specs.declared.Cv2Step.{Cv2Step}

-- the version of the edge, which the header names too
abbrev pub version : ℕ
version = 1

-- code, place, side, records, T, total, length and empty slots, and what a refusal is about; nothing is added or dropped
abbrev pub flat_about : (o : Outcome) (a : About) → CvAnswer
flat_about o a =
    record {
      code = code_of o;
      place = place_of o;
      side = side_of o;
      records = (counts_of o).records;
      longest = (counts_of o).longest;
      total = (counts_of o).total;
      length = (counts_of o).length;
      empty = (counts_of o).empty;
      added = 0;
      dropped = 0;
      about = about_number a;
    }

-- where there is one plan or demand to be about
abbrev pub flat : (o : Outcome) → CvAnswer
flat o = flat_about o about.Nothing

-- what crosses the edge is what a call gives: the numbers of its outcome, and the bytes that it leaves
pub record Crosses (given : Result) (r : CvAnswer) (after : List ℕ) : Type 0 where
  pub answer : r ≡ flat given.outcome
  pub bytes : after ≡ given.bytes

-- one wish: its code, and its slots as total
abbrev pub flat_wish : (w : Wish) → CvAnswer
flat_wish w =
    record {
      code = wish.code_of w;
      place = 0;
      side = 0;
      records = 0;
      longest = 0;
      total = wish.slots_of w;
      length = 0;
      empty = 0;
      added = 0;
      dropped = 0;
      about = 0;
    }

-- 0 a record, 1 the end, 2 code 11
abbrev pub kind_of : Step → ℕ
kind_of Record = 0
kind_of End = 1
kind_of (Malformed k) = 2

-- the code that a kind stands for
abbrev pub kind_code : (k : ℕ) → ℕ
kind_code k = cond (eqb k 2) 11 0

abbrev pub flat_step : (s : Stepped 64) → CvStep
flat_step s = record { kind = kind_of s.step; place = step_place s.step; hold = s.hold; outputs = s.outputs }

-- the same where a record has 128 outputs
abbrev pub flat_wide : (s : Stepped 128) → Cv2Step
flat_wide s = record { kind = kind_of s.step; place = step_place s.step; hold = s.hold; outputs = s.outputs }

-- where a lookup found the record in force
abbrev pub flat_part : (f : Found) → CvPart
flat_part f = record { answer = flat_about f.outcome f.about; plan = f.plan; start = f.start; size = f.size }

-- a carry-over counts nothing
abbrev pub flat_carried : Carried → CvAnswer
flat_carried (Ok u) = flat (Ok no_counts)
flat_carried (Err b) = flat_about (Err b.refusal) b.about

-- a carry-over's answer in numbers, and the lent cells
pub record CarriesFlat (E : Edition) (N : ℕ) (asked plan : List ℕ) (first : ℕ) (wished before : List ℕ) (r : CvAnswer) (after : List ℕ) : Type 0 where
  pub answer : r ≡ flat_carried (carry_over E N asked plan first wished before)
  pub cells : after ≡ cells_after (carry_over E N asked plan first wished before) (new_cells E N asked plan first wished) before

-- a rescue tells besides how many records were added and dropped
abbrev pub flat_rescue : (a : Answer) → CvAnswer
flat_rescue a =
    record {
      code = code_of a.outcome;
      place = place_of a.outcome;
      side = side_of a.outcome;
      records = (counts_of a.outcome).records;
      longest = (counts_of a.outcome).longest;
      total = (counts_of a.outcome).total;
      length = (counts_of a.outcome).length;
      empty = (counts_of a.outcome).empty;
      added = a.added;
      dropped = a.dropped;
      about = 0;
    }

-- a rescue's answer in numbers, and the two lent buffers
pub record RescuesFlat (given : Saved) (r : CvAnswer) (after listed : List ℕ) : Type 0 where
  pub answer : r ≡ flat_rescue given.answer
  pub plan : after ≡ given.plan
  pub list : listed ≡ given.list
