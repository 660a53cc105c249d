-- What is promised of the first edition's calls is promised of the second's, by the same theorems; and each has one result.
use Prim.Native.Nat.{ℕ, ◌<◌}
use mathlib.Core.List.{List}
use lib.ListN.{get_or}
use Rattle.switch.specs.Outcome.{Outcome}
use Rattle.switch.specs.Editions.{second_edition}
use Rattle.switch.proofs.Editions.{second-bounded}
use Rattle.promises.specs.Checked.{Checks}
use Rattle.promises.specs.Joined.{Joined}
use Rattle.promises.specs.Length.{Measured}
use Rattle.promises.specs.Only.{OneAnswer, OneResult}
use Rattle.promises.specs.SecondReaders as call
use Rattle.promises.proofs.Checked.{check-promise}
use Rattle.promises.proofs.Joined.{joined}
use Rattle.promises.proofs.Length.{length-measured}
use Rattle.promises.proofs.Only.{one, gives-one-result, crosses-one-result}

pub check-second-promise : (N : ℕ) (d plan : List ℕ) (r : Outcome) → call.CheckSecond N d plan r → Checks second_edition N d plan r
check-second-promise = check-promise second_edition second-bounded

pub length-second-promise : (N : ℕ) (plan : List ℕ) (d : ℕ) (r : Outcome) → call.LengthSecond N plan d r → Measured second_edition N plan d r
length-second-promise = length-measured second_edition second-bounded

pub join-second-promise : (N : ℕ) (plan : List ℕ) → ((i : ℕ) → get_or plan i 0 < 256) → (buf : List ℕ) (r : Outcome) (after : List ℕ) → call.JoinSecond N plan buf r after
    → Joined second_edition N plan buf r after
join-second-promise = joined second_edition second-bounded

-- ---- one answer, and one result

pub check-second-one-answer : (N : ℕ) (d plan : List ℕ) → OneAnswer (call.CheckSecond N d plan)
check-second-one-answer N d plan = one _

pub length-second-one-answer : (N : ℕ) (plan : List ℕ) (d : ℕ) → OneAnswer (call.LengthSecond N plan d)
length-second-one-answer N plan d = one _

pub join-second-one-result : (N : ℕ) (plan buf : List ℕ) → OneResult (call.JoinSecond N plan buf)
join-second-one-result N plan buf = gives-one-result _

pub to-second-one-result : (N : ℕ) (plan buf : List ℕ) → OneResult (call.ToSecond N plan buf)
to-second-one-result N plan buf = gives-one-result _

pub to-first-one-result : (N : ℕ) (plan buf : List ℕ) → OneResult (call.ToFirst N plan buf)
to-first-one-result N plan buf = gives-one-result _

pub cv2-wishes-one-result : (N : ℕ) (list cells : List ℕ) → OneResult (call.Cv2Wishes N list cells)
cv2-wishes-one-result N list cells = crosses-one-result _

pub cv2-check-one-answer : (N : ℕ) (d plan : List ℕ) → OneAnswer (call.Cv2Check N d plan)
cv2-check-one-answer N d plan = one _

pub cv2-length-one-answer : (N : ℕ) (plan : List ℕ) (d : ℕ) → OneAnswer (call.Cv2Length N plan d)
cv2-length-one-answer N plan d = one _

pub cv2-join-one-result : (N : ℕ) (plan buf : List ℕ) → OneResult (call.Cv2Join N plan buf)
cv2-join-one-result N plan buf = crosses-one-result _

pub cv2-write-one-result : (hold N : ℕ) (outputs buf : List ℕ) → OneResult (call.Cv2Write hold N outputs buf)
cv2-write-one-result hold N outputs buf = crosses-one-result _

pub cv2-open-one-answer : (N : ℕ) (plan : List ℕ) → OneAnswer (call.Cv2Open N plan)
cv2-open-one-answer N plan = one _

pub cv2-step-at-one-answer : (N : ℕ) (plan : List ℕ) (at : ℕ) → OneAnswer (call.Cv2StepAt N plan at)
cv2-step-at-one-answer N plan at = one _

pub cv-to-second-one-result : (N : ℕ) (plan buf : List ℕ) → OneResult (call.CvToSecond N plan buf)
cv-to-second-one-result N plan buf = crosses-one-result _

pub cv-to-first-one-result : (N : ℕ) (plan buf : List ℕ) → OneResult (call.CvToFirst N plan buf)
cv-to-first-one-result N plan buf = crosses-one-result _
