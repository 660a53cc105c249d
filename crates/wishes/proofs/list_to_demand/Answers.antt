-- Each return is the case of the definition whose tests led there, and a refusal comes before anything is written.
use native.Mathlib.Omega.{arith}
use native.Mathlib.Nat.{mul-le-mul, mul-div-le, le_trans}
use mathlib.Core.Path.{◌≡◌, sym, ◌∙◌}
use Prim.Native.Nat.{◌/◌, ◌≤◌}
use lib.ListN.{length}
use Rattle.std.proofs.lemmas.Result.{err_from_is_err_and}
use Rattle.switch.proofs.Check.{no-ports, many-ports, some-ports}
use Rattle.wishes.specs.Fault.{Fault}
use Rattle.wishes.specs.Fault.{first_fault}
use Rattle.wishes.specs.Wishes.{of_fault, outcome}
use Rattle.wishes.proofs.Pairs.{empty-less, zeros-empty}
use Rattle.wishes.proofs.Answers.{result, bad-ports, bad-cells, torn, searched}
use Rattle.wishes.proofs.list_to_demand.Goals as goal

pub returns-then-n-eq0 : goal.returns-then-n-eq0
returns-then-n-eq0 g c = result _ _ _ _ _ (bad-ports _ _ _ _ (no-ports _ _ c.if-n-eq0.true))

pub returns-then-most-n : goal.returns-then-most-n
returns-then-most-n g c = result _ _ _ _ _ (bad-ports _ _ _ _ (many-ports _ _ c.if-most-n.true))

pub overflow_mul-square : goal.overflow_mul-square
overflow_mul-square g c = let l : c.args.n ≤ 128 = omega arith in omega (arith, mul-le-mul l l)

pub returns-then-cells-square : goal.returns-then-cells-square
returns-then-cells-square g c = result _ _ _ _ _ (bad-cells _ _ _ _ (some-ports _ _ (omega arith) c.if-most-n.false) c.if-cells-square.true)

pub returns-then-list-ne0 : goal.returns-then-list-ne0
returns-then-list-ne0 g c = result _ _ _ _ _ (torn _ _ _ _ (some-ports _ _ (omega arith) c.if-most-n.false) c.if-cells-square.false c.if-list-ne0.true)

pub first_fault-requires : goal.first_fault-requires
first_fault-requires g c =
    let l = c.if-most-n.false in
    (mul-div-le _ 8, le_trans l c.requires.0, empty-less _ _ _ l (zeros-empty c.args.most _ c.requires.1))

pub fill-requires : goal.fill-requires
fill-requires g c =
    (mul-div-le _ 8, le_trans c.if-most-n.false c.requires.0, c.if-cells-square.false, sym c.first_fault.ensures ∙ c.in_ok-first_fault.was)

pub returns-in_err-first_fault : goal.returns-in_err-first_fault
returns-in_err-first_fault g c =
    let decided : (let a = c.args in (f : Fault) → first_fault a.n a.list.now (length a.list.now / 8) ≡ f → outcome a.most a.n a.list.now (length a.cells.now) ≡ of_fault (length a.list.now / 8) f) = searched _ _ _ _ (some-ports _ _ (omega arith) c.if-most-n.false) c.if-cells-square.false c.if-list-ne0.false in
    let p = err_from_is_err_and c.from_residual.result c.from_residual.ensures.1 in
    rw (p.1, p.2) (result _ _ _ _ _ (decided _ (sym c.first_fault.ensures ∙ c.in_err-first_fault.was)))

pub returns : goal.returns
returns g c =
    let decided : (let a = c.args in (f : Fault) → first_fault a.n a.list.now (length a.list.now / 8) ≡ f → outcome a.most a.n a.list.now (length a.cells.now) ≡ of_fault (length a.list.now / 8) f) = searched _ _ _ _ (some-ports _ _ (omega arith) c.if-most-n.false) c.if-cells-square.false c.if-list-ne0.false in
    let done = result _ _ _ _ _ (decided _ (sym c.first_fault.ensures ∙ c.in_ok-first_fault.was)) in
    (done.0, c.fill.ensures ∙ done.1)
