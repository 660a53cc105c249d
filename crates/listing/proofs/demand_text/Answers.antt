-- The planner's refusal is printed, or the plan that it wrote, which the buffer has room for.
use mathlib.Core.Path.{◌≡◌, sym, ◌∙◌, subst}
use mathlib.Core.List.{List}
use Prim.Native.Nat.{ℕ}
use native.Mathlib.Omega.{arith}
use native.Mathlib.Nat.{le_of_eq}
use lib.ListN.{length, replicate, length-replicate}
use lib.Seq.{length-take-le}
use Rattle.text.specs.Put.{Put}
use Rattle.listing.proofs.Answers.{Written, demand-refused, demand-done}
use Rattle.listing.proofs.demand_text.Goals as goal

-- the plan buffer, as it is lent
abbrev buffer : List ℕ
buffer = replicate 15368 0

buffer-size : length buffer ≡ 15368
buffer-size = length-replicate {A = ℕ} 15368 0

pub overflow_mul-end : goal.overflow_mul-end
overflow_mul-end c = let done : (let a = c.args in Written a.n a.cells.now c.in-Ok.counts c.exact_plan-outcome.new.plan) = demand-done _ _ buffer c.requires.1 buffer-size _ _ (sym (sym c.exact_plan-outcome.ensures.outcome ∙ c.in-Ok.is)) c.exact_plan-outcome.ensures.bytes in
    omega (arith, done.few)

pub slice_bounds-plan-end : goal.slice_bounds-plan-end
slice_bounds-plan-end c = let done : (let a = c.args in Written a.n a.cells.now c.in-Ok.counts c.exact_plan-outcome.new.plan) = demand-done _ _ buffer c.requires.1 buffer-size _ _ (sym (sym c.exact_plan-outcome.ensures.outcome ∙ c.in-Ok.is)) c.exact_plan-outcome.ensures.bytes in
    done.room

pub slice_bounds-put_plan-end : goal.slice_bounds-put_plan-end
slice_bounds-put_plan-end c = let done : (let a = c.args in Written a.n a.cells.now c.in-Ok.counts c.exact_plan-outcome.new.plan) = demand-done _ _ buffer c.requires.1 buffer-size _ _ (sym (sym c.exact_plan-outcome.ensures.outcome ∙ c.in-Ok.is)) c.exact_plan-outcome.ensures.bytes in
    sym (length-take-le _ _ done.room)

pub put_plan-requires : goal.put_plan-requires
put_plan-requires c =
    let done : (let a = c.args in Written a.n a.cells.now c.in-Ok.counts c.exact_plan-outcome.new.plan) = demand-done _ _ buffer c.requires.1 buffer-size _ _ (sym (sym c.exact_plan-outcome.ensures.outcome ∙ c.in-Ok.is)) c.exact_plan-outcome.ensures.bytes in
    let w = done in
    (omega arith, le_of_eq (sym (length-take-le _ _ w.room)), rw w.text (omega (arith, w.fits, c.requires.3)))

pub returns-in-Err : goal.returns-in-Err
returns-in-Err c =
    let e = demand-refused _ _ buffer c.requires.1 buffer-size _ (sym (sym c.exact_plan-outcome.ensures.outcome ∙ c.in-Err.is)) in
    subst (λ (x : List ℕ). Put x c.args.text.now 0 c.put_refusal.new.text c.put_refusal.result) e c.put_refusal.ensures

pub returns-in-Ok : goal.returns-in-Ok
returns-in-Ok c =
    let done : (let a = c.args in Written a.n a.cells.now c.in-Ok.counts c.exact_plan-outcome.new.plan) = demand-done _ _ buffer c.requires.1 buffer-size _ _ (sym (sym c.exact_plan-outcome.ensures.outcome ∙ c.in-Ok.is)) c.exact_plan-outcome.ensures.bytes in
    subst (λ (x : List ℕ). Put x c.args.text.now 0 c.put_plan.new.text c.put_plan.result) done.text c.put_plan.ensures
