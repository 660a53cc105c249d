-- The wish list's refusal is printed, or the text of the demand that it makes.
use mathlib.Core.Path.{sym, ap, ◌∙◌, subst}
use mathlib.Core.List.{List}
use Prim.Native.Nat.{ℕ}
use Rattle.text.specs.Put.{Put}
use Rattle.listing.specs.Listing.{demand_text}
use Rattle.listing.proofs.Answers.{wish-refused, wish-done}
use Rattle.listing.proofs.wish_text.Goals as goal

pub returns-in-Err : goal.returns-in-Err
returns-in-Err c =
    let e = wish-refused c.args.n c.args.list.now c.args.cells.now c.requires.0 c.requires.1 c.requires.2 _ (sym (sym c.wishes-outcome.ensures.outcome ∙ c.in-Err.is)) in
    subst (λ (x : List ℕ). Put x c.args.text.now 0 c.put_refusal.new.text c.put_refusal.result) e c.put_refusal.ensures

pub returns-in-Ok : goal.returns-in-Ok
returns-in-Ok c =
    let e = wish-done c.args.n c.args.list.now c.args.cells.now c.requires.0 c.requires.1 c.requires.2 _ (sym (sym c.wishes-outcome.ensures.outcome ∙ c.in-Ok.is)) in
    subst (λ (x : List ℕ). Put x c.args.text.now 0 c.demand_text.new.text c.demand_text.result) (ap (demand_text c.args.n) c.wishes-outcome.ensures.bytes ∙ e) c.demand_text.ensures
