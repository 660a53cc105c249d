-- No port, or too many, is code 1; any other number of ports has room for its cells.
use mathlib.Core.Path.{◌≡◌, sym, ap, ◌∙◌, subst}
use mathlib.Core.Logic.{⊎_elim}
use mathlib.Core.List.{List}
use Prim.Native.Nat.{ℕ, ◌*◌, ◌<◌, ◌≤◌}
use native.Mathlib.Nat.{mul-le-mul}
use native.Mathlib.Omega.{arith}
use lib.ListN.{length, take, replicate}
use lib.Seq.{length-take-le}
use Rattle.switch.proofs.Check.{no-ports, many-ports}
use Rattle.text.specs.Put.{Put}
use Rattle.listing.specs.Listing.{wish_text}
use Rattle.listing.proofs.Answers.{wish-ports}
use Rattle.listing.proofs.list_text.Goals as goal

-- the cells that are lent
square : (n : ℕ) → n ≤ 16 → n * n ≤ 256
square n l = mul-le-mul l l

cells-lent : (n : ℕ) → n ≤ 16 → length (take (n * n) (replicate {A = ℕ} 256 0)) ≡ n * n
cells-lent n l = length-take-le (n * n) (replicate 256 0) (square n l)

pub returns-then-n-eq0 : goal.returns-then-n-eq0
returns-then-n-eq0 c =
    let n = c.ports_of-n.result in
    let unfit = ⊎_elim (λ (e : n ≡ 0). no-ports 16 n e) (λ (e : (n ≡ 0 → ⊥) × (16 < n)). many-ports 16 n e.1) c.then-n-eq0.either in
    subst (λ (x : List ℕ). Put x c.args.text.now 0 c.put_refusal.new.text c.put_refusal.result)
    (wish-ports n c.args.list.now unfit ∙ ap (λ (m : ℕ). wish_text m c.args.list.now) c.ports_of-n.ensures) c.put_refusal.ensures

pub overflow_mul-square : goal.overflow_mul-square
overflow_mul-square c = omega (arith, square c.ports_of-n.result (omega arith))

pub slice_bounds-cells-end : goal.slice_bounds-cells-end
slice_bounds-cells-end c = square c.ports_of-n.result (omega arith)

pub slice_bounds-wish_text-end : goal.slice_bounds-wish_text-end
slice_bounds-wish_text-end c = sym (cells-lent c.ports_of-n.result (omega arith))

pub wish_text-requires : goal.wish_text-requires
wish_text-requires c = (omega arith, omega arith, cells-lent c.ports_of-n.result (omega arith), omega arith)

pub returns : goal.returns
returns c =
    subst (λ (x : List ℕ). Put x c.args.text.now 0 c.wish_text.new.text c.wish_text.result) (ap (λ (m : ℕ). wish_text m c.args.list.now) c.ports_of-n.ensures) c.wish_text.ensures
