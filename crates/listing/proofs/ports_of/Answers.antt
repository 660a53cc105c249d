-- Each turn makes the number that of one record more.
use mathlib.Core.Path.{◌≡◌, sym, ap, ◌∙◌}
use mathlib.Core.List.{List, []}
use Prim.Native.Nat.{ℕ, ◌+◌, ◌*◌, ◌/◌, ◌<◌, max}
use native.Mathlib.Omega.{arith}
use native.Mathlib.Nat.{add-zero}
use lib.ListN.{length, get_or}
use Rattle.std.specs.Simd.{first_chunks}
use Rattle.listing.specs.Listing.{ports_in}
use Rattle.listing.proofs.Ports.{ports-none, ports-next, piece-byte}
use Rattle.listing.proofs.ports_of.Goals as goal

pub loop-rec-init : goal.loop-rec-init
loop-rec-init c = sym (ports-none _)

-- the ports of a piece are those of its record
port : (s : List ℕ) (p : List (List ℕ)) (k j : ℕ) → p ≡ first_chunks 8 (length s / 8) s → k < length s / 8 → j < 8 → get_or (get_or p k []) j 0 ≡ get_or s (8 * k + j) 0
port s p k j e l m = ap (λ (x : List (List ℕ)). get_or (get_or x k []) j 0) e ∙ piece-byte (length s / 8) k j s l m

pub loop-rec-preserved : goal.loop-rec-preserved
loop-rec-preserved c =
    let s = c.args.list.now in
    let k = c.loop-rec.rec-index in
    let p = c.as_chunks.result.0.now in
    let within : k < length s / 8 = omega (arith, c.as_chunks.ensures.front_len) in
    let input = c.above.ensures ∙ ap (λ (x : ℕ). x + 1) (port s p k 0 c.as_chunks.ensures.front within (omega arith) ∙ ap (λ (i : ℕ). get_or s i 0) (add-zero (8 * k))) in
    let output = c.above-in-loop-rec.ensures ∙ ap (λ (x : ℕ). x + 1) (port s p k 1 c.as_chunks.ensures.front within (omega arith)) in
    c.max-n.ensures ∙ ap (λ (x : ℕ). max x c.above-in-loop-rec.result) (c.max.ensures ∙ ap (λ (x : ℕ). max x c.above.result) c.loop-rec.invariant) ∙ ports-next s k _ _ input output

pub returns : goal.returns
returns c =
    let e : c.loop-rec.rec-index ≡ length c.args.list.now / 8 = omega (arith, c.as_chunks.ensures.front_len) in
    c.loop-rec.invariant ∙ ap (ports_in c.args.list.now) e
