-- The settings are laid with the outputs of one of them beside, as many as a record has.
use mathlib.Core.Path.{◌≡◌, sym, ap, ◌∙◌, subst}
use Prim.Native.Nat.{ℕ, ◌+◌, ◌≤◌}
use native.Mathlib.Omega.{arith}
use lib.ListN.{length, get_or, take, replicate, length-replicate}
use lib.Seq.{length-take-le}
use Rattle.records.specs.Bytes.{bytes, laid}
use Rattle.turns.specs.Second.{turn, second}
use Rattle.turns.proofs.Turns.{turns-room}
use Rattle.turns.proofs.lay.Goals as goal

wide : (W : ℕ) → W ≤ 128 → length {A = ℕ} (take W (replicate 128 255)) ≡ W
wide W l = length-take-le W (replicate 128 255) (omega (arith, length-replicate {A = ℕ} 128 255))

pub slice_bounds-lay_all-end : goal.slice_bounds-lay_all-end
slice_bounds-lay_all-end c = sym (wide _ c.requires.2)

pub lay_all-requires : goal.lay_all-requires
lay_all-requires c =
    let a = c.args in
    let p = c.requires in
    let w = wide _ p.2 in
    let fits = turns-room (turn a.way a.n) (λ k. get_or a.holds.now k 0) a.n a.e.byte a.n a.e.width a.from a.plan.now p.3 in
    (p.0, omega (arith, p.1, w), subst (λ (W : ℕ). a.from + length (bytes a.e.byte a.n (second a.way W a.n a.holds.now)) ≤ length a.plan.now) (sym w) fits)

pub returns : goal.returns
returns c =
    let a = c.args in
    c.lay_all.ensures
    ∙ ap (λ (W : ℕ). laid a.plan.now a.from (bytes a.e.byte a.n (second a.way W a.n a.holds.now))) (wide _ c.requires.2)
