-- A start of at most n and a turn below n are below 2n together, so at most one n is taken off.
use mathlib.Core.Path.{◌≡◌, sym, ap, ◌∙◌}
use Prim.Native.Nat.{ℕ, ◌+◌, ◌-◌, ◌%◌, ◌≤◌, ◌<◌}
use native.Mathlib.Omega.{arith}
use native.Mathlib.Nat.{mod-eq_of_lt, add-mod_right}
use Rattle.turns.specs.declared.Turning.{Turning}
use Rattle.turns.specs.Second.{turn, ahead}
use Rattle.turns.proofs.Ways.{turn_in, ahead-most}
use Rattle.turns.proofs.output_of.Goals as goal

module _ (t : Turning) (n k i s : ℕ) (lk : k < n) (li : i < n) (start : s ≡ ahead t n i) where
  turned : turn t n k i ≡ (s + k) % n
  turned = turn_in t n k i li ∙ ap (λ x. (x + k) % n) (sym start)

  stays : s + k < n → (s + k ≡ turn t n k i) × (s + k < n)
  stays l = (sym (turned ∙ mod-eq_of_lt l), l)

  once-off : n ≤ s + k → (s + k - n ≡ turn t n k i) × (s + k - n < n)
  once-off l = (sym (turned ∙ ap (λ x. x % n) (let e : s + k ≡ s + k - n + n = omega arith in e) ∙ add-mod_right (s + k - n) n ∙ mod-eq_of_lt inside), inside)
    where
      inside : s + k - n < n
      inside = omega (arith, start, ahead-most t n i li)

pub overflow_add-on : goal.overflow_add-on
overflow_add-on c = let a = c.args in omega (arith, c.start_of.ensures, c.requires, ahead-most a.way a.n a.i.0 c.requires.1)

pub returns-then-on-n : goal.returns-then-on-n
returns-then-on-n c =
    stays c.args.way c.args.n c.args.k c.args.i.0 _ c.requires.0 c.requires.1 c.start_of.ensures c.if-on-n.true

pub returns : goal.returns
returns c =
    once-off c.args.way c.args.n c.args.k c.args.i.0 _ c.requires.0 c.requires.1 c.start_of.ensures c.if-on-n.false
