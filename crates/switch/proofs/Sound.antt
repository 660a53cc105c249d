-- Plans of sound records are plans, and their records have W outputs, since each record says so of itself.
use mathlib.Core.Path.{◌≡◌}
use mathlib.Core.Logic.{inl}
use mathlib.Core.List.{List, ◌++◌}
use Prim.Native.Nat.{ℕ, ◌<◌, ◌≤◌}
use lib.ListN.{length}
use Rattle.switch.specs.Plan.{Record, Full, Plan, output}
use Rattle.switch.specs.Plan as plan
use Rattle.switch.specs.Sound.{Each, none, more, OfWidth, Sound}
use Rattle.switch.proofs.Plan.{full-setting}

pub each_append : {P : Record → Type 0} {p q : List Record} → Each P p → Each P q → Each P (p ++ q)
each_append none t = t
each_append (more x s) t = more x (each_append s t)

pub each-plan : (W N : ℕ) {p : List Record} → Each (Sound W N) p → Plan N p
each-plan W N none = plan.none
each-plan W N (more s t) = plan.more s.held s.setting (each-plan W N t)

pub each_width : (W N : ℕ) {p : List Record} → Each (Sound W N) p → Each (OfWidth W) p
each_width W N none = none
each_width W N (more s t) = more s.size (each_width W N t)

-- a full setting with its later outputs idle is sound
pub full-sound : (W N : ℕ) (r : Record) → 0 < r.hold → length r.outputs ≡ W → Full N (output r)
    → ((i : ℕ) → N ≤ i → i < W → output r i ≡ 255) → Sound W N r
full-sound W N r held size f past = record {
  held = held;
  size = size;
  inside = λ i l. inl (f.inside i l);
  setting = full-setting N (output r) f;
  later = past;
}
