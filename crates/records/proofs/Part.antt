-- Record k of a plan is the part of its bytes from k sizes on: it stands inside the plan where k is below the number of records.
use mathlib.Core.Path.{◌≡◌, ap, ◌∙◌}
use mathlib.Core.List.{List}
use Prim.Native.Nat.{ℕ, ◌+◌, ◌*◌, ◌-◌, ◌<◌, ◌≤◌}
use native.Mathlib.Nat.{suc-mul, mul-le-mul_right, div-mul-le_self}
use native.Mathlib.Omega.{arith}
use lib.ListN.{length, take, drop, length-take, length-drop}
use Rattle.records.specs.Record.{well_formed}
use Rattle.records.specs.Bytes.{record_at, whole}

pub whole-fits : (W : ℕ) (plan : List ℕ) → whole W plan * (W + 4) ≤ length plan
whole-fits W plan = div-mul-le_self (length plan) (W + 4)

module _ (W : ℕ) (plan : List ℕ) (k : ℕ) where
  pub record-fits : (m : ℕ) → k < m → m * (W + 4) ≤ length plan → k * (W + 4) + (W + 4) ≤ length plan
  record-fits m l fits = omega (arith, suc-mul k (W + 4), mul-le-mul_right (W + 4) l)

  -- the part as the code takes it
  abbrev pub part : List ℕ
  part = take (k * (W + 4) + (W + 4) - k * (W + 4)) (drop (k * (W + 4)) plan)

  pub part-record : part ≡ record_at W plan k
  part-record = ap (λ (m : ℕ). take m (drop (k * (W + 4)) plan)) (let e : k * (W + 4) + (W + 4) - k * (W + 4) ≡ W + 4 = omega arith in e)

  module _ (fits : k * (W + 4) + (W + 4) ≤ length plan) where
    pub record-size : length (record_at W plan k) ≡ W + 4
    record-size = simp (length-take, length-drop) (omega arith)

    -- the part's own width is W
    pub part-fine : (e N : ℕ) → well_formed (length part - 4) e N part ≡ well_formed W e N (record_at W plan k)
    part-fine e N =
        ap (λ (b : List ℕ). well_formed (length b - 4) e N b) part-record
        ∙ ap (λ (w : ℕ). well_formed w e N (record_at W plan k)) (let q : length (record_at W plan k) - 4 ≡ W = omega (arith, record-size) in q)
