-- Record k of a plan as the code reads it: its size, what the check of its bytes tells, and its outputs.
use mathlib.Core.Path.{◌≡◌, ap, ◌∙◌}
use mathlib.Core.List.{List}
use Prim.Native.Nat.{ℕ, ◌+◌, ◌-◌, ◌<◌, ◌≤◌}
use native.Mathlib.Omega.{arith}
use lib.ListN.{length, take, drop, length-drop}
use lib.Seq.{take_all}
use Rattle.switch.specs.declared.Edition.{Edition}
use Rattle.records.specs.Record.{outputs, well_formed}
use Rattle.records.specs.Bytes.{record_at, whole}
use Rattle.records.proofs.Part.{record-fits, record-size, whole-fits}
use Rattle.plans.specs.Reading.{Readable}
use Rattle.rescue_rule.specs.Rescue.{fine}

module _ (E : Edition) (N : ℕ) (plan : List ℕ) (m : ℕ) (r : Readable E N plan m) where
  pub ports-fit : (N ≤ E.width) × (N ≤ 128)
  ports-fit = (omega (arith, r.few, r.bounded.ports), omega (arith, r.few, r.bounded.ports, r.bounded.width))

  module _ (k : ℕ) (l : k < m) (b : List ℕ) (is : b ≡ record_at E.width plan k) where
    pub read-size : length b ≡ E.width + 4
    read-size = ap length is ∙ record-size E.width plan k (record-fits E.width plan k (whole E.width plan) (omega (arith, r.inside)) (whole-fits E.width plan))

    -- room for N outputs behind the head
    pub read-room : N + 4 ≤ length b
    read-room = omega (arith, ports-fit.0, read-size)

    -- what the check of its bytes tells
    pub same : well_formed (length b - 4) E.byte N b ≡ fine E.width E.byte N plan k
    same = ap (λ (w : ℕ). well_formed w E.byte N b) (let q : length b - 4 ≡ E.width = omega (arith, read-size) in q) ∙ ap (well_formed E.width E.byte N) is

-- the outputs as the code takes them are all that follows the head
module _ (b : List ℕ) (long : 4 ≤ length b) where
  abbrev pub part : List ℕ
  part = take (length b - 4) (drop 4 b)

  pub part-outputs : part ≡ outputs b
  part-outputs = take_all (length b - 4) (drop 4 b) (rw length-drop (omega arith))

  pub part-size : length part ≡ length b - 4
  part-size = ap length part-outputs ∙ length-drop 4 b

  -- so what is said of them with their own length is said with the record's width
  pub part_says : {A : Type 0} (f : ℕ → List ℕ → A) → f (length part) part ≡ f (length b - 4) (outputs b)
  part_says f = ap (λ (o : List ℕ). f (length o) o) part-outputs ∙ ap (λ (w : ℕ). f w (outputs b)) (length-drop 4 b)
