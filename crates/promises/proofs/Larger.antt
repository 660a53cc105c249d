-- A larger batch is checked as the batch was, its plan is the batch's with every hold multiplied, and so is every number beside it.
use Rattle.std.specs.Prelude.{Err, Ok}
use mathlib.Core.Path.{◌≡◌, refl, sym, ap, ap₂, ◌∙◌}
use mathlib.Core.Logic.{dite}
use mathlib.Core.List.{List, map}
use Prim.Native.Nat.{ℕ, ◌*◌, ◌-◌, ◌≤◌, ◌<◌}
use native.Mathlib.Decide.{ℕ_discrete, dec_lt}
use native.Mathlib.Nat.{mul-le-mul_left}
use native.Mathlib.Omega.{arith}
use lib.ListN.{length, length-map}
use Rattle.counting.specs.Sum.{sum}
use Rattle.counting.specs.Matrix.{row}
use Rattle.counting.proofs.Sum.{sum-cong}
use Rattle.switch.specs.declared.Refusal.{Refusal}
use Rattle.switch.specs.declared.Refusal.TheVariants.{Ports, Cells, Room}
use Rattle.switch.specs.declared.Edition.{Edition}
use Rattle.switch.specs.Demand.{cell, longest}
use Rattle.switch.specs.Plan.{Record, grant}
use Rattle.switch.specs.Empty.{beyond, empty_slots}
use Rattle.switch.proofs.Check.{no-ports, many-ports, some-ports}
use Rattle.demand.specs.Check.{check_demand}
use Rattle.demand.proofs.Check.{bad-ports, bad-cells, fine}
use Rattle.records.specs.Bytes.{whole}
use Rattle.rules.specs.Exact.{exact_plan}
use Rattle.rules.specs.Doubled.{stretch}
use Rattle.rules.specs.Larger.{multiplied}
use Rattle.rules.proofs.Doubled.{total-stretch, grant-stretch}
use Rattle.rules.proofs.Larger.{mul-sub, sum-times, cell-multiplied, longest-multiplied, exact-multiplied}
use Rattle.switch.specs.Result.{Result, refuses}
use Rattle.planner.specs.Planned.{writes}
use Rattle.planner.proofs.Planned.{planned-faulty, planned-short, planned-done}
use Rattle.switch.specs.Editions.{Bounded}
use Rattle.promises.specs.Larger.{exact_given, larger, larger_bytes, LargerCall}

length-multiplied : (k : ℕ) (d : List ℕ) → length (multiplied k d) ≡ length d
unfolding multiplied
length-multiplied k d = length-map d (λ x. x * k)

-- granted less asked, where both are multiplied by k
empty-multiplied : (N k : ℕ) (d : List ℕ) (p : List Record)
    → empty_slots N (cell N (multiplied k d)) (map (stretch k) p) ≡ empty_slots N (cell N d) p * k
unfolding empty_slots beyond row
empty-multiplied N k d p =
    sum-cong N _ _ (λ i _. sum-cong N _ _ (λ j _. pair i j) ∙ sum-times N k (λ j. grant p i j - cell N d i j))
    ∙ sum-times N k (λ i. sum N (λ j. grant p i j - cell N d i j))
  where
    pair : (i j : ℕ) → grant (map (stretch k) p) i j - cell N (multiplied k d) i j ≡ (grant p i j - cell N d i j) * k
    pair i j = ap₂ (λ x y. x - y) (grant-stretch k p i j) (cell-multiplied N k d i j) ∙ mul-sub k (grant p i j) (cell N d i j)

module _ (E : Edition) (bounded : Bounded E) (N k : ℕ) (d buf : List ℕ) (some : 1 ≤ k) (fits : longest N (cell N d) * k ≤ 65535) where
  abbrev Scaled : Type 0
  Scaled =
      ((exact_given E N (multiplied k d) buf).outcome ≡ larger k (exact_given E N d buf).outcome)
      × ((exact_given E N (multiplied k d) buf).bytes ≡ larger_bytes (exact_given E N d buf).outcome E N k d buf)

  -- it is enough to know what both calls give
  known : (R S : Result) → exact_given E N d buf ≡ R → exact_given E N (multiplied k d) buf ≡ S → S.outcome ≡ larger k R.outcome
      → S.bytes ≡ larger_bytes R.outcome E N k d buf → Scaled
  known R S a b o s = (
    ap (λ (x : Result). x.outcome) b ∙ o ∙ ap (λ (x : Result). larger k x.outcome) (sym a),
    ap (λ (x : Result). x.bytes) b ∙ s ∙ ap (λ (x : Result). larger_bytes x.outcome E N k d buf) (sym a),
  )

  -- both are refused, and for the same reason
  refused : (r : Refusal) → Err r ≡ check_demand E.ports N d → Err r ≡ check_demand E.ports N (multiplied k d) → Scaled
  refused r a b =
      known (refuses r buf) (refuses r buf) (planned-faulty E N d (exact_plan E.width N d) buf r (sym a))
      (planned-faulty E N (multiplied k d) (exact_plan E.width N (multiplied k d)) buf r (sym b)) refl refl

  module _ (pos : 0 < N) (top : N ≤ E.ports) (size : length d ≡ N * N) where
    abbrev T : ℕ
    T = longest N (cell N d)

    abbrev p : List Record
    p = exact_plan E.width N d

    fine-once : check_demand E.ports N d ≡ Ok T
    fine-once = sym (fine E.ports N d (some-ports _ _ pos top) size (omega (arith, fits, mul-le-mul_left T some)))

    fine-larger : check_demand E.ports N (multiplied k d) ≡ Ok (T * k)
    fine-larger =
        sym (fine E.ports N (multiplied k d) (some-ports _ _ pos top) (length-multiplied k d ∙ size) (rw (longest-multiplied N k d) fits))
        ∙ ap Ok (longest-multiplied N k d)

    same : exact_plan E.width N (multiplied k d) ≡ map (stretch k) p
    same = exact-multiplied E.width N k pos (omega (arith, top, bounded.ports)) some d (omega (arith, size))

    -- neither fits, or both do
    short : whole E.width buf < length p → Scaled
    short l =
        known (refuses (Room (length p)) buf) (refuses (Room (length (map (stretch k) p))) buf)
        (planned-short E N d p buf T fine-once l)
        (rw same (planned-short E N (multiplied k d) (map (stretch k) p) buf (T * k) fine-larger (rw (length-map p (stretch k)) l)))
        (rw (length-map p (stretch k))) refl

    roomy : length p ≤ whole E.width buf → Scaled
    unfolding writes
    roomy l =
        known (writes E N T (empty_slots N (cell N d) p) p buf)
        (writes E N (T * k) (empty_slots N (cell N (multiplied k d)) (map (stretch k) p)) (map (stretch k) p) buf)
        (planned-done E N d p buf T fine-once l)
        (rw same (planned-done E N (multiplied k d) (map (stretch k) p) buf (T * k) fine-larger (rw (length-map p (stretch k)) l)))
        (rw (length-map p (stretch k), total-stretch k p, empty-multiplied N k d p)) refl

  scaled : Scaled
  scaled =
      dite (dec_lt 0 N)
      (λ pos. dite (dec_lt E.ports N) (λ l. refused Ports (bad-ports E.ports N d (many-ports _ _ l)) (bad-ports E.ports N (multiplied k d) (many-ports _ _ l)))
      (λ f. let top : N ≤ E.ports = omega (arith, f) in dite (ℕ_discrete (length d) (N * N))
      (λ size. dite (dec_lt (whole E.width buf) (length (exact_plan E.width N d))) (short pos top size) (λ g. roomy pos top size (omega (arith, g))))
      (λ z. refused (Cells (N * N)) (bad-cells E.ports N d (some-ports _ _ pos top) z) (bad-cells E.ports N (multiplied k d) (some-ports _ _ pos top) (rw (length-multiplied k d) z)))))
      (λ z. let e : N ≡ 0 = omega (arith, z) in
      refused Ports (bad-ports E.ports N d (no-ports _ _ e)) (bad-ports E.ports N (multiplied k d) (no-ports _ _ e)))

-- what the exact call gives for a larger batch, in any edition
pub exact-larger : (E : Edition) → Bounded E → LargerCall E
exact-larger E bounded =
    record { outcome = λ N k d buf some fits. (scaled E bounded N k d buf some fits).0; bytes = λ N k d buf some fits. (scaled E bounded N k d buf some fits).1 }
