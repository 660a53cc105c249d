-- The demand's checks refuse nothing just where the demand is fair, and what they refuse has the first fault in their order.
use Rattle.std.specs.Prelude.{Err, Ok}
use Rattle.demand.specs.Checked.{Checked}
use mathlib.Core.Path.{◌≡◌, sym, ◌∙◌, subst}
use mathlib.Core.List.{List}
use Prim.Native.Nat.{ℕ, ◌+◌, ◌*◌, ◌<◌, ◌≤◌}
use native.Mathlib.Decide.{dec_lt, ℕ_discrete}
use native.Mathlib.Omega.{arith}
use lib.ListN.{length}
use Rattle.counting.proofs.Most.{most-one}
use Rattle.switch.specs.declared.Refusal.{Refusal}
use Rattle.switch.specs.declared.Refusal.TheVariants.{Line}
use Rattle.switch.specs.Demand.{cell, line, longest}
use Rattle.switch.proofs.Check.{no-ports, many-ports, some-ports}
use Rattle.switch.proofs.Demand.{row-le-longest, col-le-longest, longest-le, longest-is}
use Rattle.demand.specs.Check.{check_demand}
use Rattle.demand.specs.Lines.{over, line_side, line_over}
use Rattle.demand.proofs.Lines.{FirstOver, over_first}
use Rattle.demand.proofs.Check as demand
use Rattle.switch.specs.declared.Edition.{Edition}
use Rattle.promises.specs.Planner.{Fair, Fault, bad-ports, bad-cells, long-line}

module _ (E : Edition) (N : ℕ) (d : List ℕ) where
  pub fair-longest : {most : ℕ} → Fair E most N d → longest N (cell N d) ≤ most
  fair-longest {most} f = longest-le N most (cell N d) f.rows f.columns

  pub fair-fine : {most : ℕ} → most ≤ 65535 → Fair E most N d → Ok (longest N (cell N d)) ≡ check_demand E.ports N d
  fair-fine l f = demand.fine E.ports N d (some-ports E.ports N f.some f.few) f.cells (omega (arith, l, fair-longest f))

  pub fine-fair : (T most : ℕ) → Ok T ≡ check_demand E.ports N d → T ≤ most → Fair E most N d
  fine-fair T most e l =
      let a = demand.fine-asked E.ports N T d (sym e) in record {
        some = a.some;
        few = a.few;
        cells = a.size;
        rows = λ i h. omega (arith, row-le-longest N (cell N d) i h, a.longest-is);
        columns = λ j h. omega (arith, col-le-longest N (cell N d) j h, a.longest-is);
      }

  pub not-fine : {f : Refusal} {T : ℕ} {A : Type 0} → Err f ≡ Ok T → A
  not-fine e = let z : ◌≡◌ {A = ℕ} 0 1 = cc in absurd (let g : ⊥ = omega arith in g)

  -- the first line that is over
  first-over : 65535 < longest N (cell N d) → FirstOver 65535 (line N d) 0 (N + N) (over 65535 (line N d) (N + N) 0)
  first-over l =
      let at = most-one (N + N) (line N d) (omega (arith, l, longest-is N d)) in
      over_first 65535 (line N d) (N + N) 0 at.0 (omega arith) (omega (arith, at.1)) (omega (arith, at.2, l, longest-is N d))

  pub faulty-fault : (f : Refusal) → Err f ≡ check_demand E.ports N d → Fault E N d f
  faulty-fault f e = by-ports (dec_lt 0 N) (dec_lt E.ports N)
    where
      same : {g h : Refusal} → ◌≡◌ {A = Checked} (Err g) (Err h) → g ≡ h
      same q = cc

      it-is : (g : Refusal) → Err g ≡ check_demand E.ports N d → Fault E N d g → Fault E N d f
      it-is g q = subst (Fault E N d) (same (q ∙ sym e))

      by_lines : (0 < N) → N ≤ E.ports → length d ≡ N * N → Dec (65535 < longest N (cell N d)) → Fault E N d f
      by_lines s m c (yes l) =
          let o = first-over l in
          it-is (Line (line_side N (over 65535 (line N d) (N + N) 0))) (unfold line_over in demand.lines_long N d l ∙ demand.lines_left E.ports N d (some-ports E.ports N s m) c)
          (long-line s m c (over 65535 (line N d) (N + N) 0) (omega (arith, o.inside)) o.here (λ j b. o.before j (omega arith) b))
      by_lines s m c (no l) = not-fine (e ∙ sym (demand.fine E.ports N d (some-ports E.ports N s m) c (omega (arith, l))))

      by-cells : (0 < N) → N ≤ E.ports → Dec (length d ≡ N * N) → Fault E N d f
      by-cells s m (yes c) = by_lines s m c (dec_lt 65535 (longest N (cell N d)))
      by-cells s m (no c) = it-is _ (demand.bad-cells E.ports N d (some-ports E.ports N s m) c) (bad-cells s m c)

      by-ports : Dec (0 < N) → Dec (E.ports < N) → Fault E N d f
      by-ports (no z) x = it-is _ (demand.bad-ports E.ports N d (no-ports E.ports N (omega (arith, z)))) (bad-ports (λ a b. z a))
      by-ports (yes s) (yes m) = it-is _ (demand.bad-ports E.ports N d (many-ports E.ports N m)) (bad-ports (λ a b. omega (arith, m, b)))
      by-ports (yes s) (no m) = let l : N ≤ E.ports = omega (arith, m) in by-cells s l (ℕ_discrete (length d) (N * N))
