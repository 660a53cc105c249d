-- Done is answered only where nothing is refused, and then the cells are the new demand, whose laws stand in the crate carry; each refusal is the
-- first whose reason holds.
use Rattle.std.specs.Prelude.{Err, Ok}
use mathlib.Core.Path.{◌≡◌, refl, sym, ap, ◌∙◌, subst}
use mathlib.Core.Bool.{true}
use mathlib.Core.List.{List}
use mathlib.Core.Logic.{dite}
use Prim.Native.Nat.{ℕ, ◌*◌, ◌<◌, ◌≤◌}
use native.Mathlib.Decide.{ℕ_discrete, dec_lt}
use native.Mathlib.Omega.{arith}
use lib.ListN.{length}
use Rattle.switch.specs.declared.About.{About}
use Rattle.switch.specs.declared.About.TheVariants as about
use Rattle.switch.specs.declared.Blamed.{Blamed}
use Rattle.switch.specs.declared.Edition.{Edition}
use Rattle.switch.specs.Outcome.{Outcome}
use Rattle.switch.specs.declared.Refusal.{Refusal}
use Rattle.switch.specs.declared.Refusal.TheVariants.{Ports, Cells, FirstOver}
use Rattle.switch.specs.Answer.{blamed}
use Rattle.switch.specs.Check.{ports_fine}
use Rattle.switch.specs.Editions.{first_edition, Bounded}
use Rattle.switch.proofs.Check.{some-ports, many-ports}
use Rattle.switch.proofs.Check as switch
use Rattle.switch.proofs.Editions.{first-bounded}
use Rattle.demand.specs.Checked.{Checked}
use Rattle.demand.specs.Check.{check_lines}
use Rattle.demand.proofs.Check.{lines_left, fine-asked}
use Rattle.records.specs.Bytes.{whole, plan_from}
use Rattle.plans.specs.Read.{checking}
use Rattle.carry.specs.Rest.{useful, new_demand}
use Rattle.carry.specs.Carry.{Carried, done, refused, and_then, plain, lines_of, after_records, fault_of, new_cells, carry_over, cells_after, Carries, Fit}
use Rattle.carry.proofs.Rest.{new-size, new-cell, kept, kept-all, carried-to-the-end}
use Rattle.carry.proofs.Carry.{lines-faulty, lines-fine, lines-short, first-over, asked-refused, asked-done, fit, carry-fault, carry-sum}
use Rattle.carry.proofs.Carry.{fault-ports, fault-asked, fault-wished, fault-room, fault-plan, fault-judged}
use Rattle.promises.specs.Calls.{CarryOver}
use Rattle.promises.specs.Planner.{Fair, Fault}
use Rattle.promises.specs.Carry.{Renews, Square, Stopped, Uncarried, no-ports, no-square, in-plan, past_the_end, in-demand, in-wishes, in_sum, CarriesOn}
use Rattle.promises.proofs.Fair.{fair-fine, fine-fair, faulty-fault}
use Rattle.promises.proofs.Reading.{checks-good, good-checks, unread}

never : {b : Blamed} {A : Type 0} → ◌≡◌ {A = Carried} (Err b) done → A
never e = let z : ◌≡◌ {A = ℕ} 0 1 = cc in absurd (let g : ⊥ = omega arith in g)

-- a refusal says what it is about, and why
same-blamed : {b c : Blamed} → ◌≡◌ {A = Carried} (Err b) (Err c) → b ≡ c
same-blamed e = cc

same-about : {a b : About} {f g : Refusal} → refused a f ≡ refused b g → a ≡ b
same-about e = ap (λ (x : Blamed). x.about) (same-blamed e)

same-refusal : {a b : About} {f g : Refusal} → refused a f ≡ refused b g → f ≡ g
same-refusal e = ap (λ (x : Blamed). x.refusal) (same-blamed e)

-- done is answered where both parts are done
first_done : (x y : Carried) → and_then x y ≡ done → (x ≡ done) × (y ≡ done)
first_done (Ok u) y e = (refl, e)
first_done (Err b) y e = never e

module _ (E : Edition) (bounds : Bounded E) (N : ℕ) (asked plan : List ℕ) (first : ℕ) (wished before : List ℕ) (r : Carried) (after : List ℕ)
    (met : Carries E N asked plan first wished before r after) where
  abbrev new : List ℕ
  new = new_cells E N asked plan first wished

  parts : r ≡ done → (fault_of E N asked plan first wished (length before) ≡ done) × (lines_of about.Sum N new ≡ done)
  unfolding carry_over
  parts d = first_done _ _ (sym met.answer ∙ d)

  fits : r ≡ done → Fit E N asked plan first wished (length before)
  fits d = fit E N asked plan first wished (length before) bounds (parts d).0

  written : r ≡ done → after ≡ new
  written d = met.cells ∙ ap (λ (x : Carried). cells_after x new before) d

  renewed : lines_of about.Sum N new ≡ done → Renews N asked wished (plan_from E.width plan 0 first) new
  unfolding useful
  renewed d =
      let q = plan_from E.width plan 0 first in
      record {
        size = new-size N asked wished q;
        each = new-cell N asked wished q;
        balance = kept N asked wished q;
        balance-all = kept-all N asked wished q;
        lines = lines-short about.Sum N new d;
      }

  -- what nothing before the sum refuses
  stopped : Fit E N asked plan first wished (length before) → Stopped E N asked plan first wished (length before)
  stopped f =
      let g = checks-good E N plan bounds f.counts (sym f.judged) in
      record {
        square = record { some = g.opens.some; few = f.few; asks = f.asked-size; wishes = f.wished-size; lent = f.room-size };
        good = g;
        inside = f.inside;
      }

  -- ---- done

  takes : Stopped E N asked plan first wished (length before) → Fair E 65535 N asked → Fair E 65535 N wished → Fair E 65535 N new → r ≡ done
  takes s fa fw fn = met.answer ∙ sym (lines about.Sum new fn ∙ carry-sum E N asked plan first wished before through)
    where
      q : Square E N asked wished (length before)
      q = s.square

      ports : ports_fine E.ports N ≡ true
      ports = some-ports E.ports N q.some q.few

      lines : (a : About) (d : List ℕ) → Fair E 65535 N d → done ≡ lines_of a N d
      lines a d f = lines-fine a N d (fair-fine E N d (omega arith) f ∙ sym (lines_left E.ports N d ports f.cells))

      through : done ≡ fault_of E N asked plan first wished (length before)
      through =
          lines about.Wished wished fw ∙ asked-done N asked (whole E.width plan) first wished s.inside (lines about.Demand asked fa)
          ∙ fault-judged E N asked plan first wished (length before) ports q.asks q.wishes q.lent (sym (good-checks E N plan bounds s.good))

  -- ---- the first reason that holds

  module _ (a : About) (f : Refusal) (e : r ≡ refused a f) where
    abbrev Why : About → Refusal → Type 0
    Why = Uncarried E N asked plan first wished (length before)

    -- the refusal that is found is the one that is given
    told : (b : About) (g : Refusal) → refused b g ≡ carry_over E N asked plan first wished before → Why b g → Why a f
    told b g q u = subst (λ (x : About). Why x f) (same-about both) (subst (Why b) (same-refusal both) u)
      where
        both : refused b g ≡ refused a f
        both = q ∙ sym met.answer ∙ e

    fault-told : (b : About) (g : Refusal) → refused b g ≡ fault_of E N asked plan first wished (length before) → Why b g → Why a f
    fault-told b g q = told b g (carry-fault E N asked plan first wished before q)

    module _ (q : Square E N asked wished (length before)) where
      ports : ports_fine E.ports N ≡ true
      ports = some-ports E.ports N q.some q.few

      -- the lines of N² cells
      faulty : (d : List ℕ) → length d ≡ N * N → (g : Refusal) → Err g ≡ check_lines N d → Fault E N d g
      faulty d s g w = faulty-fault E N d g (w ∙ lines_left E.ports N d ports s)

      fair : (d : List ℕ) → length d ≡ N * N → (T : ℕ) → Ok T ≡ check_lines N d → Fair E 65535 N d
      fair d s T w = let z = w ∙ lines_left E.ports N d ports s in fine-fair E N d T 65535 z (fine-asked E.ports N T d (sym z)).small

      module _ (s : Stopped E N asked plan first wished (length before)) where
        abbrev judged : Carried
        judged = after_records N asked (whole E.width plan) first wished

        left : judged ≡ fault_of E N asked plan first wished (length before)
        left = fault-judged E N asked plan first wished (length before) ports q.asks q.wishes q.lent (sym (good-checks E N plan bounds s.good))

        by-sum : Fair E 65535 N asked → Fair E 65535 N wished → done ≡ judged → (x : Checked) → x ≡ check_lines N new → Why a f
        by-sum fa fw d (Err g) w =
            told about.Sum g (lines-faulty about.Sum N new w ∙ carry-sum E N asked plan first wished before (d ∙ left))
            (in_sum s fa fw (faulty new (new-size N asked wished (plan_from E.width plan 0 first)) g w))
        by-sum fa fw d (Ok T) w =
            never (sym (lines-fine about.Sum N new w ∙ carry-sum E N asked plan first wished before (d ∙ left) ∙ sym met.answer ∙ e))

        by-wishes : Fair E 65535 N asked → lines_of about.Wished N wished ≡ judged → (x : Checked) → x ≡ check_lines N wished → Why a f
        by-wishes fa j (Err g) w = fault-told about.Wished g (lines-faulty about.Wished N wished w ∙ j ∙ left) (in-wishes s fa (faulty wished q.wishes g w))
        by-wishes fa j (Ok T) w = by-sum fa (fair wished q.wishes T w) (lines-fine about.Wished N wished w ∙ j) (check_lines N new) refl

        by-demand : (x : Checked) → x ≡ check_lines N asked → Why a f
        by-demand (Err g) w =
            fault-told about.Demand g (asked-refused N asked (whole E.width plan) first wished s.inside (blamed about.Demand g) (lines-faulty about.Demand N asked w) ∙ left)
            (in-demand s (faulty asked q.asks g w))
        by-demand (Ok T) w =
            by-wishes (fair asked q.asks T w) (asked-done N asked (whole E.width plan) first wished s.inside (lines-fine about.Demand N asked w))
            (check_lines N wished) refl

      by-plan : (o : Outcome) → o ≡ checking E N plan → Why a f
      by-plan (Err g) w =
          fault-told about.Plan g (fault-plan E N asked plan first wished (length before) ports q.asks q.wishes q.lent w)
          (in-plan q (unread E bounds N plan g (sym w)))
      by-plan (Ok c) w =
          let g = checks-good E N plan bounds c (sym w) in
          dite (dec_lt (whole E.width plan) first)
          (λ l. fault-told about.Nothing (FirstOver (whole E.width plan))
          (first-over N asked (whole E.width plan) first wished l ∙ fault-judged E N asked plan first wished (length before) ports q.asks q.wishes q.lent w)
          (past_the_end q g l))
          (λ n. by-demand (record { square = q; good = g; inside = omega (arith, n) }) (check_lines N asked) refl)

    why : Why a f
    why =
        dite (dec_lt 0 N)
        (λ some. dite (dec_lt E.ports N)
        (λ l. fault-told about.Nothing Ports (fault-ports E N asked plan first wished (length before) (many-ports _ _ l)) (no-ports (λ _ few. omega arith)))
        (λ n. by-cells some (omega (arith, n))))
        (λ none. fault-told about.Nothing Ports (fault-ports E N asked plan first wished (length before) (switch.no-ports _ _ (omega (arith, none)))) (no-ports (λ some _. none some)))
      where
        by-cells : 0 < N → N ≤ E.ports → Why a f
        by-cells some few =
            let p = some-ports E.ports N some few in
            dite (ℕ_discrete (length asked) (N * N))
            (λ x. dite (ℕ_discrete (length wished) (N * N))
            (λ y. dite (ℕ_discrete (length before) (N * N))
            (λ z. by-plan (record { some = some; few = few; asks = x; wishes = y; lent = z }) (checking E N plan) refl)
            (λ n. other (fault-room E N asked plan first wished (length before) p x y n) (λ _ _ z. n z)))
            (λ n. other (fault-wished E N asked plan first wished (length before) p x n) (λ _ y _. n y)))
            (λ n. other (fault-asked E N asked plan first wished (length before) p n) (λ x _ _. n x))
          where
            other : plain (Cells (N * N)) ≡ fault_of E N asked plan first wished (length before)
                → (length asked ≡ N * N → length wished ≡ N * N → length before ≡ N * N → ⊥) → Why a f
            other w n = fault-told about.Nothing (Cells (N * N)) w (no-square some few n)

  carries-on : CarriesOn E N asked plan first wished before r after
  carries-on = record {
    taken = takes;
    only_then = λ d. stopped (fits d);
    renews = λ d. subst (Renews N asked wished (plan_from E.width plan 0 first)) (sym (written d)) (renewed (parts d).1);
    at-the-end = λ d e c. written d ∙ ap (λ (m : ℕ). new_demand N asked wished (plan_from E.width plan 0 m)) e
        ∙ carried-to-the-end N E.width asked wished plan (fits d).wished-size c;
    refuses = why;
    unchanged = λ a f e. met.cells ∙ ap (λ (x : Carried). cells_after x new before) e;
  }

-- a carry-over
pub carry-over-promise : (N : ℕ) (asked plan : List ℕ) (first : ℕ) (wished before : List ℕ) (r : Carried) (after : List ℕ)
    → CarryOver N asked plan first wished before r after → CarriesOn first_edition N asked plan first wished before r after
carry-over-promise N asked plan first wished before r after met = carries-on first_edition first-bounded N asked plan first wished before r after met
