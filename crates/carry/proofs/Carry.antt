-- Carry-over case by case: which return is which case of the definition, and what is known where nothing is refused before the sum.
use Rattle.std.specs.Prelude.{Err, Ok}
use mathlib.Core.Path.{◌≡◌, refl, sym, ap, ◌∙◌}
use mathlib.Core.Bool.{Bool, true, false}
use mathlib.Core.List.{List}
use mathlib.Core.Logic.{dite}
use Prim.Native.Nat.{ℕ, ◌*◌, ◌<◌, ◌≤◌}
use native.Mathlib.Decide.{ℕ_discrete, dec_lt}
use native.Mathlib.Omega.{arith}
use lib.ListN.{length}
use borrow.Author.Tests.{le-leb, lt-leb, eq-eqb, ne_eqb}
use Rattle.switch.specs.declared.About.{About}
use Rattle.switch.specs.declared.About.TheVariants as about
use Rattle.switch.specs.declared.Counts.{Counts}
use Rattle.switch.specs.declared.Edition.{Edition}
use Rattle.switch.specs.Outcome.{Outcome}
use Rattle.switch.specs.declared.Refusal.{Refusal}
use Rattle.switch.specs.declared.Refusal.TheVariants.{Ports, Cells, Line, FirstOver}
use Rattle.switch.specs.Check.{ports_fine}
use Rattle.switch.specs.Demand.{cell, longest}
use Rattle.switch.specs.Editions.{Bounded}
use Rattle.demand.specs.Lines.{line_over}
use Rattle.demand.specs.Check.{check_lines}
use Rattle.records.specs.Bytes.{whole}
use Rattle.plans.specs.Read.{malformed, checking}
use Rattle.plans.proofs.Plans.{checked, malformed-none}
use Rattle.switch.specs.declared.Blamed.{Blamed}
use Rattle.switch.specs.Answer.{blamed}
use Rattle.carry.specs.Carry.{Carried, done, refused, and_then, plain, of_lines, lines_of, after_records, after_plan, fault_of, new_cells, carry_over, Fit}

never : {b : Blamed} {A : Type 0} → ◌≡◌ {A = Carried} (Err b) done → A
never e = let z : ◌≡◌ {A = ℕ} 0 1 = cc in absurd (let f : ⊥ = omega arith in f)

-- code 3
module _ (a : About) (N : ℕ) (d : List ℕ) where
  pub lines-faulty : {r : Refusal} → Err r ≡ check_lines N d → refused a r ≡ lines_of a N d
  unfolding lines_of
  lines-faulty e = ap (of_lines a) e

  pub lines-fine : {T : ℕ} → Ok T ≡ check_lines N d → done ≡ lines_of a N d
  unfolding lines_of
  lines-fine e = ap (of_lines a) e

  -- no line of cells that are fine is over 65,535
  pub lines-short : lines_of a N d ≡ done → longest N (cell N d) ≤ 65535
  unfolding lines_of
  lines-short e =
      dite (dec_lt 65535 (longest N (cell N d)))
      (λ l. never {b = blamed a (Line (line_over N d))} (rw (lt-leb _ _ l) at e))
      (λ g. omega (arith, g))

-- code 15, and the lines in turn
module _ (N : ℕ) (asked : List ℕ) (m first : ℕ) (wished : List ℕ) where
  pub first-over : m < first → plain (FirstOver m) ≡ after_records N asked m first wished
  unfolding after_records
  first-over l = rw (lt-leb _ _ l)

  module _ (inside : first ≤ m) where
    first-inside : and_then (lines_of about.Demand N asked) (lines_of about.Wished N wished) ≡ after_records N asked m first wished
    unfolding after_records
    first-inside = rw (le-leb _ _ inside)

    pub asked-refused : (b : Blamed) → ◌≡◌ {A = Carried} (Err b) (lines_of about.Demand N asked) → ◌≡◌ {A = Carried} (Err b) (after_records N asked m first wished)
    asked-refused b e = ap (λ (x : Carried). and_then x (lines_of about.Wished N wished)) e ∙ first-inside

    pub asked-done : done ≡ lines_of about.Demand N asked → lines_of about.Wished N wished ≡ after_records N asked m first wished
    asked-done e = ap (λ (x : Carried). and_then x (lines_of about.Wished N wished)) e ∙ first-inside

-- what is refused before the sum is known
module _ (E : Edition) (N : ℕ) (asked plan : List ℕ) (first : ℕ) (wished : List ℕ) (room : ℕ) where
  abbrev fault : Carried
  fault = fault_of E N asked plan first wished room

  abbrev judged : Carried
  judged = after_records N asked (whole E.width plan) first wished

  pub fault-ports : ports_fine E.ports N ≡ false → plain Ports ≡ fault
  unfolding fault_of
  fault-ports e = rw e

  module _ (ports : ports_fine E.ports N ≡ true) where
    pub fault-asked : (length asked ≡ N * N → ⊥) → plain (Cells (N * N)) ≡ fault
    unfolding fault_of
    fault-asked n = rw (ports, ne_eqb _ _ n)

    module _ (a : length asked ≡ N * N) where
      pub fault-wished : (length wished ≡ N * N → ⊥) → plain (Cells (N * N)) ≡ fault
      unfolding fault_of
      fault-wished n = rw (ports, eq-eqb _ _ a, ne_eqb _ _ n)

      module _ (w : length wished ≡ N * N) where
        pub fault-room : (room ≡ N * N → ⊥) → plain (Cells (N * N)) ≡ fault
        unfolding fault_of
        fault-room n = rw (ports, eq-eqb _ _ a, eq-eqb _ _ w, ne_eqb _ _ n)

        module _ (c : room ≡ N * N) where
          pub in-plan : after_plan (checking E N plan) judged ≡ fault
          unfolding fault_of
          in-plan = rw (ports, eq-eqb _ _ a, eq-eqb _ _ w, eq-eqb _ _ c)

          pub fault-plan : {r : Refusal} → Err r ≡ checking E N plan → refused about.Plan r ≡ fault
          fault-plan e = ap (λ (o : Outcome). after_plan o judged) e ∙ in-plan

          pub fault-judged : {x : Counts} → Ok x ≡ checking E N plan → judged ≡ fault
          fault-judged e = ap (λ (o : Outcome). after_plan o judged) e ∙ in-plan

  -- what is known where nothing is
  module _ (bounds : Bounded E) (e : fault ≡ done) where
    abbrev Fits : Type 0
    Fits = Fit E N asked plan first wished room

    module _ (ports : ports_fine E.ports N ≡ true) (a : length asked ≡ N * N) (w : length wished ≡ N * N) (c : room ≡ N * N) where
      fit-lines : (x : Counts) → Ok x ≡ checking E N plan → first ≤ whole E.width plan
          → (y z : Carried) → y ≡ lines_of about.Demand N asked → z ≡ lines_of about.Wished N wished → Fits
      fit-lines x p l (Ok u) (Ok v) y z = record {
        few = (checked E N plan bounds x p).few;
        asked-size = a;
        wished-size = w;
        room-size = c;
        counts = x;
        judged = p;
        inside = l;
        asked-fine = sym y;
        wished-fine = sym z;
      }
      fit-lines x p l (Ok u) (Err b) y z =
          never (z ∙ asked-done N asked (whole E.width plan) first wished l y ∙ fault-judged ports a w c p ∙ e)
      fit-lines x p l (Err b) q y z =
          never (asked-refused N asked (whole E.width plan) first wished l b y ∙ fault-judged ports a w c p ∙ e)

      fit-plan : (o : Outcome) → o ≡ checking E N plan → Fits
      fit-plan (Err r) p = never (fault-plan ports a w c p ∙ e)
      fit-plan (Ok x) p =
          dite (dec_lt (whole E.width plan) first)
          (λ l. never (first-over N asked (whole E.width plan) first wished l ∙ fault-judged ports a w c p ∙ e))
          (λ g. fit-lines x p (omega (arith, g)) (lines_of about.Demand N asked) (lines_of about.Wished N wished) refl refl)

    fit-ports : (b : Bool) → ports_fine E.ports N ≡ b → Fits
    fit-ports false q = never (fault-ports q ∙ e)
    fit-ports true q =
        dite (ℕ_discrete (length asked) (N * N))
        (λ a. dite (ℕ_discrete (length wished) (N * N))
        (λ w. dite (ℕ_discrete room (N * N)) (λ c. fit-plan q a w c (checking E N plan) refl) (λ n. never (fault-room q a w n ∙ e)))
        (λ n. never (fault-wished q a n ∙ e)))
        (λ n. never (fault-asked q n ∙ e))

    pub fit : Fits
    fit = fit-ports (ports_fine E.ports N) refl

-- the records that were run are well formed where the plan is
pub first-formed : (E : Edition) (N : ℕ) (plan : List ℕ) → Bounded E → (x : Counts) → Ok x ≡ checking E N plan → (m : ℕ) → m ≤ whole E.width plan
    → malformed E.width E.byte N plan m 0 ≡ m
first-formed E N plan bounds x p m l =
    omega (arith, malformed-none E.width E.byte N plan m 0 (λ j a b. (checked E N plan bounds x p).formed j (omega arith)))

-- the whole call
module _ (E : Edition) (N : ℕ) (asked plan : List ℕ) (first : ℕ) (wished cells : List ℕ) where
  abbrev sum : Carried
  sum = lines_of about.Sum N (new_cells E N asked plan first wished)

  pub carry-fault : {b : Blamed} → ◌≡◌ {A = Carried} (Err b) (fault_of E N asked plan first wished (length cells))
      → ◌≡◌ {A = Carried} (Err b) (carry_over E N asked plan first wished cells)
  unfolding carry_over
  carry-fault e = ap (λ (x : Carried). and_then x sum) e

  pub carry-sum : done ≡ fault_of E N asked plan first wished (length cells) → sum ≡ carry_over E N asked plan first wished cells
  unfolding carry_over
  carry-sum e = ap (λ (x : Carried). and_then x sum) e
