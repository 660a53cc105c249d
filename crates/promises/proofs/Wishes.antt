-- A wish's answer is the one that its rules ask for; a wish list is refused by the first test that fails, so code 0 says that none does.
use Rattle.std.specs.Prelude.{Err, Ok}
use mathlib.Core.Path.{◌≡◌, refl, sym, ap, ◌∙◌, subst}
use mathlib.Core.Bool.{Bool, true, false, true≢false}
use mathlib.Core.List.{List}
use mathlib.Core.Logic.{dite}
use Prim.Native.Nat.{ℕ, zero, suc, ◌*◌, ◌/◌, ◌%◌, ◌<◌, ◌≤◌}
use native.Mathlib.Decide.{dec_lt, ℕ_discrete}
use native.Mathlib.Nat.{mul-le-mul_right}
use native.Mathlib.Omega.{arith}
use lib.Dec.{ltb, eqb}
use lib.ListN.{length}
use lib.Ieee.{Float, down, of_bits, binary32}
use Rattle.wish.specs.declared.Unfit.TheVariants.{NotFinite, BelowZero, AboveMost}
use Rattle.wish.specs.Wish.{Wish, worth, wish_bits, code_of, slots_of, InRange}
use Rattle.wish.specs.Meaning.{Answers, a-nan, an-infinity, below-zero, above_most, its-slots}
use Rattle.wish.proofs.Answer.{said}
use Rattle.wish.proofs.Above.{above-two}
use Rattle.switch.specs.declared.Edition.{Edition}
use Rattle.switch.specs.Outcome.{Outcome}
use Rattle.switch.specs.declared.Refusal.{Refusal}
use Rattle.switch.specs.declared.Refusal.TheVariants.{Ports}
use Rattle.switch.specs.declared.Counts.{Counts}
use Rattle.switch.specs.Answer.{counts_of, plan_counts}
use Rattle.switch.proofs.Answer.{code-done}
use Rattle.switch.proofs.Check.{some-ports, no-ports, many-ports}
use Rattle.wishes.specs.declared.WishRecord.{WishRecord}
use Rattle.wishes.specs.Fault.{Fault}
use Rattle.wishes.specs.Record.{record_at, well_formed}
use Rattle.wishes.specs.Fault.{named, wish_fault, fault_at, first_fault}
use Rattle.wishes.specs.Wishes.{Demanded, cells_of, cells_after, outcome}
use Rattle.wishes.proofs.Faults.{its-wish, sound, no-fault, first-at}
use Rattle.wishes.proofs.Pairs.{named_by, by-named}
use Rattle.wishes.proofs.Cells.{demanded}
use Rattle.wishes.proofs.Answers.{bad-ports, bad-cells, torn, searched}
use Rattle.records.proofs.Every.{and_l, and_r}
use borrow.Author.Tests.{lt-ltb, eq-eqb, ltb-true, eqb-true}
use Rattle.promises.specs.Calls.{OfBits, WishList}
use Rattle.promises.proofs.Outcomes.{never, same-refusal, not-zero}
use Rattle.promises.specs.Wishes.{Wished, GoodWish, GoodList, Untaken, WishedAll}
use Rattle.promises.specs.Wishes as untaken

in-range : {x : Float} {w : Wish} → Answers x w → code_of w ≡ 0 → InRange x
in-range a-nan z = absurd (omega (arith, z))
in-range an-infinity z = absurd (omega (arith, z))
in-range (below-zero h) z = absurd (omega (arith, z))
in-range (above_most h) z = absurd (omega (arith, z))
in-range (its-slots {s} {m} {e} {k} z l h) q = (z, omega (arith, l.enough, mul-le-mul_right (down e) h))

range-taken : {x : Float} {w : Wish} → Answers x w → InRange x → code_of w ≡ 0
range-taken a-nan r = absurd r
range-taken an-infinity r = absurd r
range-taken (below-zero h) r = absurd (omega (arith, h, r.0 refl))
range-taken (above_most h) r = absurd (omega (arith, h, r.1))
range-taken (its-slots z l h) r = refl

worth-le : (k : ℕ) → k ≤ 65535 → worth k ≤ 65535
unfolding worth
worth-le zero l = omega arith
worth-le (suc k) l = omega arith

few-slots : {x : Float} {w : Wish} → Answers x w → slots_of w ≤ 65535
few-slots a-nan = omega arith
few-slots an-infinity = omega arith
few-slots (below-zero h) = omega arith
few-slots (above_most h) = omega arith
few-slots (its-slots {k} z l h) = worth-le k h

slots-are : (w : Wish) → code_of w ≡ 0 → w ≡ Ok (slots_of w)
slots-are (Ok k) z = refl
slots-are (Err NotFinite) z = absurd (omega (arith, z))
slots-are (Err BelowZero) z = absurd (omega (arith, z))
slots-are (Err AboveMost) z = absurd (omega (arith, z))

-- one wish
pub wish-promise : (bits : ℕ) (w : Wish) → OfBits bits w → Wished bits w
unfolding wish_bits
wish-promise bits w e =
    let x = of_bits binary32 bits in
    let a : Answers x w = subst (Answers x) (sym e) (said x) in
    record {
      answers = a;
      taken = range-taken a;
      only_then = in-range a;
      two = λ above z. above-two x (slots_of w) above (sym e ∙ slots-are w z);
      most = few-slots a;
    }

-- ---- a record without a fault

module _ (N : ℕ) (list : List ℕ) (k : ℕ) where
  abbrev r : WishRecord
  r = record_at list k

  abbrev w : Wish
  w = wish_bits r.bits

  formed : GoodWish N list k → well_formed N r ≡ true
  unfolding well_formed
  formed g = rw (lt-ltb _ _ g.input, lt-ltb _ _ g.output, eq-eqb _ _ g.spare0, eq-eqb _ _ g.spare1)

  fresh : GoodWish N list k → named list k r.input.0 r.output.0 ≡ false
  fresh g = by (named list k r.input.0 r.output.0) refl
    where
      by : (b : Bool) → named list k r.input.0 r.output.0 ≡ b → named list k r.input.0 r.output.0 ≡ false
      by true e = absurd (g.fresh (named_by list k _ _ e))
      by false e = e

  good-nothing : GoodWish N list k → fault_at N list k ≡ Ok tt
  unfolding fault_at
  good-nothing g = its-wish N k _ r (formed g) (fresh g) ∙ ap (wish_fault k) (slots-are w g.wish)

  nothing-good : fault_at N list k ≡ Ok tt → GoodWish N list k
  unfolding fault_at well_formed
  nothing-good e =
      let s = sound N k _ r e in
      let ports = and_r (ltb r.input.0 N) _ s.formed in
      let spare = and_r (ltb r.output.0 N) _ ports in
      record {
        input = ltb-true _ _ (and_l (ltb r.input.0 N) _ s.formed);
        output = ltb-true _ _ (and_l (ltb r.output.0 N) _ ports);
        spare0 = eqb-true _ _ (and_l (eqb r.spare0 0) _ spare);
        spare1 = eqb-true _ _ (and_r (eqb r.spare0 0) _ spare);
        fresh = λ n. true≢false (sym (by-named list k _ _ n) ∙ s.fresh);
        wish = taken w (sym (its-wish N k _ r s.formed s.fresh) ∙ e);
      }
    where
      taken : (w : Wish) → wish_fault k w ≡ Ok tt → code_of w ≡ 0
      taken (Ok n) q = refl
      taken (Err NotFinite) q = absurd (let z : ◌≡◌ {A = ℕ} 0 1 = cc in omega arith)
      taken (Err BelowZero) q = absurd (let z : ◌≡◌ {A = ℕ} 0 1 = cc in omega arith)
      taken (Err AboveMost) q = absurd (let z : ◌≡◌ {A = ℕ} 0 1 = cc in omega arith)

none_first : (N : ℕ) (list : List ℕ) (m : ℕ) → ((k : ℕ) → k < m → fault_at N list k ≡ Ok tt) → first_fault N list m ≡ Ok tt
unfolding first_fault
none_first N list zero h = refl
none_first N list (suc m) h = rw (none_first N list m (λ k l. h k (omega arith)), h m (omega arith))

-- a list with nothing wrong has no fault
pub good-list : (E : Edition) (N : ℕ) (list : List ℕ) (cells : ℕ) → GoodList E N list cells → first_fault N list (length list / 8) ≡ Ok tt
good-list E N list cells g = none_first N list (length list / 8) (λ k l. good-nothing N list k (g.each k l))

-- ---- the list

module _ (E : Edition) (N : ℕ) (list cells : List ℕ) (r : Outcome) (after : List ℕ) (met : WishList E N list cells r after) where
  abbrev count : ℕ
  count = length list / 8

  list-taken : GoodList E N list (length cells) → r ≡ Ok (plan_counts count 0 0)
  list-taken g = met.outcome ∙ searched E.ports N list (length cells) (some-ports E.ports N g.some g.few) g.square g.even (Ok tt)
      (good-list E N list (length cells) g)

  module _ (c : Counts) (done : r ≡ Ok c) where
    refused : {x : Refusal} {A : Type 0} → outcome E.ports N list (length cells) ≡ Err x → A
    refused e = never (sym e ∙ sym met.outcome ∙ done)

    no-fault-first : length cells ≡ N * N → 0 < N → N ≤ E.ports → length list % 8 ≡ 0 → first_fault N list count ≡ Ok tt
    no-fault-first square some few even = by (first_fault N list count) refl
      where
        by : (f : Fault) → first_fault N list count ≡ f → first_fault N list count ≡ Ok tt
        by (Err x) e = refused (searched E.ports N list (length cells) (some-ports E.ports N some few) square even (Err x) e)
        by (Ok u) e = e

    list-good : GoodList E N list (length cells)
    list-good =
        dite (dec_lt 0 N) (λ some. dite (dec_lt E.ports N)
        (λ l. refused (bad-ports E.ports N list (length cells) (many-ports E.ports N l)))
        (λ f. let few : N ≤ E.ports = omega (arith, f) in dite (ℕ_discrete (length cells) (N * N)) (λ square. dite (ℕ_discrete (length list % 8) 0)
        (λ even. record {
          some = some;
          few = few;
          square = square;
          even = even;
          each = λ k l. nothing-good N list k (no-fault N list count k (no-fault-first square some few even) l);
        })
        (λ t. refused (torn E.ports N list (length cells) (some-ports E.ports N some few) square t)))
        (λ b. refused (bad-cells E.ports N list (length cells) (some-ports E.ports N some few) b))))
        (λ z. refused (bad-ports E.ports N list (length cells) (no-ports E.ports N (omega (arith, z)))))

    list-demand : Demanded N list count after
    unfolding cells_after
    list-demand =
        let g = list-good in
        subst (Demanded N list count) (sym (met.bytes ∙ ap (cells_of N list cells) (sym met.outcome ∙ done)))
        (demanded N list count (no-fault-first g.square g.some g.few g.even))

  list-unchanged : ((c : Counts) → r ≡ Ok c → ⊥) → after ≡ cells
  unfolding cells_after
  list-unchanged n = by (outcome E.ports N list (length cells)) refl
    where
      by : (o : Outcome) → outcome E.ports N list (length cells) ≡ o → after ≡ cells
      by (Ok c) e = absurd (n c (met.outcome ∙ e))
      by (Err x) e = met.bytes ∙ ap (cells_of N list cells) e

  -- the first test that fails
  module _ (f : Refusal) (e : r ≡ Err f) where
    told : (g : Refusal) → outcome E.ports N list (length cells) ≡ Err g → Untaken E N list (length cells) g → Untaken E N list (length cells) f
    told g q = subst (Untaken E N list (length cells)) (same-refusal (sym q ∙ sym met.outcome ∙ e))

    why : Untaken E N list (length cells) f
    why =
        dite (dec_lt 0 N) (λ some. dite (dec_lt E.ports N)
        (λ l. told Ports (bad-ports E.ports N list (length cells) (many-ports E.ports N l)) (untaken.no-ports (λ _ h. omega arith)))
        (λ g. let few : N ≤ E.ports = omega (arith, g) in dite (ℕ_discrete (length cells) (N * N)) (λ square. dite (ℕ_discrete (length list % 8) 0)
        (λ even. by some few square even (first_fault N list count) refl)
        (λ t. told _ (torn E.ports N list (length cells) (some-ports E.ports N some few) square t) (untaken.torn some few square t)))
        (λ b. told _ (bad-cells E.ports N list (length cells) (some-ports E.ports N some few) b) (untaken.no-square some few b))))
        (λ z. told Ports (bad-ports E.ports N list (length cells) (no-ports E.ports N (omega (arith, z)))) (untaken.no-ports (λ s _. z s)))
      where
        by : 0 < N → N ≤ E.ports → length cells ≡ N * N → length list % 8 ≡ 0 → (x : Fault) → first_fault N list count ≡ x → Untaken E N list (length cells) f
        by some few square even (Err x) q =
            told x (searched E.ports N list (length cells) (some-ports E.ports N some few) square even (Err x) q)
            (untaken.faulty some few square even (first-at N list count x q))
        by some few square even (Ok u) q = never (sym e ∙ met.outcome ∙ searched E.ports N list (length cells) (some-ports E.ports N some few) square even (Ok u) q)

  -- a list of wishes
  pub wishes-promise : WishedAll E N list cells r after
  wishes-promise = record {
    taken = list-taken;
    only_then = λ z. list-good (counts_of r) (code-done r z);
    demand = λ z. list-demand (counts_of r) (code-done r z);
    refuses = why;
    unchanged = λ n. list-unchanged (not-zero n);
  }
