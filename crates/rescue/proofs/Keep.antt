-- The pass over a damaged plan: record k is kept, with its hold counted and granted, or changes nothing.
use mathlib.Core.Path.{◌≡◌, sym, ap, ◌∙◌, subst}
use mathlib.Core.Bool.{Bool, true, false, not}
use mathlib.Core.List.{List, [], ◌∷◌, ◌++◌}
use Prim.Native.Nat.{ℕ, ◌+◌, ◌*◌, ◌-◌, ◌<◌, ◌≤◌}
use native.Mathlib.Omega.{arith}
use lib.ListN.{length}
use borrow.Author.Tests.{not-true, not-false}
use Rattle.counting.specs.Count.{δ}
use Rattle.switch.specs.declared.Edition.{Edition}
use Rattle.switch.specs.Plan.{Record, output, grant, total}
use Rattle.switch.proofs.Append.{grant-append}
use Rattle.records.specs.Record.{hold, decoded, well_formed}
use Rattle.records.specs.Bytes.{record_at}
use Rattle.plans.specs.Reading.{Readable}
use Rattle.plans.proofs.Pass.{total-next}
use Rattle.switch.specs.Demand.{Blank}
use Rattle.grants.specs.Grants.{Grants, Granting, Granted}
use Rattle.grants.proofs.Grant.{grants-none, grants-small}
use Rattle.rescue_rule.specs.Rescue.{fine, kept_to}
use Rattle.rescue_rule.proofs.Those.{those-none, those-pass, those-skip, length-pass}
use Rattle.rescue_rule.proofs.Kept.{kept-dropped}
use Rattle.rescue_rule.proofs.Read.{ports-fit, read-room, same}
use Rattle.rescue.specs.declared.Kept.{Kept}
use Rattle.rescue.specs.Keeping.{Keeping}

module _ (W e N : ℕ) (plan : List ℕ) where
  pub keeping_none : (g : List ℕ) → Blank (N * N) g → Keeping W e N plan 0 (record { records = 0; total = 0 }) g
  unfolding total
  keeping_none g b =
      let z = those-none (fine W e N plan) (λ k. decoded (record_at W plan k)) in record {
        records = sym (ap length z);
        holds = sym (ap total z);
        small = omega arith;
        grants = subst (λ (p : List Record). Grants N p g) (sym z) (grants-none N g b);
      }

  -- no more are kept than gone over
  pub kept-few : (k : ℕ) → length (kept_to W e N plan k) ≤ k
  kept-few k = omega (arith, kept-dropped W e N plan k)

-- one record more is granted
grants-next : (N : ℕ) (p : List Record) (r : Record) (h : ℕ) → h ≡ r.hold → (g g' : List ℕ) → Grants N p g → Granted N h r g g' → Grants N (p ++ r ∷ []) g'
unfolding grant
grants-next N p r h q g g' before step = record {
  room = omega (arith, before.room, step.size);
  is = λ i j li lj. omega (arith, before.is i j li lj, step.more i j li lj, ap (λ (x : ℕ). x * δ (output r i) j) q, grant-append p (r ∷ []) i j);
}

module _ (E : Edition) (N : ℕ) (plan : List ℕ) (m : ℕ) (r : Readable E N plan m) (k : ℕ) (l : k < m) (b : List ℕ) (is : b ≡ record_at E.width plan k)
    (c : Kept) (g : List ℕ) (before : Keeping E.width E.byte N plan k c g) (found : Bool) (tells : found ≡ well_formed (length b - 4) E.byte N b) where
  told : {x : Bool} → found ≡ x → fine E.width E.byte N plan k ≡ x
  told f = sym (same E N plan m r k l b is) ∙ sym tells ∙ f

  pub keeping-skip : not found ≡ true → Keeping E.width E.byte N plan (k + 1) c g
  keeping-skip n =
      let s = those-skip (fine E.width E.byte N plan) (λ k. decoded (record_at E.width plan k)) k (told (not-true found n)) in record {
        records = before.records ∙ sym (ap length s);
        holds = before.holds ∙ sym (ap total s);
        small = omega (arith, before.small);
        grants = subst (λ (p : List Record). Grants N p g) (sym s) before.grants;
      }

  pub keeping-more : not found ≡ false → (h : ℕ) → h ≡ hold b → h ≤ 65535 → (g' : List ℕ) → Granted N h (decoded b) g g'
      → Keeping E.width E.byte N plan (k + 1) (record { records = c.records + 1; total = c.total + h }) g'
  keeping-more n h q small g' step =
      let f = told (not-false found n) in
      let s = those-pass (fine E.width E.byte N plan) (λ k. decoded (record_at E.width plan k)) k f in record {
        records = omega (arith, before.records, length-pass (fine E.width E.byte N plan) (λ k. decoded (record_at E.width plan k)) k f);
        holds = omega (arith, before.holds, ap total s, total-next (kept_to E.width E.byte N plan k) (decoded (record_at E.width plan k)), ap hold is);
        small = omega (arith, before.small);
        grants = subst (λ (p : List Record). Grants N p g') (ap (λ (x : List ℕ). kept_to E.width E.byte N plan k ++ decoded x ∷ []) is ∙ sym s) (grants-next N (kept_to E.width E.byte N plan k) (decoded b) h q g g' before.grants step);
      }

  -- the record can be granted: 65,536 holds fit 32 bits
  pub may-grant : (h : ℕ) → h ≤ 65535 → Granting N b h g
  may-grant h small = record {
    few = (ports-fit E N plan m r).1;
    size = read-room E N plan m r k l b is;
    room = before.grants.room;
    small = grants-small N (kept_to E.width E.byte N plan k) g h before.grants (omega (arith, before.holds, before.small, r.most));
  }
