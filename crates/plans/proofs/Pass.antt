-- One pass over a plan: as long as every record is well formed, the scan for the first that is not stands where the pass stands, and the sum
-- of the holds is that of the records passed.
use Rattle.std.specs.Prelude.{Result, Ok, Err}
use Rattle.switch.specs.declared.Refusal.{Refusal}
use Rattle.switch.specs.declared.Refusal.TheVariants.{Malformed}
use mathlib.Core.Path.{◌≡◌, refl, sym, ap, ◌∙◌}
use mathlib.Core.Bool.{Bool, true, false, not}
use mathlib.Core.List.{List, [], ◌∷◌, ◌++◌}
use Prim.Native.Nat.{ℕ, ◌+◌, ◌*◌, ◌-◌, ◌<◌, ◌≤◌}
use native.Mathlib.Omega.{arith}
use lib.ListN.{length}
use borrow.Author.Tests.{not-true, not-false}
use Rattle.switch.specs.Plan.{Record, total}
use Rattle.switch.proofs.Append.{total-append}
use Rattle.switch.specs.declared.Edition.{Edition}
use Rattle.records.specs.Record.{hold, decoded, well_formed}
use Rattle.records.specs.Bytes.{record_at, whole, plan_from}
use Rattle.plans.specs.Read.{malformed}
use Rattle.records.proofs.Part.{whole-fits, record-fits, record-size}
use Rattle.plans.proofs.Read.{scan-stop, scan-more, scan-end}
use Rattle.plans.proofs.Plans.{plan-next}
use Rattle.plans.proofs.Reading.{passing-stopped, passing-whole}
use Rattle.plans.specs.Reading.{Readable, passing}

pub total-next : (p : List Record) (r : Record) → total (p ++ r ∷ []) ≡ total p + r.hold
unfolding total
total-next p r = omega (arith, total-append p (r ∷ []))

-- the pass stands at record k of m, all before it well formed, with the sum t of their holds
pub record Through (E : Edition) (N : ℕ) (plan : List ℕ) (m k t : ℕ) : Type 0 where
  pub inside : k ≤ m
  pub scan : malformed E.width E.byte N plan m 0 ≡ malformed E.width E.byte N plan (m - k) k
  pub holds : t ≡ total (plan_from E.width plan 0 k)
  pub small : t ≤ 65535 * k

module _ (E : Edition) (N : ℕ) (plan : List ℕ) (m : ℕ) where
  pub through-none : Through E N plan m 0 0
  unfolding plan_from total
  through-none = record {
    inside = omega arith;
    scan = ap (λ (i : ℕ). malformed E.width E.byte N plan i 0) (let e : m ≡ m - 0 = omega arith in e);
    holds = refl;
    small = omega arith;
  }

  module _ (r : Readable E N plan m) where
    -- all are passed
    pub pass-all : (k t : ℕ) → m ≤ k → Through E N plan m k t → malformed E.width E.byte N plan m 0 ≡ m
    pass-all k t l th = omega (arith, l, th.inside, th.scan, scan-end E.width E.byte N plan m k l)

    pub pass-end : {A : Type 0} (told : List Record → A) (k t : ℕ) → m ≤ k → Through E N plan m k t → (x : A) → x ≡ told (plan_from E.width plan 0 m)
        → ◌≡◌ {A = Result A Refusal} (Ok x) (passing E N plan m told)
    pass-end told k t l th x e = passing-whole E N plan m told x e (omega (arith, pass-all k t l th))

    pub pass-holds : (k t : ℕ) → m ≤ k → Through E N plan m k t → t ≡ total (plan_from E.width plan 0 m)
    pass-holds k t l th = th.holds ∙ ap (λ (i : ℕ). total (plan_from E.width plan 0 i)) (let e : k ≡ m = omega (arith, l, th.inside) in e)

    -- record k, as the pass reads it
    module _ (k t : ℕ) (l : k < m) (b : List ℕ) (is : b ≡ record_at E.width plan k) where
      pub read-inside : k < whole E.width plan
      read-inside = omega (arith, r.inside)

      pub read-size : length b ≡ E.width + 4
      read-size = ap length is ∙ record-size E.width plan k (record-fits E.width plan k (whole E.width plan) read-inside (whole-fits E.width plan))

      pub read-fine : well_formed (length b - 4) E.byte N b ≡ well_formed E.width E.byte N (record_at E.width plan k)
      read-fine = ap (λ (w : ℕ). well_formed w E.byte N b) (let e : length b - 4 ≡ E.width = omega (arith, read-size) in e) ∙ ap (well_formed E.width E.byte N) is

      module _ (th : Through E N plan m k t) (fine : Bool) (found : fine ≡ well_formed (length b - 4) E.byte N b) where
        pub pass-damaged : not fine ≡ true → malformed E.width E.byte N plan m 0 ≡ k
        pass-damaged n = th.scan ∙ scan-stop E.width E.byte N plan m k l (sym read-fine ∙ sym found ∙ not-true fine n)

        pub pass-stop : {A : Type 0} (told : List Record → A) → not fine ≡ true → ◌≡◌ {A = Result A Refusal} (Err (Malformed k)) (passing E N plan m told)
        pass-stop told n = passing-stopped E N plan m told k l (pass-damaged n)

        pub pass-more : not fine ≡ false → (h : ℕ) → h ≡ hold b → h ≤ 65535 → Through E N plan m (k + 1) (t + h)
        pass-more n h e s = record {
          inside = omega arith;
          scan = th.scan ∙ scan-more E.width E.byte N plan m k l (sym read-fine ∙ sym found ∙ not-false fine n);
          holds = omega (arith, th.holds, ap hold is, ap total (plan-next E.width plan k), total-next (plan_from E.width plan 0 k) (decoded (record_at E.width plan k)));
          small = omega (arith, th.small);
        }
