-- The record in force at a slot is one and only one.
use mathlib.Core.Path.{◌≡◌, refl, ap, ◌∙◌}
use mathlib.Core.Logic.{dite}
use mathlib.Core.List.{List, [], ◌∷◌}
use Prim.Native.Nat.{ℕ, zero, suc, ◌+◌, ◌-◌, ◌<◌, ◌≤◌}
use native.Mathlib.Decide.{dec_lt}
use native.Mathlib.Omega.{arith}
use native.Mathlib.Numerals.{add-one}
use lib.ListN.{length, take}
use lib.Seq.{take_all}
use borrow.Author.Tests.{lt-ltb, le-ltb}
use Rattle.switch.specs.Plan.{Record, total}
use Rattle.records.specs.Record.{hold, decoded}
use Rattle.records.specs.Bytes.{record_at, plan_from}
use Rattle.lookup.specs.Force.{in_force, InForce}

module _ (r : Record) (p : List Record) where
  pub force-here : (t : ℕ) → t < r.hold → in_force (r ∷ p) t ≡ 0
  unfolding in_force
  force-here t l = rw (lt-ltb _ _ l)

  pub force-later : (t : ℕ) → r.hold ≤ t → in_force (r ∷ p) t ≡ suc (in_force p (t - r.hold))
  unfolding in_force
  force-later t l = rw (le-ltb _ _ l)

  total-cons : total (r ∷ p) ≡ r.hold + total p
  unfolding total
  total-cons = refl

total-none : total [] ≡ 0
unfolding total
total-none = refl

-- before the total there is a record in force
pub in-force : (p : List Record) (t : ℕ) → t < total p → InForce p t (in_force p t)
in-force [] t l = absurd (omega (arith, total-none))
in-force (r ∷ p) t l =
    dite (dec_lt t r.hold)
    (λ h. rw (force-here r p t h) (record { inside = omega arith; begun = omega (arith, total-none); lasts = omega (arith, total-cons r [], total-none) }))
    (λ g. let h : r.hold ≤ t = omega (arith, g) in later h (in-force p (t - r.hold) (omega (arith, total-cons r p))))
  where
    later : r.hold ≤ t → InForce p (t - r.hold) (in_force p (t - r.hold)) → InForce (r ∷ p) t (in_force (r ∷ p) t)
    later h s =
        rw (force-later r p t h) (record {
          inside = omega (arith, s.inside);
          begun = omega (arith, s.begun, total-cons r (take (in_force p (t - r.hold)) p));
          lasts = omega (arith, s.lasts, total-cons r (take (suc (in_force p (t - r.hold))) p));
        })

-- fewer records are held no longer
total-take : (p : List Record) (a b : ℕ) → a ≤ b → total (take a p) ≤ total (take b p)
total-take p zero b l = omega (arith, total-none)
total-take p (suc a) zero l = absurd (omega arith)
total-take [] (suc a) (suc b) l = omega arith
total-take (r ∷ p) (suc a) (suc b) l = omega (arith, total-cons r (take a p), total-cons r (take b p), total-take p a b (omega arith))

-- and only one
pub in-force-one : (p : List Record) (t j k : ℕ) → InForce p t j → InForce p t k → j ≡ k
in-force-one p t j k a b =
    dite (dec_lt j k)
    (λ l. absurd (omega (arith, a.lasts, b.begun, total-take p (suc j) k l)))
    (λ g. dite (dec_lt k j)
    (λ l. absurd (omega (arith, b.lasts, a.begun, total-take p (suc k) j l)))
    (λ h. omega (arith, g, h)))

-- a record in force is before the end
pub in-force-total : (p : List Record) (t k : ℕ) → InForce p t k → t < total p
in-force-total p t k f = omega (arith, f.lasts, total-take p (suc k) (length p) (omega (arith, f.inside)), ap total (take_all (length p) p (omega arith)))

-- a pass over the records of a plan: what is left of the slot, and the records from k on
module _ (W : ℕ) (plan : List ℕ) (m k t : ℕ) where
  abbrev from : ℕ → List Record
  from j = plan_from W plan j (m - j)

  module _ (l : k < m) where
    from_more : from k ≡ decoded (record_at W plan k) ∷ from (k + 1)
    unfolding plan_from
    from_more = let s : m - k ≡ suc (m - suc k) = omega arith in rw (add-one, s)

    pub pass-here : t < hold (record_at W plan k) → in_force (from k) t ≡ 0
    pass-here h = ap (λ (p : List Record). in_force p t) from_more ∙ force-here _ _ t h

    pub pass-more : hold (record_at W plan k) ≤ t → k + in_force (from k) t ≡ k + 1 + in_force (from (k + 1)) (t - hold (record_at W plan k))
    pass-more h = omega (arith, ap (λ (p : List Record). in_force p t) from_more, force-later (decoded (record_at W plan k)) (from (k + 1)) t h)

  pub pass-end : m ≤ k → in_force (from k) t ≡ 0
  unfolding in_force plan_from
  pass-end l = let s : m - k ≡ 0 = omega arith in rw s
