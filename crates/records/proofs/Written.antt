-- A loop that lays a plan's records one behind the other and counts them: those laid and those left are always as many as the plan has.
use mathlib.Core.Path.{◌≡◌, ap, subst}
use mathlib.Core.List.{List, [], ◌∷◌}
use Prim.Native.Nat.{ℕ, ◌+◌, ◌≤◌}
use native.Mathlib.Omega.{arith}
use lib.ListN.{length}
use Rattle.switch.specs.Plan.{Record}
use Rattle.records.specs.Bytes.{encode, bytes, laid}
use Rattle.records.proofs.Laying.{Laying, laying-none, laying-end, laying-room, laying-more}

-- so many records of `all` are laid over plan₀ from `at` up to `next`, and there is room for those that are left
pub record Written (e N : ℕ) (all : List Record) (plan₀ : List ℕ) (at : ℕ) (left : List Record) (plan : List ℕ) (records next : ℕ) : Type 0 where
  pub count : records + length left ≡ length all
  pub laying : Laying e N plan₀ at all plan next left

module _ (e N : ℕ) (all : List Record) (plan₀ : List ℕ) (at : ℕ) where
  -- nothing is laid yet
  pub written_none : at + length (bytes e N all) ≤ length plan₀ → Written e N all plan₀ at all plan₀ 0 at
  written_none l = record { count = omega arith; laying = laying-none e N plan₀ at all l }

  module _ (left : List Record) (plan : List ℕ) (records next : ℕ) (p : Written e N all plan₀ at left plan records next) where
    -- nothing is left
    pub written_all : left ≡ [] → (records ≡ length all) × (plan ≡ laid plan₀ at (bytes e N all))
    written_all z = (omega (arith, p.count, ap length z), (laying-end e N plan₀ at all plan next (subst (Laying e N plan₀ at all plan next) z p.laying)).1)

    -- the first of those that are left is r
    module _ (r : Record) (q : List Record) (more : left ≡ r ∷ q) where
      first : Laying e N plan₀ at all plan next (r ∷ q)
      first = subst (Laying e N plan₀ at all plan next) more p.laying

      pub written-room : next + (length r.outputs + 4) ≤ length plan
      written-room = laying-room e N plan₀ at all plan next r q first

      -- it is laid behind those before it
      pub written_next : (plan' : List ℕ) → plan' ≡ laid plan next (encode e r.hold N r.outputs) → Written e N all plan₀ at q plan' (records + 1) (next + (length r.outputs + 4))
      written_next plan' l = record { count = omega (arith, p.count, ap length more); laying = laying-more e N plan₀ at all plan next r q first plan' l }
