-- Record by record: they are laid one behind the other where they are to be written, and else nothing changes.
use mathlib.Core.Path.{◌≡◌, refl, sym, ◌∙◌, subst}
use mathlib.Core.Bool.{Bool, true, false}
use mathlib.Core.List.{List, [], ◌∷◌}
use Prim.Native.Nat.{ℕ, ◌+◌, ◌≤◌}
use lib.ListN.{length}
use Rattle.switch.specs.Plan.{Record}
use Rattle.records.specs.Bytes.{bytes}
use Rattle.records.specs.Laying.{laid_if, LaidOne}
use Rattle.records.proofs.Laying.{Laying, laying-none, laying-end, laying-room, laying-more}

-- the records of `all` but for those left are laid over plan₀ from at₀ up to `at`, where they are to be written
pub record Filling (writes : Bool) (e N : ℕ) (all : List Record) (plan₀ : List ℕ) (at₀ : ℕ) (left : List Record) (plan : List ℕ) (at : ℕ) : Type 0 where
  pub size : length plan ≡ length plan₀
  pub written : writes ≡ true → Laying e N plan₀ at₀ all plan at left
  pub same : writes ≡ false → plan ≡ plan₀

module _ (writes : Bool) (e N : ℕ) (all : List Record) (plan₀ : List ℕ) (at₀ : ℕ) where
  pub filling-none : (writes ≡ true → at₀ + length (bytes e N all) ≤ length plan₀) → Filling writes e N all plan₀ at₀ all plan₀ at₀
  filling-none h = record { size = refl; written = λ w. laying-none e N plan₀ at₀ all (h w); same = λ _. refl }

  module _ (left : List Record) (plan : List ℕ) (at : ℕ) (f : Filling writes e N all plan₀ at₀ left plan at) where
    -- nothing is left
    pub filling-all : left ≡ [] → plan ≡ laid_if writes plan₀ at₀ (bytes e N all)
    unfolding laid_if
    filling-all z = go writes f.written f.same
      where
        go : (w : Bool) → (w ≡ true → Laying e N plan₀ at₀ all plan at left) → (w ≡ false → plan ≡ plan₀) → plan ≡ laid_if w plan₀ at₀ (bytes e N all)
        go true a b = (laying-end e N plan₀ at₀ all plan at (subst (Laying e N plan₀ at₀ all plan at) z (a refl))).1
        go false a b = b refl

    -- the first of those that are left has this hold and these outputs
    module _ (hold : ℕ) (out : List ℕ) (q : List Record) (more : writes ≡ true → left ≡ record { hold = hold; outputs = out } ∷ q) where
      first : writes ≡ true → Laying e N plan₀ at₀ all plan at (record { hold = hold; outputs = out } ∷ q)
      first w = subst (Laying e N plan₀ at₀ all plan at) (more w) (f.written w)

      pub filling-room : writes ≡ true → at + (length out + 4) ≤ length plan
      filling-room w = laying-room e N plan₀ at₀ all plan at (record { hold = hold; outputs = out }) q (first w)

      pub filling-next : (plan' : List ℕ) (at' : ℕ) → length plan' ≡ length plan → LaidOne writes e hold N out plan at plan' at' → Filling writes e N all plan₀ at₀ q plan' at'
      filling-next plan' at' l o = record {
        size = l ∙ f.size;
        written = λ w. subst (λ (x : ℕ). Laying e N plan₀ at₀ all plan' x q) (sym (o.written w).1)
            (laying-more e N plan₀ at₀ all plan at (record { hold = hold; outputs = out }) q (first w) plan' (o.written w).0);
        same = λ w. (o.same w).0 ∙ f.same w;
      }
