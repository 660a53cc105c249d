-- The call's answer, way by way: each refusal is given exactly where its test is the first that fails.
use Rattle.std.specs.Prelude.{Err}
use Prim.Native.Nat.{ℕ, ◌*◌, ◌/◌, ◌%◌}
use mathlib.Core.Path.{◌≡◌, sym, ap}
use mathlib.Core.Bool.{true, false}
use mathlib.Core.List.{List}
use lib.ListN.{length}
use borrow.Author.Tests.{eq-eqb, ne_eqb}
use Rattle.switch.specs.Check.{ports_fine}
use Rattle.switch.specs.declared.Refusal.TheVariants.{Ports, Cells, Torn}
use Rattle.switch.specs.Outcome.{Outcome}
use Rattle.wishes.specs.Fault.{Fault}
use Rattle.wishes.specs.Fault.{first_fault}
use Rattle.wishes.specs.Wishes.{of_fault, outcome, cells_of, cells_after}

-- an answer and the cells after it, as the contract has them
abbrev pub Result : ℕ → ℕ → List ℕ → List ℕ → Outcome → List ℕ → Type 0
Result most N s cells o after = (o ≡ outcome most N s (length cells)) × (after ≡ cells_after most N s cells)

pub result : (most N : ℕ) (s cells : List ℕ) (o : Outcome) → outcome most N s (length cells) ≡ o → Result most N s cells o (cells_of N s cells o)
unfolding cells_after
result most N s cells o h = (sym h, ap (cells_of N s cells) (sym h))

module _ (most N : ℕ) (s : List ℕ) (len : ℕ) where
  pub bad-ports : ports_fine most N ≡ false → outcome most N s len ≡ Err Ports
  unfolding outcome
  bad-ports p = rw p

  module _ (p : ports_fine most N ≡ true) where
    pub bad-cells : (len ≡ N * N → ⊥) → outcome most N s len ≡ Err (Cells (N * N))
    unfolding outcome
    bad-cells h = rw (p, ne_eqb len (N * N) h)

    module _ (e : len ≡ N * N) where
      pub torn : (length s % 8 ≡ 0 → ⊥) → outcome most N s len ≡ Err (Torn (length s / 8))
      unfolding outcome
      torn h = rw (p, eq-eqb len (N * N) e, ne_eqb (length s % 8) 0 h)

      pub searched : length s % 8 ≡ 0 → (f : Fault) → first_fault N s (length s / 8) ≡ f → outcome most N s len ≡ of_fault (length s / 8) f
      unfolding outcome
      searched h f q = rw (p, eq-eqb len (N * N) e, eq-eqb (length s % 8) 0 h, q)
