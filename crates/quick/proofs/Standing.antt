-- Between two slots the working copy is in step with its labels, and what is still to come is no more than there are slots left.
use Rattle.labels.specs.Ports.{Outputs}
use mathlib.Core.Path.{◌≡◌, sym, ◌∙◌, subst}
use mathlib.Core.List.{List, [], ◌∷◌}
use Prim.Native.Nat.{ℕ, ◌+◌, ◌*◌, ◌≤◌}
use native.Mathlib.Nat.{mul-le-mul}
use native.Mathlib.Omega.{arith}
use lib.ListN.{length}
use Rattle.switch.specs.Demand.{cell}
use Rattle.switch.specs.Empty.{all_slots}
use Rattle.switch.proofs.Empty.{asked-most}
use Rattle.demand.specs.Lines.{Short}
use Rattle.rules.proofs.QuickFrom.{quick-short, quick-end}
use Rattle.board.specs.Level.{Sized}
use Rattle.slot.specs.declared.Rest.{Rest}
use Rattle.slot.specs.Filled.{left_in, leftover, Copy, Filled}

-- no more slots than are left in all
pub leftover-short : (W N s : ℕ) (w : List ℕ) → Sized N w → length (leftover W N s w) ≤ left_in N w
unfolding leftover left_in
leftover-short W N s w z = quick-short W N z.some (omega (arith, z.few)) s (cell N w)

-- which are few where no line is too long
pub left-few : (N : ℕ) (w : List ℕ) → Short N w → left_in N w ≤ 128 * 65535
unfolding left_in all_slots
left-few N w s = omega (arith, asked-most N (cell N w), mul-le-mul s.sized.few s.lines)

pub record Standing (W N : ℕ) (w : List ℕ) (rows : List Outputs) (out : List ℕ) (rest : Rest) : Type 0 where
  pub copy : Copy N rest w rows
  pub seats : N ≤ length out
  pub wide : length out ≡ W

module _ (W N : ℕ) (w : List ℕ) (rows : List Outputs) (out : List ℕ) (rest : Rest) (g : Standing W N w rows out rest) (s : ℕ) where
  -- nothing is left: no slot is still to come
  pub standing-end : rest.left ≡ 0 → leftover W N s w ≡ []
  unfolding leftover left_in
  standing-end e = quick-end W N g.copy.sized.some (omega (arith, g.copy.sized.few)) s (cell N w) (sym g.copy.all ∙ e)

  -- slot s is filled
  module _ (w' : List ℕ) (rows' : List Outputs) (out' : List ℕ) (rest' : Rest) (f : Filled N s w w' rows' out' rest') (long : length out' ≡ length out) where
    pub standing-more : leftover W N s w ≡ record { hold = 1; outputs = out' } ∷ leftover W N (s + 1) w'
    standing-more = subst (λ (v : ℕ). leftover v N s w ≡ record { hold = 1; outputs = out' } ∷ leftover v N (s + 1) w') (long ∙ g.wide) f.more

    pub standing-next : Standing W N w' rows' out' rest'
    standing-next = record { copy = f.copy; seats = f.seats.wide; wide = long ∙ g.wide }
