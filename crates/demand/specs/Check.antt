-- The checks that every call on a demand shares: codes 1, 2 and 3, in this order (§9.9). Definitions only.
use Rattle.std.specs.Prelude.{Err, Ok}
use Rattle.std.specs.Prelude.{◌≡◌, List, ℕ, ◌*◌, ◌<◌, ◌≤◌, length, leb, eqb}
use Rattle.switch.specs.declared.Refusal.TheVariants.{Ports, Cells, Line}
use Rattle.switch.specs.Demand.{cell, longest}
use Rattle.switch.specs.Check.{ports_fine}
use Rattle.switch.specs.Result.{unless}
use Rattle.demand.specs.Checked.{Checked}
use Rattle.demand.specs.Lines.{line_over}

-- code 3: a line sums over 65,535; else T
abbrev pub check_lines : (N : ℕ) (d : List ℕ) → Checked
check_lines N d = unless (leb (longest N (cell N d)) 65535) (Err (Line (line_over N d))) (Ok (longest N (cell N d)))

-- code 1: N is no number of ports; 2: cells lent are not N²; then 3
unfoldable pub check_demand : (most N : ℕ) (d : List ℕ) → Checked
check_demand most N d =
    unless (ports_fine most N) (Err Ports)
    (unless (eqb (length d) (N * N)) (Err (Cells (N * N)))
    (check_lines N d))

-- a demand that no check refuses, and its longest line
pub record Asked (most N T : ℕ) (d : List ℕ) : Type 0 where
  pub some : 0 < N
  pub few : N ≤ most
  pub size : length d ≡ N * N
  pub longest-is : T ≡ longest N (cell N d)
  pub small : T ≤ 65535
