-- What the lister's text comes to. Definitions only.
use Rattle.std.specs.Prelude.{Err}
use Rattle.std.specs.Prelude.{◌≡◌, List, ℕ, ◌*◌, ◌/◌, ◌<◌, ◌≤◌, length, take, drop}
use Rattle.switch.specs.declared.Refusal.{Refusal}
use Rattle.switch.specs.declared.Refusal.TheVariants.{Ports}
use Rattle.switch.specs.Demand.{cell, longest}
use Rattle.demand.specs.Check.{check_demand}
use Rattle.rules.specs.Exact.{exact_plan}
use Rattle.wishes.specs.Wishes.{Demanded, outcome}
use Rattle.text.specs.Text.{refused_line}
use Rattle.listing.specs.Listing.{PortsIn, counted_text}
use Rattle.switch.specs.Editions.{first_edition}
use Rattle.promises.specs.Wishes.{GoodList}

-- the text t of the bytes w, N being one more than the largest port that they name
pub record Shows (w : List ℕ) (N : ℕ) (t : List ℕ) : Type 0 where
  pub ports : PortsIn w (length w / 8) N
  -- no port, or more than 16
  pub none : N ≡ 0 → t ≡ refused_line Ports
  pub many : 16 < N → t ≡ refused_line Ports
  -- the exact plan of what is wished for, where neither the list nor a line of its demand is refused
  pub plan : (d : List ℕ) → N ≤ 16 → GoodList first_edition N w (N * N) → Demanded N w (length w / 8) d → longest N (cell N d) ≤ 65535
      → t ≡ counted_text N (longest N (cell N d)) d (exact_plan 64 N d)
  -- and else what is refused
  pub wish : (x : Refusal) → outcome 16 N w (N * N) ≡ Err x → t ≡ refused_line x
  pub line : (d : List ℕ) (x : Refusal) → N ≤ 16 → GoodList first_edition N w (N * N) → Demanded N w (length w / 8) d → check_demand 64 N d ≡ Err x → t ≡ refused_line x

-- the answer r, and the text's bytes afterwards
pub record Listed (input text : List ℕ) (r : ℕ) (after : List ℕ) : Type 0 where
  -- the first r bytes are the text of the input's first 4,096, and no byte behind them is touched
  pub ports : ℕ
  pub shows : Shows (take 4096 input) ports (take r after)
  pub later : drop r after ≡ drop r text
