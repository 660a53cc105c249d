-- The entries of a table as sums.
use mathlib.Core.Path.{◌≡◌, ap, ◌∙◌}
use mathlib.Core.List.{List, [], ◌∷◌, ◌++◌}
use Prim.Native.Nat.{ℕ, ◌+◌, ◌<◌, ◌≤◌}
use native.Mathlib.Omega.{arith}
use lib.ListN.{length, get_or, set, take}
use lib.Seq.{take-set-lt, length-take-le}
use Rattle.std.proofs.lemmas.List.{length-map, map-set, map_push, get_or-map, get_or-take, take_more_set}
use Rattle.switch.specs.Plan.{Record}
use Rattle.tally.specs.declared.Entry.{Entry}
use Rattle.tally.specs.Table.{entry_at, entry_sum, entry_sums}

module _ (W : ℕ) (plan : List ℕ) (table : List Entry) (m : ℕ) where
  pub sums-length : m ≤ length table → length (entry_sums W plan (take m table)) ≡ m
  sums-length l = length-map (take m table) (entry_sum W plan) ∙ length-take-le m table l

  pub sum_at : m ≤ length table → (i : ℕ) → i < m → (d : Record) → get_or (entry_sums W plan (take m table)) i d ≡ entry_sum W plan (entry_at table i)
  sum_at l i b d =
      get_or-map (entry_sum W plan) (take m table) i (record { first = 0; next = 0; total = 0 }) d (omega (arith, length-take-le m table l))
      ∙ ap (entry_sum W plan) (get_or-take m table i (record { first = 0; next = 0; total = 0 }) b)

  -- one more entry
  pub sums-next : m < length table → (t : Entry) → entry_sums W plan (take (m + 1) (set table m t)) ≡ entry_sums W plan (take m table) ++ entry_sum W plan t ∷ []
  sums-next l t = ap (entry_sums W plan) (take_more_set table m t l) ∙ map_push (entry_sum W plan) (take m table) t

  -- one entry changed
  pub sums-set : (e : ℕ) → e < m → (t : Entry) → entry_sums W plan (take m (set table e t)) ≡ set (entry_sums W plan (take m table)) e (entry_sum W plan t)
  sums-set e l t = ap (entry_sums W plan) (take-set-lt m table e t l) ∙ map-set (entry_sum W plan) (take m table) e t
