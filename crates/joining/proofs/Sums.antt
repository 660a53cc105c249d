-- The sums of a table in pieces, one entry at a time.
use mathlib.Core.Path.{◌≡◌, refl, sym, ap, ◌∙◌}
use mathlib.Core.List.{List, [], ◌∷◌, ◌++◌}
use Prim.Native.Nat.{ℕ, ◌+◌, ◌<◌, ◌≤◌}
use native.Mathlib.Omega.{arith}
use lib.ListN.{length, drop}
use Rattle.std.specs.Int.{div_ceil}
use Rattle.std.specs.List.{sum_by}
use Rattle.std.proofs.lemmas.List.{drop_more, drop_all}
use Rattle.std.proofs.lemmas.List.Sums.{sum_by-cons}
use Rattle.records.specs.Record.{outputs}
use Rattle.records.specs.Bytes.{record_at}
use Rattle.tally.specs.declared.Entry.{Entry}
use Rattle.tally.specs.Table.{entry_at, entry_sum, entry_sums}
use Rattle.tally.proofs.Chain.{read-entry}
use Rattle.joining.specs.Join.{pieces, cut}
use Rattle.joining.proofs.Pieces.{length_cut}

-- so many records a sum becomes
abbrev pub count : Entry → ℕ
count t = div_ceil t.total 65535

pub cut-count : (W : ℕ) (plan : List ℕ) (table : List Entry) → length (cut (entry_sums W plan table)) ≡ sum_by count table
unfolding cut
cut-count W plan [] = refl
cut-count W plan (t ∷ table) = omega (arith, length_cut (entry_sum W plan t) (entry_sums W plan table), sum_by-cons count t table, cut-count W plan table)

module _ (W : ℕ) (plan : List ℕ) (table : List Entry) (e : ℕ) where
  -- the pieces of entry e, as the code reads it
  pub cut-next : e < length table → (k : ℕ) → k ≡ (entry_at table e).first → (o : List ℕ) → o ≡ outputs (record_at W plan k)
      → cut (entry_sums W plan (drop e table)) ≡ pieces (entry_at table e).total o ++ cut (entry_sums W plan (drop (e + 1) table))
  unfolding cut
  cut-next l k q o s =
      ap (λ (t : List Entry). cut (entry_sums W plan t)) (drop_more table e (record { first = 0; next = 0; total = 0 }) l)
      ∙ ap (λ (x : List ℕ). pieces (entry_at table e).total x ++ cut (entry_sums W plan (drop (e + 1) table))) (sym (read-entry W plan (entry_at table e).first k q o s))

  pub cut-none : length table ≤ e → cut (entry_sums W plan (drop e table)) ≡ []
  unfolding cut
  cut-none l = ap (λ (t : List Entry). cut (entry_sums W plan t)) (drop_all e table l)
