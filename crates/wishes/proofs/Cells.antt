-- Each record writes one cell, and no later one writes it again: two records without a fault name different pairs.
use Rattle.std.specs.Prelude.{Ok}
use Prim.Native.Nat.{ℕ, zero, suc, ◌+◌, ◌*◌, ◌/◌, ◌%◌, ◌<◌, ◌≤◌}
use native.Mathlib.Nat.{le_refl, le_of_suc-le-suc, eq-or-lt_of_le, zero-mul, mod-lt, div-add-mod', div-lt_iff_lt-mul}
use native.Mathlib.Numerals.{add-one}
use native.Mathlib.Omega.{arith}
use mathlib.Core.Path.{◌≡◌, refl, sym, ap₂, ◌∙◌}
use mathlib.Core.Bool.{Bool, true, false, true≢false}
use mathlib.Core.List.{List}
use mathlib.Core.Logic.{inl, inr}
use lib.Arith.{digits_lt}
use lib.ListN.{length, get_or, replicate, length-replicate, length-set, get_or-replicate}
use lib.Seq.{ext_get_or, get_or-set_same, get_or-set_other}
use Rattle.switch.specs.Demand.{cell}
use Rattle.switch.proofs.Demand.{index-inj}
use Rattle.wish.specs.Wish.{wish_bits, slots_of}
use Rattle.wishes.specs.declared.WishRecord.{WishRecord}
use Rattle.wishes.specs.Record.{record_at}
use Rattle.wishes.specs.Fault.{named, NamedBy, first_fault}
use Rattle.wishes.specs.Wishes.{put, demand_of, Demanded}
use Rattle.wishes.proofs.Faults.{Inside, inside, all_sound}
use Rattle.wishes.proofs.Pairs.{named-later, by-named, named_by}

-- ---- one record's slots put in

module _ (N : ℕ) (r : WishRecord) (in-N : Inside N r) (d : List ℕ) where
  own-cell : length d ≡ N * N → cell N (put N r d) r.input.0 r.output.0 ≡ slots_of (wish_bits r.bits)
  unfolding put cell
  own-cell e = get_or-set_same d _ _ 0 (rw e (digits_lt in-N.input in-N.output))

  other-cell : (i j : ℕ) → j < N → ((r.input.0 ≡ i) × (r.output.0 ≡ j) → ⊥) → cell N (put N r d) i j ≡ cell N d i j
  unfolding put cell
  other-cell i j l h = get_or-set_other d _ _ _ 0 (λ e. h (index-inj N r.input.0 r.output.0 i j in-N.output l (sym e)))

-- ---- the demand of the first records

module _ (N : ℕ) (s : List ℕ) where
  pub demand-none : demand_of N s 0 ≡ replicate (N * N) 0
  unfolding demand_of
  demand-none = refl

  pub demand-next : (k : ℕ) → demand_of N s (k + 1) ≡ put N (record_at s k) (demand_of N s k)
  unfolding demand_of
  demand-next k = rw add-one

  pub demand-length : (m : ℕ) → length (demand_of N s m) ≡ N * N
  unfolding demand_of put
  demand-length zero = length-replicate (N * N) 0
  demand-length (suc m) = simp length-set (demand-length m)

  module _ (count : ℕ) (fine : first_fault N s count ≡ Ok tt) where
    placed : (k : ℕ) → k < count → Inside N (record_at s k)
    placed k l = inside N (record_at s k) (all_sound N s count k fine l).formed

    -- a later record names another pair
    apart : (j k : ℕ) → j < k → k < count → ((record_at s k).input.0 ≡ (record_at s j).input.0) × ((record_at s k).output.0 ≡ (record_at s j).output.0) → ⊥
    apart j k l h e =
        true≢false
        (sym (by-named s k _ _ (record { which = j; earlier = l; input = sym e.0; output = sym e.1 })) ∙ (all_sound N s count k fine h).fresh)

    cell-named : (m k : ℕ) → m ≤ count → k < m → cell N (demand_of N s m) (record_at s k).input.0 (record_at s k).output.0 ≡ slots_of (wish_bits (record_at s k).bits)
    unfolding demand_of
    cell-named zero k a l = absurd (omega arith)
    cell-named (suc m) k a l = elim (eq-or-lt_of_le (le_of_suc-le-suc l)) [
      | inl e ↦ rw e (own-cell N (record_at s m) (placed m a) (demand_of N s m) (demand-length m))
      | inr g ↦ other-cell N (record_at s m) (placed m a) (demand_of N s m) _ _ (placed k (omega arith)).output (apart k m g a) ∙ cell-named m k (omega arith) g
    ]

    cell_other : (m i j : ℕ) → m ≤ count → i < N → j < N → (NamedBy s m i j → ⊥) → cell N (demand_of N s m) i j ≡ 0
    unfolding demand_of
    cell_other zero i j a li lj h = unfold cell in get_or-replicate (N * N) _ 0 0 (digits_lt li lj)
    cell_other (suc m) i j a li lj h =
        other-cell N (record_at s m) (placed m a) (demand_of N s m) i j lj (λ e. h (record { which = m; earlier = omega arith; input = e.0; output = e.1 }))
        ∙ cell_other m i j (omega arith) li lj (λ n. h (named-later s m i j n))

    -- each named pair's cell is its wish's slots, and every other is 0
    pub demanded : Demanded N s count (demand_of N s count)
    demanded = record {
      size = demand-length count;
      named = λ k l. cell-named count k (le_refl count) l;
      other = λ i j li lj h. cell_other count i j (le_refl count) li lj h;
    }

-- ---- which says what every cell is

-- the cell of a pair that is named
named-cell : (N : ℕ) (s : List ℕ) (count : ℕ) (d : List ℕ) → Demanded N s count d → (i j : ℕ) (n : NamedBy s count i j) → cell N d i j ≡ slots_of (wish_bits (record_at s n.which).bits)
named-cell N s count d x i j n = ap₂ (cell N d) (sym n.input) (sym n.output) ∙ x.named n.which n.earlier

module _ (N : ℕ) (s : List ℕ) (count : ℕ) (d e : List ℕ) (x : Demanded N s count d) (y : Demanded N s count e) where
  same-cell : (i j : ℕ) → i < N → j < N → cell N d i j ≡ cell N e i j
  same-cell i j a b = go (named s count i j) refl
    where
      go : (t : Bool) → named s count i j ≡ t → cell N d i j ≡ cell N e i j
      go false h =
          let none : NamedBy s count i j → ⊥ = λ n. true≢false (sym (by-named s count i j n) ∙ h) in
          x.other i j a b none ∙ sym (y.other i j a b none)
      go true h =
          let n = named_by s count i j h in
          named-cell N s count d x i j n ∙ sym (named-cell N s count e y i j n)

  pub demanded-only : d ≡ e
  demanded-only = ext_get_or 0 d e (x.size ∙ sym y.size) (λ p b. at p (rw x.size at b))
    where
      at : (p : ℕ) → p < N * N → get_or d p 0 ≡ get_or e p 0
      at p b =
          let some : 0 < N = pos_of N p b in
          rw (← div-add-mod' p N) (unfold cell in same-cell (p / N) (p % N) ((div-lt_iff_lt-mul {k = N} {x = p} {y = N} some).1 b) (mod-lt p some))
        where
          pos_of : (N p : ℕ) → p < N * N → 0 < N
          pos_of zero p b = absurd (omega (arith, zero-mul 0))
          pos_of (suc m) p b = omega arith
