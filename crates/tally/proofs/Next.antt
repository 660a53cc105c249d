-- One record more: its hold goes to the sum of its setting, which is the only one that has it, or its setting gets the next entry and heads
-- the chain of its bucket.
use mathlib.Core.Path.{◌≡◌, refl, sym, ap, ◌∙◌, subst}
use mathlib.Core.Logic.{dite}
use mathlib.Core.List.{List, [], ◌∷◌, ◌++◌}
use Prim.Native.Nat.{ℕ, suc, ◌+◌, ◌<◌, ◌≤◌}
use native.Mathlib.Decide.{ℕ_discrete}
use native.Mathlib.Nat.{not-suc-le-zero}
use native.Mathlib.Numerals.{add-one}
use native.Mathlib.Omega.{arith}
use lib.ListN.{length, get_or, set, take, replicate, length-set, length-replicate, get_or-replicate}
use lib.Seq.{get_or-set_same, get_or-set_other}
use Rattle.switch.specs.Plan.{Record}
use Rattle.records.specs.Record.{hold, outputs, decoded}
use Rattle.records.specs.Bytes.{record_at, whole, plan_from}
use Rattle.plans.proofs.Plans.{plan-next}
use Rattle.tally.specs.Sums.{add_hold, sums_onto, sums, setting_at}
use Rattle.tally.specs.declared.Entry.{Entry}
use Rattle.tally.specs.Table.{entry_at, entry_setting, entry_sums, Listed, buckets, bucket_of, last_in, entry_bucket, Chained}
use Rattle.tally.proofs.Sums.{add_at, add-new, sums_next, sums-summed, distinct}
use Rattle.tally.proofs.Chain.{last-here, last-before, last-cong}
use Rattle.tally.proofs.Entries.{sums-length, sum_at, sums-next, sums-set}

abbrev none : Record
none = record { hold = 0; outputs = [] }

abbrev empty : Entry
empty = record { first = 0; next = 0; total = 0 }

-- ---- no record yet

pub listed-none : (W : ℕ) (plan : List ℕ) (table : List Entry) → Listed W plan 0 0 table
unfolding plan_from sums_onto
listed-none W plan table = record { lists = refl; few = omega arith; room = omega arith; before = λ e l. absurd (not-suc-le-zero l); small = λ e l. absurd (not-suc-le-zero l) }

-- new chains are empty
pub chained-none : (W : ℕ) (plan : List ℕ) (table : List Entry) → Chained W plan 0 (replicate 8192 0) table
unfolding last_in
chained-none W plan table = record {
  room = omega (arith, length-replicate {A = ℕ} 8192 0);
  inside = λ i l. absurd (not-suc-le-zero l);
  head = λ b l. get_or-replicate 8192 b 0 0 l;
  next = λ i l. absurd (not-suc-le-zero l);
}

-- ---- one record more

module _ (W : ℕ) (plan : List ℕ) (k count : ℕ) (table : List Entry) (t : Listed W plan k count table) where
  abbrev read : Record
  read = decoded (record_at W plan k)

  abbrev before : List Record
  before = plan_from W plan 0 k

  abbrev entries : List Record
  entries = entry_sums W plan (take count table)

  next-sums : sums (plan_from W plan 0 (k + 1)) ≡ add_hold entries read
  next-sums = ap sums (plan-next W plan k) ∙ sums_next before read ∙ ap (λ (q : List Record). add_hold q read) (sym t.lists)

  long : length entries ≡ count
  long = sums-length W plan table count t.room

  at : (i : ℕ) → i < count → setting_at entries i ≡ entry_setting W plan (entry_at table i)
  at i l = ap (λ (r : Record). r.outputs) (sum_at W plan table count t.room i l none)

  -- no two entries have one setting
  apart : (i j : ℕ) → i < j → j < count → setting_at entries i ≡ setting_at entries j → ⊥
  apart i j l m e =
      distinct before (sums before) (sums-summed before) i j l (omega (arith, long, ap length t.lists))
      (subst (λ (q : List Record). setting_at q i ≡ setting_at q j) t.lists e)

  module _ (h : ℕ) (own : h ≡ hold (record_at W plan k)) (small : h ≤ 65535) where
    -- the setting has an entry
    module _ (e : ℕ) (l : e < count) (same : entry_setting W plan (entry_at table e) ≡ outputs (record_at W plan k)) where
      abbrev grown : Entry
      grown = record { first = (entry_at table e).first; next = (entry_at table e).next; total = (entry_at table e).total + h }

      abbrev after : List Entry
      after = set table e grown

      here : entry_at after e ≡ grown
      here = get_or-set_same table e grown empty (omega (arith, t.room))

      other : (i : ℕ) → (i ≡ e → ⊥) → entry_at after i ≡ entry_at table i
      other i n = get_or-set_other table e i grown empty n

      first-kept : (i : ℕ) → (entry_at after i).first ≡ (entry_at table i).first
      first-kept i = dite (ℕ_discrete i e) (λ q. rw q (ap (λ (x : Entry). x.first) here)) (λ n. ap (λ (x : Entry). x.first) (other i n))

      next-kept : (i : ℕ) → (entry_at after i).next ≡ (entry_at table i).next
      next-kept i = dite (ℕ_discrete i e) (λ q. rw q (ap (λ (x : Entry). x.next) here)) (λ n. ap (λ (x : Entry). x.next) (other i n))

      summed : add_hold entries read ≡ entry_sums W plan (take count after)
      summed =
          add_at entries read e (omega (arith, long)) (at e l ∙ same) (λ i m x. apart i e m l (x ∙ sym same ∙ sym (at e l)))
          ∙ ap (λ (r : Record). set entries e (record { hold = r.hold + read.hold; outputs = r.outputs })) (sum_at W plan table count t.room e l none)
          ∙ ap (λ (x : ℕ). set entries e (record { hold = (entry_at table e).total + x; outputs = entry_setting W plan (entry_at table e) })) (sym own)
          ∙ sym (sums-set W plan table count e l grown)

      pub enter-old : Listed W plan (k + 1) count after
      enter-old = record {
        lists = sym (next-sums ∙ summed);
        few = omega (arith, t.few);
        room = omega (arith, t.room, length-set table e grown);
        before = λ i m. omega (arith, first-kept i, t.before i m);
        small = λ i m. dite (ℕ_discrete i e)
            (λ x. rw x (omega (arith, ap (λ (y : Entry). y.total) here, t.small e l)))
            (λ x. omega (arith, ap (λ (y : Entry). y.total) (other i x), t.small i m));
      }

      -- the chains are as they were
      pub chain-old : (heads : List ℕ) → Chained W plan count heads table → Chained W plan count heads after
      chain-old heads c = record {
        room = c.room;
        inside = λ i m. omega (arith, first-kept i, c.inside i m);
        head = λ b m. c.head b m ∙ sym (last-kept b count);
        next = λ i m. next-kept i ∙ c.next i m ∙ sym (last-kept (entry_bucket W plan table i) i) ∙ ap (λ (y : ℕ). last_in (entry_bucket W plan after) y i) (sym (bucket-kept i));
      }
        where
          bucket-kept : (i : ℕ) → entry_bucket W plan after i ≡ entry_bucket W plan table i
          bucket-kept i = ap (λ (j : ℕ). bucket_of (outputs (record_at W plan j))) (first-kept i)

          last-kept : (b m : ℕ) → last_in (entry_bucket W plan after) b m ≡ last_in (entry_bucket W plan table) b m
          last-kept b m = last-cong (entry_bucket W plan after) (entry_bucket W plan table) b m (λ i _. bucket-kept i)

    -- the setting has none: it gets entry `count`
    module _ (inside : k < whole W plan) (new : (i : ℕ) → i < count → entry_setting W plan (entry_at table i) ≡ outputs (record_at W plan k) → ⊥)
        (room : count < length table) (link : ℕ) where
      abbrev added : Entry
      added = record { first = k; next = link; total = h }

      abbrev table' : List Entry
      table' = set table count added

      old : (i : ℕ) → i < count → entry_at table' i ≡ entry_at table i
      old i l = get_or-set_other table count i added empty (λ e. omega arith)

      last : entry_at table' count ≡ added
      last = get_or-set_same table count added empty room

      setting-new : entry_setting W plan (entry_at table' count) ≡ outputs (record_at W plan k)
      setting-new = ap (entry_setting W plan) last

      summed-more : add_hold entries read ≡ entry_sums W plan (take (count + 1) table')
      summed-more =
          add-new entries read (λ i l x. let l' : i < count = omega (arith, long) in new i l' (sym (at i l') ∙ x))
          ∙ ap (λ (x : ℕ). entries ++ record { hold = x; outputs = outputs (record_at W plan k) } ∷ []) (sym own)
          ∙ sym (sums-next W plan table count room added)

      pub enter-new : Listed W plan (k + 1) (count + 1) table'
      enter-new = record {
        lists = sym (next-sums ∙ summed-more);
        few = omega (arith, t.few);
        room = omega (arith, room, length-set table count added);
        before = λ i m. dite (ℕ_discrete i count)
            (λ x. rw x (omega (arith, ap (λ (y : Entry). y.first) last)))
            (λ x. omega (arith, ap (λ (y : Entry). y.first) (old i (omega arith)), t.before i (omega arith)));
        small = λ i m. dite (ℕ_discrete i count)
            (λ x. rw x (omega (arith, ap (λ (y : Entry). y.total) last)))
            (λ x. omega (arith, ap (λ (y : Entry). y.total) (old i (omega arith)), t.small i (omega arith)));
      }

      -- the chains
      module _ (heads : List ℕ) (c : Chained W plan count heads table) (b : ℕ) (linked : link ≡ get_or heads b 0) (is : b ≡ bucket_of (outputs (record_at W plan k))) (lb : b < buckets) where
        bucket-old : (i : ℕ) → i < count → entry_bucket W plan table' i ≡ entry_bucket W plan table i
        bucket-old i l = ap (λ (x : Entry). bucket_of (entry_setting W plan x)) (old i l)

        bucket-new : entry_bucket W plan table' count ≡ b
        bucket-new = ap bucket_of setting-new ∙ sym is

        last-old : (x m : ℕ) → m ≤ count → last_in (entry_bucket W plan table') x m ≡ last_in (entry_bucket W plan table) x m
        last-old x m l = last-cong (entry_bucket W plan table') (entry_bucket W plan table) x m (λ i j. bucket-old i (omega arith))

        pub chain-new : Chained W plan (count + 1) (set heads b (count + 1)) table'
        chain-new = record {
          room = omega (arith, length-set heads b (count + 1), c.room);
          inside = λ i m. dite (ℕ_discrete i count)
              (λ x. rw x (omega (arith, ap (λ (y : Entry). y.first) last)))
              (λ x. omega (arith, ap (λ (y : Entry). y.first) (old i (omega arith)), c.inside i (omega arith)));
          head = λ x l. dite (ℕ_discrete x b)
              (λ y. rw (y, add-one) (get_or-set_same heads b (suc count) 0 (omega (arith, c.room)) ∙ sym (last-here (entry_bucket W plan table') b count bucket-new)))
              (λ y. rw add-one (get_or-set_other heads b x (suc count) 0 y ∙ c.head x l ∙ sym (last-old x count (omega arith)) ∙ sym (last-before (entry_bucket W plan table') x count (λ z. y (sym z ∙ bucket-new)))));
          next = λ i m. dite (ℕ_discrete i count)
              (λ x. rw x (ap (λ (y : Entry). y.next) last ∙ linked ∙ c.head b lb ∙ sym (last-old b count (omega arith)) ∙ ap (λ (y : ℕ). last_in (entry_bucket W plan table') y count) (sym bucket-new)))
              (λ x. let l : i < count = omega arith in
              ap (λ (y : Entry). y.next) (old i l) ∙ c.next i l ∙ sym (last-old (entry_bucket W plan table i) i (omega arith)) ∙ ap (λ (y : ℕ). last_in (entry_bucket W plan table') y i) (sym (bucket-old i l)));
        }
