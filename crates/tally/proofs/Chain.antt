-- A chain leads through the entries of one bucket, the last first: what it has passed is not the setting that is looked for, nor is any entry of
-- another bucket, since equal settings share theirs.
use mathlib.Core.Path.{◌≡◌, refl, sym, ap, ◌∙◌}
use mathlib.Core.Logic.{dite}
use mathlib.Core.List.{List}
use Prim.Native.Nat.{ℕ, zero, suc, ◌-◌, ◌<◌, ◌≤◌}
use native.Mathlib.Decide.{ℕ_discrete, dec_lt}
use native.Mathlib.Nat.{not-suc-le-zero}
use native.Mathlib.Omega.{arith}
use lib.ListN.{get_or}
use borrow.Author.Tests.{eq-eqb, ne_eqb}
use Rattle.records.specs.Record.{outputs}
use Rattle.records.specs.Bytes.{record_at}
use Rattle.tally.specs.declared.Entry.{Entry}
use Rattle.tally.specs.Table.{entry_at, entry_setting, buckets, bucket_of, last_in, entry_bucket, Chained}

-- ---- the last entry of a bucket

module _ (bucket : ℕ → ℕ) (b : ℕ) where
  pub last-here : (n : ℕ) → bucket n ≡ b → last_in bucket b (suc n) ≡ suc n
  unfolding last_in
  last-here n e = rw (eq-eqb _ _ e)

  pub last-before : (n : ℕ) → (bucket n ≡ b → ⊥) → last_in bucket b (suc n) ≡ last_in bucket b n
  unfolding last_in
  last-before n f = rw (ne_eqb _ _ f)

  -- it is an entry of the bucket, and none after it is
  pub record Last (n l : ℕ) : Type 0 where
    pub inside : l ≤ n
    pub shares : (e : ℕ) → l ≡ suc e → bucket e ≡ b
    pub after : (i : ℕ) → l ≤ i → i < n → bucket i ≡ b → ⊥

  pub last-is : (n : ℕ) → Last n (last_in bucket b n)
  last-is zero = unfold last_in in record { inside = omega arith; shares = λ e q. absurd (let f : ⊥ = omega arith in f); after = λ i l m _. absurd (not-suc-le-zero m) }
  last-is (suc n) = by (ℕ_discrete (bucket n) b) (last-is n)
    where
      by : Dec (bucket n ≡ b) → Last n (last_in bucket b n) → Last (suc n) (last_in bucket b (suc n))
      by (yes s) r = rw (last-here n s) (record {
        inside = omega arith;
        shares = λ e q. let k : e ≡ n = omega arith in rw k s;
        after = λ i l m _. omega arith;
      })
      by (no f) r = rw (last-before n f) (record {
        inside = omega (arith, r.inside);
        shares = r.shares;
        after = λ i l m q. dite (ℕ_discrete i n) (λ k. f (rw k at q)) (λ k. r.after i l (omega arith) q);
      })

-- entries that share their buckets have the same last entries
pub last-cong : (f g : ℕ → ℕ) (b n : ℕ) → ((e : ℕ) → e < n → f e ≡ g e) → last_in f b n ≡ last_in g b n
last-cong f g b zero h = unfold last_in in refl
last-cong f g b (suc n) h = by (ℕ_discrete (f n) b) (last-cong f g b n (λ e l. h e (omega arith)))
  where
    by : Dec (f n ≡ b) → last_in f b n ≡ last_in g b n → last_in f b (suc n) ≡ last_in g b (suc n)
    by (yes s) r = last-here f b n s ∙ sym (last-here g b n (sym (h n (omega arith)) ∙ s))
    by (no s) r = last-before f b n s ∙ r ∙ sym (last-before g b n (λ q. s (h n (omega arith) ∙ q)))

-- ---- looking for a setting

-- the setting of an entry, as the code reads it
pub read-entry : (W : ℕ) (plan : List ℕ) (first k : ℕ) → k ≡ first → (o : List ℕ) → o ≡ outputs (record_at W plan k) → o ≡ outputs (record_at W plan first)
read-entry W plan first k q o s = s ∙ ap (λ (i : ℕ). outputs (record_at W plan i)) q

-- the chain stands before entry link - 1, and no entry from link on has the setting
pub record Looking (W : ℕ) (plan : List ℕ) (count : ℕ) (table : List Entry) (setting : List ℕ) (link : ℕ) : Type 0 where
  pub inside : link ≤ count
  pub shares : (e : ℕ) → link ≡ suc e → entry_bucket W plan table e ≡ bucket_of setting
  pub passed : (i : ℕ) → link ≤ i → i < count → entry_setting W plan (entry_at table i) ≡ setting → ⊥

module _ (W : ℕ) (plan : List ℕ) (count : ℕ) (heads : List ℕ) (table : List Entry) (setting : List ℕ) (c : Chained W plan count heads table) where
  pub look-first : (b link : ℕ) → b ≡ bucket_of setting → b < buckets → link ≡ get_or heads b 0 → Looking W plan count table setting link
  look-first b link s l q =
      let e : link ≡ last_in (entry_bucket W plan table) b count = q ∙ c.head b l in
      let t = last-is (entry_bucket W plan table) b count in record {
        inside = omega (arith, t.inside);
        shares = λ e' k. t.shares e' (sym e ∙ k) ∙ s;
        passed = λ i m n k. t.after i (omega arith) n (ap bucket_of k ∙ sym s);
      }

  module _ (link : ℕ) (more : 0 < link) (k : Looking W plan count table setting link) where
    pub look-inside : link - 1 < count
    look-inside = omega (arith, k.inside)

    pub look-next : (entry_setting W plan (entry_at table (link - 1)) ≡ setting → ⊥) → (link' : ℕ) → link' ≡ (entry_at table (link - 1)).next
        → (link' < link) × Looking W plan count table setting link'
    look-next n link' q =
        let l : link ≡ suc (link - 1) = omega arith in
        let own : entry_bucket W plan table (link - 1) ≡ bucket_of setting = k.shares (link - 1) l in
        let e : link' ≡ last_in (entry_bucket W plan table) (entry_bucket W plan table (link - 1)) (link - 1) = q ∙ c.next (link - 1) look-inside in
        let t = last-is (entry_bucket W plan table) (entry_bucket W plan table (link - 1)) (link - 1) in (
          omega (arith, t.inside),
          record {
            inside = omega (arith, t.inside, k.inside);
            shares = λ e' z. t.shares e' (sym e ∙ z) ∙ own;
            passed = λ i a z s.
                dite (dec_lt i (link - 1)) (λ m. t.after i (omega arith) m (ap bucket_of s ∙ sym own))
                (λ m. dite (ℕ_discrete i (link - 1)) (λ h. n (rw h at s)) (λ h. k.passed i (omega arith) z s));
          },
        )
