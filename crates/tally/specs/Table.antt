-- Inner: a table of sums: entries in order of first appearance, found by chains of entries that share a bucket. Definitions only.
use Rattle.std.specs.Prelude.{◌≡◌, cond, List, ℕ, zero, suc, ◌+◌, ◌*◌, ◌/◌, ◌%◌, ◌<◌, ◌≤◌, Some, None, length, map, take, get_or, eqb}
use Rattle.std.specs.declared.option.Option.{Option}
use Rattle.std.specs.Int.Bits.{bit_xor}
use Rattle.std.specs.Int.{w64, from_le_bytes}
use Rattle.std.specs.List.{fold}
use Rattle.std.specs.Simd.{first_chunks}
use Rattle.switch.specs.Plan.{Record}
use Rattle.records.specs.Record.{outputs}
use Rattle.records.specs.Bytes.{record_at, whole, plan_from}
use Rattle.tally.specs.Sums.{sums}
use Rattle.tally.specs.declared.Entry.{Entry}

-- entry e of a table
abbrev pub entry_at : (table : List Entry) (e : ℕ) → Entry
entry_at table e = get_or table e (record { first = 0; next = 0; total = 0 })

-- the setting of an entry: that of the record at which it first appears
abbrev pub entry_setting : (W : ℕ) (plan : List ℕ) (t : Entry) → List ℕ
entry_setting W plan t = outputs (record_at W plan t.first)

-- an entry as a sum
abbrev pub entry_sum : (W : ℕ) (plan : List ℕ) (t : Entry) → Record
entry_sum W plan t = record { hold = t.total; outputs = entry_setting W plan t }

-- entries as sums
abbrev pub entry_sums : (W : ℕ) (plan : List ℕ) (table : List Entry) → List Record
entry_sums W plan table = map (entry_sum W plan) table

-- the first entries of a table list the sums of a plan's first k records
pub record Listed (W : ℕ) (plan : List ℕ) (k count : ℕ) (table : List Entry) : Type 0 where
  pub lists : entry_sums W plan (take count table) ≡ sums (plan_from W plan 0 k)
  pub few : count ≤ k
  pub room : count ≤ length table
  pub before : (e : ℕ) → e < count → (entry_at table e).first < k
  pub small : (e : ℕ) → e < count → (entry_at table e).total ≤ 65535 * k

-- ---- buckets

-- how many there are
abbrev pub buckets : ℕ
buckets = 8192

-- the lower 32 bits of a number of 64 are spread over all of them, and the upper go below
unfoldable pub stir : (h : ℕ) → ℕ
stir h = h % 4294967296 * 2654435761 + h / 4294967296

-- the eights of a setting's outputs, each as a number, the first output lowest, are stirred one after the other into a number
unfoldable pub stirred : List (List ℕ) → ℕ
stirred longs = fold (λ h x. stir (bit_xor h (from_le_bytes w64 x))) 0 longs

-- a setting's bucket. Equal settings share one; the rest is chance, on which nothing relies but speed
unfoldable pub bucket_of : (o : List ℕ) → ℕ
bucket_of o = stir (stirred (first_chunks 8 (length o / 8) o)) / 2251799813685248

-- one more than the last entry below n in bucket b, bucket e being that of entry e; 0 where there is none
unfoldable pub last_in : (ℕ → ℕ) → ℕ → ℕ → ℕ
last_in bucket b zero = 0
last_in bucket b (suc n) = cond (eqb (bucket n) b) (suc n) (last_in bucket b n)

-- the bucket of entry e
abbrev pub entry_bucket : (W : ℕ) (plan : List ℕ) (table : List Entry) (e : ℕ) → ℕ
entry_bucket W plan table e = bucket_of (entry_setting W plan (entry_at table e))

-- a bucket's chain starts with its last entry, and each entry leads to the last one before it that shares its bucket
pub record Chained (W : ℕ) (plan : List ℕ) (count : ℕ) (heads : List ℕ) (table : List Entry) : Type 0 where
  pub room : buckets ≤ length heads
  pub inside : (e : ℕ) → e < count → (entry_at table e).first < whole W plan
  pub head : (b : ℕ) → b < buckets → get_or heads b 0 ≡ last_in (entry_bucket W plan table) b count
  pub next : (e : ℕ) → e < count → (entry_at table e).next ≡ last_in (entry_bucket W plan table) (entry_bucket W plan table e) e

-- what looking for a setting finds: its entry, or none where none has it
abbrev pub Found : (W : ℕ) (plan : List ℕ) (count : ℕ) (table : List Entry) (setting : List ℕ) → Option ℕ → Type 0
Found W plan count table setting (Some e) = (e < count) × (entry_setting W plan (entry_at table e) ≡ setting)
Found W plan count table setting None = (i : ℕ) → i < count → entry_setting W plan (entry_at table i) ≡ setting → ⊥
