-- Inner: a quiet setting in the making, on labels: what each turn may assume and what it promises. Definitions only.
use Rattle.std.specs.Prelude.{◌≡◌, Bool, true, false, List, ℕ, ◌+◌, ◌-◌, ◌%◌, ◌≤◌, ◌<◌, length, get_or}
use Rattle.labels.specs.Ports.{Outputs}
use Rattle.labels.specs.Rows.{row_of}
use Rattle.sets.specs.Label.{digit, In, is_in, Marked}
use Rattle.wavelengths.specs.Shared.{wavelength}
use Rattle.quiet_rule.specs.Limit.{lit}
use Rattle.quiet_rule.specs.Quiet.{served}
use Rattle.quiet_setting.specs.declared.Busy.{Busy}

-- r is l and output j besides, where that is to be marked, and else l
pub record MarkedIf (yes : Bool) (l j r : ℕ) : Type 0 where
  pub marked : yes ≡ true → Marked l j r
  pub same : yes ≡ false → r ≡ l

-- r is l gone on by one place around N outputs
pub record Around (N l r : ℕ) : Type 0 where
  pub inside : (k : ℕ) → In r k → k < N
  pub turns : (j : ℕ) → j < N → digit r j ≡ digit l ((j + (N - 1)) % N)

-- 1 where output j is in the label of input i, and 0 elsewhere: a demand of the pairs with slots left
unfoldable pub asks : (rows : List Outputs) (i j : ℕ) → ℕ
asks rows i j = digit (row_of rows i) j

-- r has what l has of the outputs below 64
abbrev pub FirstWord : (l r : ℕ) → Type 0
FirstWord l r = (k : ℕ) → k < 64 → digit l k ≡ digit r k

-- a label of outputs for each of N inputs: in its first word, which alone is read, none but the first N
pub record Rows (N : ℕ) (rows : List Outputs) : Type 0 where
  pub some : 0 < N
  pub few : N ≤ 64
  pub size : N ≤ length rows
  pub inside : (i j : ℕ) → i < N → j < 64 → In (row_of rows i) j → j < N

-- l has the outputs below N that input v would reach by a wavelength that L inputs of setting o use
pub record FullFor (N L : ℕ) (o : ℕ → ℕ) (v l : ℕ) : Type 0 where
  pub inside : (j : ℕ) → In l j → j < N
  pub full : (j : ℕ) → j < N → In l j → L ≤ lit N o (wavelength N v j)
  pub has_room : (j : ℕ) → j < N → (In l j → ⊥) → lit N o (wavelength N v j) < L

-- the first v inputs are visited: the outputs by input, the wavelengths counted, the outputs taken, and those whose wavelength is full for input v
pub record Choosing (N L : ℕ) (rows : List Outputs) (v : ℕ) (out counts : List ℕ) (busy : Busy) : Type 0 where
  pub wide : N ≤ length out
  pub room : N ≤ length counts
  pub outputs : (i : ℕ) → get_or out i 255 ≡ (served N L (asks rows) v).outputs i
  pub counted : (w : ℕ) → w < N → get_or counts w 0 ≡ lit N (served N L (asks rows) v).outputs w
  pub taken : (j : ℕ) → j < N → is_in busy.taken.0 j ≡ (served N L (asks rows) v).taken j
  pub full : FullFor N L (served N L (asks rows) v).outputs v busy.full.0
