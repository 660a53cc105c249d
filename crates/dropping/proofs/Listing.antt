-- Listing the dropped records one after the other: record k has an entry behind those before it, or none.
use mathlib.Core.Path.{◌≡◌, refl, sym, ap, ap₂, ◌∙◌}
use mathlib.Core.Bool.{cond}
use mathlib.Core.List.{List, [], ◌∷◌, ◌++◌}
use Prim.Native.Nat.{ℕ, ◌+◌, ◌-◌, ◌<◌, ◌≤◌}
use native.Mathlib.Omega.{arith}
use lib.ListN.{length, take, drop, length-append}
use borrow.Rule.Slice.PartMut.{put_mid}
use Rattle.std.proofs.lemmas.List.{drop-drop, append_assoc}
use Rattle.switch.specs.declared.Edition.{Edition}
use Rattle.plans.specs.Reading.{Readable}
use Rattle.dropping.specs.declared.Reason.{Reason}
use Rattle.dropping.specs.declared.Reason.TheVariants.{Hold, Ports, Spare, Range, Twice, Past, Torn}
use Rattle.dropping.specs.Reason.{number_of}
use Rattle.records.specs.Bytes.{record_at, whole, laid}
use Rattle.records.proofs.Laid.{laid_none, length-laid, laid_more}
use Rattle.rescue_rule.specs.Reason.{reason_of}
use Rattle.rescue_rule.specs.Rescue.{entry_of, dropped_to, dropped_at, torn_tail, dropped, entry_bytes}
use Rattle.rescue_rule.proofs.Those.{those-none, those-next}
use Rattle.rescue_rule.proofs.Reason.{none-fine, some-bad}
use Rattle.rescue_rule.proofs.Read.{read-size}
use Rattle.rescue_rule.proofs.List.{bad, dropped-whole, dropped-torn, torn-none, torn-even, entries-append, entries-size}

nil : entry_bytes [] ≡ []
unfolding entry_bytes
nil = refl

-- an entry's bytes in the place of those that were there
pub entry-laid : (d : List ℕ) (at m : ℕ) (s t : List ℕ) → m ≡ length t → s ≡ t → put_mid at m d s ≡ laid d at t
unfolding laid
entry-laid d at m s t e q =
    ap (λ (x : List ℕ). take at d ++ (x ++ drop m (drop at d))) q
    ∙ ap (λ (x : List ℕ). take at d ++ (t ++ x)) (drop-drop m at d ∙ ap (λ (y : ℕ). drop (at + y) d) e)
    ∙ sym (append_assoc (take at d) t (drop (at + length t) d))

-- every reason has a number above 0
pub some-reason : (r : Reason) → number_of r ≡ 0 → ⊥
some-reason Hold e = omega arith
some-reason Ports e = omega arith
some-reason Spare e = omega arith
some-reason Range e = omega arith
some-reason Twice e = omega arith
some-reason Past e = omega arith
some-reason Torn e = omega arith

module _ (W e N : ℕ) (plan : List ℕ) where
  pub no-entries : entry_bytes (dropped_to W e N plan 0) ≡ []
  no-entries = ap entry_bytes (those-none (bad W e N plan) (entry_of W e N plan)) ∙ nil

  pub next-entries : (k : ℕ) → entry_bytes (dropped_to W e N plan (k + 1)) ≡ entry_bytes (dropped_to W e N plan k) ++ entry_bytes (dropped_at W e N plan k)
  unfolding dropped_at
  next-entries k =
      ap entry_bytes (those-next (bad W e N plan) (entry_of W e N plan) k)
      ∙ entries-append (dropped_to W e N plan k) (cond (bad W e N plan k) (entry_of W e N plan k ∷ []) [])

-- ---- record k, as it is read

module _ (E : Edition) (N : ℕ) (plan : List ℕ) (m : ℕ) (r : Readable E N plan m) (k : ℕ) (l : k < m) (b : List ℕ) (is : b ≡ record_at E.width plan k)
    (why : ℕ) (tells : why ≡ reason_of (length b - 4) E.byte N b) where
  abbrev piece : List ℕ
  piece = entry_bytes (dropped_at E.width E.byte N plan k)

  reason-is : why ≡ reason_of E.width E.byte N (record_at E.width plan k)
  reason-is =
      tells ∙ ap (λ (w : ℕ). reason_of w E.byte N b) (let q : length b - 4 ≡ E.width = omega (arith, read-size E N plan m r k l b is) in q)
      ∙ ap (reason_of E.width E.byte N) is

  -- well formed: no entry
  pub list-skip : why ≡ 0 → (d : List ℕ) (next : ℕ) → (next ≡ next + length piece) × (d ≡ laid d next piece)
  list-skip z d next = (omega (arith, ap length none), sym (ap (laid d next) none ∙ laid_none d next))
    where
      none : entry_bytes (dropped_at E.width E.byte N plan k) ≡ []
      none = unfold dropped_at in rw (none-fine E.width E.byte N (record_at E.width plan k) (sym reason-is ∙ z)) nil

  -- dropped: its number and the reason
  pub list-is : (why ≡ 0 → ⊥) → entry_bytes (record { number = k; reason = why } ∷ []) ≡ piece
  unfolding dropped_at
  list-is nz = rw (some-bad E.width E.byte N (record_at E.width plan k) (λ q. nz (reason-is ∙ q)), reason-is)

  pub list-size : (why ≡ 0 → ⊥) → length piece ≡ 4
  list-size nz = sym (ap length (list-is nz)) ∙ four
    where
      four : length (entry_bytes (record { number = k; reason = why } ∷ [])) ≡ 4
      four = unfold entry_bytes in refl

-- ---- the torn tail

module _ (W e N : ℕ) (plan : List ℕ) where
  -- the entries of the whole records
  abbrev pub wholes : List ℕ
  wholes = entry_bytes (dropped_to W e N plan (whole W plan))

  abbrev pub tail : List ℕ
  tail = entry_bytes (record { number = whole W plan; reason = 7 } ∷ [])

  -- no tail: the list is done
  pub tail_none : length (torn_tail W plan) ≡ 0 → entry_bytes (dropped W e N plan) ≡ wholes
  tail_none z = ap entry_bytes (dropped-whole W e N plan (torn-even W plan z))

  -- either way the whole records' entries fit where all do
  pub wholes-fit : (d : List ℕ) → length (entry_bytes (dropped W e N plan)) ≤ length d → length wholes ≤ length d
  unfolding dropped
  wholes-fit d l = omega (
    arith,
    ap length (entries-append (dropped_to W e N plan (whole W plan)) (torn_tail W plan)),
    length-append wholes (entry_bytes (torn_tail W plan)),
  )

  module _ (nz : length (torn_tail W plan) ≡ 0 → ⊥) where
    -- a tail: one entry more
    tail-one : entry_bytes (dropped W e N plan) ≡ wholes ++ tail
    tail-one =
        ap entry_bytes (dropped-torn W e N plan (λ z. nz (torn-none W plan z)))
        ∙ entries-append (dropped_to W e N plan (whole W plan)) (record { number = whole W plan; reason = 7 } ∷ [])

    tail-size : length (entry_bytes (dropped W e N plan)) ≡ length wholes + 4
    tail-size = ap length tail-one ∙ length-append wholes tail ∙ ap (λ (x : ℕ). length wholes + x) (entries-size (record { number = whole W plan; reason = 7 } ∷ []))

    module _ (d₀ d : List ℕ) (next : ℕ) (fits : length (entry_bytes (dropped W e N plan)) ≤ length d₀) (is : d ≡ laid d₀ 0 wholes) (a : next ≡ length wholes) where
      pub tail-room : next + 4 ≤ length d
      tail-room = omega (arith, fits, a, tail-size, ap length is, length-laid d₀ 0 wholes (omega (arith, wholes-fit d₀ fits)))

      -- the tail's entry laid behind the others
      pub tail-laid : (d' : List ℕ) → d' ≡ laid d next tail → d' ≡ laid d₀ 0 (entry_bytes (dropped W e N plan))
      tail-laid d' w =
          w ∙ ap₂ (λ (x : List ℕ) (y : ℕ). laid x y tail) is (let q : next ≡ 0 + length wholes = omega (arith, a) in q)
          ∙ laid_more d₀ 0 wholes (omega (arith, wholes-fit d₀ fits)) tail
          ∙ ap (laid d₀ 0) (sym tail-one)
