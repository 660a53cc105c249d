-- A setting that is found has the only entry that is its own; one that is not found gets the next, at the head of its bucket's chain.
use mathlib.Core.Path.{◌≡◌, refl, sym, ap, ◌∙◌}
use mathlib.Core.List.{List}
use Prim.Native.Nat.{ℕ, ◌<◌}
use native.Mathlib.Omega.{arith}
use lib.ListN.{length}
use Rattle.records.specs.Record.{hold, outputs}
use Rattle.records.specs.Bytes.{record_at}
use Rattle.tally.specs.Table.{entry_at, entry_setting, bucket_of}
use Rattle.tally.proofs.Setting.{setting-long}
use Rattle.tally.proofs.Next.{enter-old, chain-old, enter-new, chain-new}
use Rattle.tally.proofs.enter.Goals as goal

pub entry_of-requires : goal.entry_of-requires
entry_of-requires c =
    let p = c.requires in
    let b = c.bucket_of-bucket.ensures in
    (p.0, setting-long _ _ _ p.1 _ c.setting_at-setting.ensures, b.0, b.1, p.4.room, p.5)

pub returns-in-Some : goal.returns-in-Some
returns-in-Some c =
    let p = c.requires in
    let own = (c.from-hold.ensures ∙ c.hold_of.ensures ∙ ap (λ (b : List ℕ). hold b) c.record_at.ensures) in
    let found = c.in-Some.ensures in
    let same = found.1 ∙ c.setting_at-setting.ensures in
    (enter-old _ _ _ _ _ p.4 _ own (omega arith) _ found.0 same, chain-old _ _ _ _ _ p.4 _ own (omega arith) _ found.0 same _ p.5)

pub returns : goal.returns
returns c =
    let p = c.requires in
    let a = c.args in
    let own = (c.from-hold.ensures ∙ c.hold_of.ensures ∙ ap (λ (b : List ℕ). hold b) c.record_at.ensures) in
    let s = c.setting_at-setting.ensures in
    let b = c.bucket_of-bucket.ensures in
    let new : (i : ℕ) → i < a.count → entry_setting a.width a.plan.now (entry_at a.entries.now i) ≡ outputs (record_at a.width a.plan.now a.k) → ⊥ = λ i l x. c.in_default.ensures i l (x ∙ sym s) in
    let room : a.count < length a.entries.now = omega (arith, p.3, p.4.few) in (
      enter-new _ _ _ _ _ p.4 _ own (omega arith) p.1 new room _,
      chain-new _ _ _ _ _ p.4 _ own (omega arith) p.1 new room _ _ p.5 _ refl (b.0 ∙ ap bucket_of s) b.1,
    )
