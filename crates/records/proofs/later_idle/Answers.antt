-- The flag says of all outputs so far whether they may stand there; each turn judges one more.
use Rattle.std.proofs.Common.{◌≡◌, ◌+◌, ◌-◌, ◌<◌, sym, ◌∙◌, ap, length, take, drop, get_or, arith}
use Rattle.std.proofs.lemmas.List.{get_or-take, get_or-drop, length-take, length-drop}
use Rattle.records.specs.Record.{all, later}
use Rattle.records.proofs.Every.{all-intro}
use Rattle.records.proofs.Fine.{later-early, later_more}
use Rattle.records.proofs.later_idle.Goals as goal

pub loop-b-init : goal.loop-b-init
loop-b-init c = sym (all-intro _ _ (λ k l. later-early _ _ k (omega arith)))

pub loop-b-preserved : goal.loop-b-preserved
loop-b-preserved c =
    let l = c.loop-b in
    let n = c.args.n in
    let o = c.args.outputs.now in
    let e : get_or (take (length o - n) (drop n o)) l.b-index 0 ≡ get_or o (n + l.b-index) 0 = get_or-take (length o - n) (drop n o) l.b-index 0 (let d : l.b-index < length o - n = omega (arith, length-drop n o, length-take (length o - n) (drop n o)) in d) ∙ get_or-drop n o l.b-index 0 in
    let next : n + (l.b-index + 1) ≡ n + l.b-index + 1 = omega arith in
    rw (e, next) (later_more n o (n + l.b-index) (omega arith) l.idle l.invariant)

pub returns : goal.returns
returns c =
    let n = c.args.n in
    let o = c.args.outputs.now in
    let e : n + c.loop-b.b-index ≡ length o = omega arith in
    c.loop-b.invariant ∙ ap (λ k. all k (later n o)) e
