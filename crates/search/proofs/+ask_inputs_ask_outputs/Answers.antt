-- A wave is marked before its holders are asked, so that fewer outputs are left to try: the search ends, with one handed on or with a closed set.
use Rattle.std.proofs.Common.{subst, arith, length}
use Rattle.labels.specs.Ports.{outputs_of}
use Rattle.std.specs.declared.option.Option.{Option}
use Rattle.switch.specs.declared.OutputPort.{OutputPort}
use Rattle.search.specs.Tables.{tried_of, Allowed}
use Rattle.search.specs.Search.{Leads, seen_in}
use Rattle.search.proofs.Search.{lowest-at, tries-rest, wave-post, wave-tries, further-asks, fewer-left, wave-stuck, wave-movable, wave-handed}
use Rattle.search.proofs.+ask_inputs_ask_outputs.Goals as goal

-- ---- inputs ask

pub ask_inputs-returns-in-Some-next : goal.ask_inputs-returns-in-Some-next
ask_inputs-returns-in-Some-next t c =
    let a = c.args in
    let q = c.ask_outputs in
    let l = lowest-at 128 (outputs_of a.outputs) (tried_of a.tried) c.next.result c.in-Some-next.field-0 c.next.ensures c.in-Some-next.is in (
      wave-post 128 (length a.rows.now) (Allowed a.rows.now) a.pairs.now.by a.pairs.now.out (outputs_of a.held) (tried_of a.tried) c.requires.1 (outputs_of a.outputs) (outputs_of c.but.result) q.new.pairs.by q.new.pairs.out q.result c.but.ensures q.ensures.0,
      tries-rest 128 (tried_of a.tried) (outputs_of a.outputs) (outputs_of c.but.result) (seen_in q.result) c.in-Some-next.field-0.0 c.but.ensures l.here l.new q.ensures.1,
    )

-- ---- a wave of outputs asks

pub ask_outputs-ask_inputs-requires : goal.ask_outputs-ask_inputs-requires
ask_outputs-ask_inputs-requires t c =
    let a = c.args in
    let u = c.with-marked in (
      omega (arith, c.decreases, fewer-left 128 (length a.rows.now) (Allowed a.rows.now) a.pairs.now.by a.pairs.now.out (outputs_of a.held) (tried_of a.tried) c.requires.1 (outputs_of a.wave) c.requires.2 (tried_of u.result) u.ensures),
      (c.requires.0, further-asks 128 (length a.rows.now) (Allowed a.rows.now) a.pairs.now.by a.pairs.now.out (outputs_of a.held) (tried_of a.tried) c.requires.1 (outputs_of a.wave) c.requires.2 (tried_of u.result) u.ensures),
    )

pub ask_outputs-hand_on-j-requires : goal.ask_outputs-hand_on-j-requires
ask_outputs-hand_on-j-requires t c =
    let a = c.args in
    let u = c.with-marked in
    let r = outputs_of c.leads_to-w.result.outputs in
    let q = c.ask_inputs.new in
    let m = c.in-Freed.ensures.0 in
    let f = subst (λ (z : (Option OutputPort)). Leads (Allowed a.rows.now) a.pairs.now.by (outputs_of a.wave) z r) c.in-None.is c.leads_to-w.ensures in
    (c.requires.0, m.here, wave-movable 128 (length a.rows.now) (Allowed a.rows.now) a.pairs.now.by a.pairs.now.out (outputs_of a.held) (tried_of a.tried) c.requires.1 (outputs_of a.wave) c.requires.2 (tried_of u.result) u.ensures r f _ _ q.pairs.by q.pairs.out m)

pub ask_outputs-returns-in-Stuck : goal.ask_outputs-returns-in-Stuck
ask_outputs-returns-in-Stuck t c =
    let a = c.args in
    let u = c.with-marked in
    let r = outputs_of c.leads_to-w.result.outputs in
    let q = c.ask_inputs.new in
    let f = subst (λ (z : (Option OutputPort)). Leads (Allowed a.rows.now) a.pairs.now.by (outputs_of a.wave) z r) c.in-None.is c.leads_to-w.ensures in (
      wave-stuck 128 (length a.rows.now) (Allowed a.rows.now) a.pairs.now.by a.pairs.now.out (outputs_of a.held) (tried_of a.tried) c.requires.1 (outputs_of a.wave) c.requires.2 (tried_of u.result) u.ensures r f q.pairs.by q.pairs.out _ c.in-Stuck.ensures.0,
      wave-tries 128 (length a.rows.now) (Allowed a.rows.now) a.pairs.now.by a.pairs.now.out (outputs_of a.held) (tried_of a.tried) c.requires.1 (outputs_of a.wave) c.requires.2 (tried_of u.result) u.ensures _ c.in-Stuck.ensures.1.more,
    )

pub ask_outputs-returns-in-Freed : goal.ask_outputs-returns-in-Freed
ask_outputs-returns-in-Freed t c =
    let a = c.args in
    let u = c.with-marked in
    let r = outputs_of c.leads_to-w.result.outputs in
    let q = c.ask_inputs.new in
    let h = c.hand_on-j in
    let f = subst (λ (z : (Option OutputPort)). Leads (Allowed a.rows.now) a.pairs.now.by (outputs_of a.wave) z r) c.in-None.is c.leads_to-w.ensures in (
      wave-handed 128 (length a.rows.now) (Allowed a.rows.now) a.pairs.now.by a.pairs.now.out (outputs_of a.held) (tried_of a.tried) c.requires.1 (outputs_of a.wave) c.requires.2 (tried_of u.result) u.ensures r f _ _ q.pairs.by q.pairs.out c.in-Freed.ensures.0 h.result.0 h.new.pairs.by h.new.pairs.out c.requires.0.few h.ensures,
      wave-tries 128 (length a.rows.now) (Allowed a.rows.now) a.pairs.now.by a.pairs.now.out (outputs_of a.held) (tried_of a.tried) c.requires.1 (outputs_of a.wave) c.requires.2 (tried_of u.result) u.ensures _ c.in-Freed.ensures.1.more,
    )
