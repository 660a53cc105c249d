-- The low word is asked first, and the high one only where none of the low one is free.
use native.Mathlib.Omega.{arith}
use Rattle.labels.specs.Ports.{outputs_of}
use Rattle.search.specs.Tables.{Allowed}
use Rattle.search.proofs.Waves.{low-leads, high-leads}
use Rattle.search.proofs.leads_to.Goals as goal

pub word_leads_to-low-requires : goal.word_leads_to-low-requires
word_leads_to-low-requires c = (c.requires.0, c.requires.1, omega arith)

pub word_leads_to-requires : goal.word_leads_to-requires
word_leads_to-requires c = (c.requires.0, c.requires.1, omega arith)

pub returns-in-Some : goal.returns-in-Some
returns-in-Some c =
    let a = c.args in
    low-leads (Allowed a.rows.now) a.pairs.now.by a.wave.numbers.high.0 a.wave.numbers.low.0 (omega (arith, c)) (outputs_of c.none.result) (outputs_of c.word_leads_to-low.result.outputs) c.word_leads_to-low.result.free c.in-Some.is c.word_leads_to-low.ensures

pub returns-in-None : goal.returns-in-None
returns-in-None c =
    let a = c.args in
    high-leads (Allowed a.rows.now) a.pairs.now.by a.wave.numbers.high.0 a.wave.numbers.low.0 (omega (arith, c)) (outputs_of c.none.result) (outputs_of c.word_leads_to-low.result.outputs) (outputs_of c.word_leads_to.result.outputs) c.word_leads_to-low.result.free c.word_leads_to.result.free
    c.none.ensures c.in-None.is c.word_leads_to-low.ensures c.word_leads_to.ensures
