-- `printer::put_answer` meets its contract: the parts one after the other are the fields with their spaces
-- (`tick_by_parts`). Assumes nothing.
use Rattle.std.proofs.Common.{rules}
use mathlib.Core.Path.{sym}
use Rattle.std.specs.Prelude.{None}
use Rattle.branches.specs.Readout.{no_side}
use Rattle.branches.specs.declared.Side.{Side}
use Rattle.text.specs.Page.{page}
use Rattle.printer.proofs.PartLaws.{four_words, tick_by_parts}
use Rattle.printer.proofs.put_answer.Goals as goal

pub returns : goal.returns
returns c =
    let a = c.args.a in
    let finished = four_words c.map.result a.sides (λ (s : Side). s.finished) None c.map.ensures.items.long
    (λ i h. let m = (c.map.ensures.items.at i no_side None h).2.met in search (rules, m)) in
    let shown = four_words c.map-2.result a.sides (λ (s : Side). s.shown) None c.map-2.ensures.items.long
    (λ i h. let m = (c.map-2.ensures.items.at i no_side None h).2.met in search (rules, m)) in
    let parts = tick_by_parts a (page c.args.page.now.out.now c.args.page.now.at) in
    (cc, rw (c.put-2.ensures.1, c.put_slots-2.ensures.1, shown, c.put_slots.ensures.1, finished, c.put_outcome.ensures.1, c.put.ensures.1, c.put_hex.ensures.1, c.put_masks.ensures.1) (sym parts))
