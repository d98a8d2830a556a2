use Rattle.std.proofs.Common.{◌≡◌, ◌<◌, ◌∙◌, ap, sym, Some, arith, length, set}
use Rattle.std.proofs.Math.ListN.{length-set}
use Rattle.mrp_rows.specs.Bundle.{table_of, line_text}
use Rattle.mrp_rows.proofs.SplitTexts.{placed, taken-set, taken-le-length}
use Rattle.mrp_rows.proofs.bundle.put_section.Goals as goal

pub returns-clause-placed : goal.returns-clause-placed
returns-clause-placed c =
    let line = c.args.line.now in
    let named : table_of (line_text line) ≡ Some c.in-Some.table = ap table_of (sym c.name_len.ensures.name ∙ sym c.split_at.ensures.front) ∙ sym c.table_named.ensures.table ∙ c.in-Some.is in
    let same = c.index-2.ensures.place ∙ sym c.index.ensures.place in
    placed c.args.texts.now c.index-2.result c.args.count c.in-Some.table (table_of (line_text line)) c.args.text named c.index-2.ensures.place (rw same (sym c.is_some.ensures ∙ c.if-is_some.false))

pub returns-clause-count : goal.returns-clause-count
returns-clause-count c =
    let same = c.index-2.ensures.place ∙ sym c.index.ensures.place in
    let room : c.index-2.result < length c.args.texts.now = rw (c.told-texts, c.index-2.ensures.place) c.in-Some.ensures.place in
    taken-set c.args.texts.now c.index-2.result c.args.text room (rw same (sym c.is_some.ensures ∙ c.if-is_some.false))

pub returns-clause-within : goal.returns-clause-within
returns-clause-within c =
    let places = set c.args.texts.now c.index-2.result (Some c.args.text) in
    omega (arith, taken-le-length places, length-set c.args.texts.now c.index-2.result (Some c.args.text), c.told-texts)
