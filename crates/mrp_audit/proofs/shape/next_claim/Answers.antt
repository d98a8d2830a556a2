use Rattle.std.proofs.Common.{◌≡◌, ◌∙◌, ◌++◌, ◌<◌, ◌^◌, List, ap, subst, arith, drop}
use Rattle.std.specs.Prelude.{All, decimal}
use Rattle.csv.specs.Records.{fields_of}
use Rattle.mrp_tables.specs.declared.item.Item.{Item}
use Rattle.mrp_tables.specs.Facts.{IsItem}
use Rattle.mrp_tables.specs.Tables.{Tables}
use Rattle.mrp_cal.specs.Calendar.{ShopCalendar}
use Rattle.mrp_report.specs.section.HistoryText.{call_cells}
use Rattle.mrp_claims.specs.Claims.{claimed_cells}
use Rattle.mrp_claims.proofs.ClaimTexts.{cells-told, claim-plain, claim-short, no-split, split-there}
use Rattle.mrp_audit.proofs.shape.next_claim.Goals as goal

pub returns-in_default : goal.returns-in_default
returns-in_default c = λ claim rest is spelled.
    let t = c.args.shop.now.tables in
    let rows : c.items-named.result.now ≡ t.items = c.items-named.ensures.rows ∙ ap (λ (x : Tables). x.items) c.tables-tables.ensures.value in
    let all : All IsItem t.items = subst (λ (x : List Item). All IsItem x) rows c.items-named.ensures.within in
    let weeks : c.weeks-weeks.result ≡ t.calendar.weeks = c.weeks-weeks.ensures.value ∙ ap (λ (x : ShopCalendar). x.weeks) (c.calendar.ensures ∙ ap (λ (x : Tables). x.calendar) c.tables-tables.ensures.value) in
    let few : t.calendar.weeks < 2 ^ 64 = omega (arith, weeks, c.weeks-weeks.ensures.bound.1) in
    let fits : c.args.number < 2 ^ 64 = omega (arith, c.ranges.number.fits) in
    no-split c.args.text.now c.in_ok-cells.field-0 c.in_ok-cells.ensures c.in_default.not-Some (decimal c.args.number) (decimal claim.desk) (call_cells t claim.call ++ claimed_cells claim.reply) rest
    (claim-short t c.args.number claim all few fits is) (claim-plain t c.args.number claim fits) spelled

pub returns : goal.returns
returns c = λ claim rest is spelled.
    let t = c.args.shop.now.tables in
    let split = split-there c.args.text.now c.in_ok-cells.field-0 c.in-Some.cells c.in-Some.len c.in_ok-cells.ensures c.in-Some.is in
    let told = cells-told (fields_of c.in-Some.cells) (decimal c.args.number) (decimal claim.desk) (call_cells t claim.call ++ claimed_cells claim.reply) c.args.text.now (drop c.in-Some.len c.args.text.now) rest split spelled in
    c.in-None.ensures claim is told.0
