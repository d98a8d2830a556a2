use Rattle.std.proofs.Common.{◌∙◌, ap}
use Rattle.mrp_calls.specs.Desk.{Desk}
use Rattle.mrp_calls.proofs.Tried.{tried, turned-down}
use Rattle.mrp_calls.proofs.open_desk.OpenDesk.try_line.Goals as goal

pub returns-in-Ok-clause-answered : goal.returns-in-Ok-clause-answered
returns-in-Ok-clause-answered c =
    tried c.enter-done.result c.tables.result.now c.next_number-number.result c.args.line.now c.in-Ok.row c.in-Ok.given c.args.self.now _ c.enter-done.new.self _
    c.args.answers.now.items c.args.records.now.items c.enter-done.new.answers.items c.enter-done.new.records.items
    (c.tables.ensures.value ∙ ap (λ (d : Desk). d.tables) c.self.view_is) c.next_number-number.ensures c.in-Ok.ensures.call c.self.view_is c.self-in-Ok.view_is c.enter-done.ensures.entered

pub returns-in-Err-Refused-clause-answered : goal.returns-in-Err-Refused-clause-answered
returns-in-Err-Refused-clause-answered c =
    turned-down c.refuse.result c.tables.result.now c.next_number-number.result c.args.line.now c.in-Err-Refused.field-0 c.in-Err-Refused.fault c.args.self.now _
    c.args.answers.now.items c.args.records.now.items c.refuse.new.text.items
    (c.tables.ensures.value ∙ ap (λ (d : Desk). d.tables) c.self.view_is) c.next_number-number.ensures c.in-Err-Refused.ensures.call c.in-Err-Refused.field-0-is c.self.view_is c.refuse.ensures.added
