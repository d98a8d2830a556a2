use Rattle.std.proofs.Common.{◌≡◌}
use Rattle.mrp_report.specs.section.MessageText.{message_text}
use Rattle.mrp_report.proofs.lemmas.section.ListTexts.{so_far}
use Rattle.mrp_report.proofs.section.messages.message_rows.Given as goal

abbrev pub invariant-loop-message : goal.invariant-loop-message
invariant-loop-message l = l.page ≡ so_far l.fn.page (message_text l.names.tables.now l.name l.orders) l.messages l.message-index
