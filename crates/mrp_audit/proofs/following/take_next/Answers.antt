use Rattle.std.proofs.Common.{◌∙◌, ℕ, ap, arith}
use Rattle.std.proofs.lemmas.Grind.{get_or_default_zero}
use Rattle.mrp_book.specs.declared.call.Call.{Call}
use Rattle.mrp_audit.proofs.NextPlaces.{one-come}
use Rattle.mrp_audit.proofs.following.take_next.Goals as goal

pub returns-clause-taken : goal.returns-clause-taken
returns-clause-taken c is made come =
    one-come c.args.script.now made c.args.of_desk.now.items c.args.behind.now c.args.entry.now.who c.args.entry.now.call c.index-place.result.now c.index-script-place.result
    c.requires.behind c.requires.desks (omega (arith, c.if-entry-gt-MOST_DESKS.false)) (c.index-place.ensures ∙ get_or_default_zero c.args.of_desk.now.items c.args.entry.now.who c.index-place.result.now (omega (arith, c.if-entry-gt-MOST_DESKS.false, c.requires.desks))) (omega (arith, c.if-place-script.false)) c.index-script-place.is
    (ap (λ (x : ℕ × Call). x.1) c.index-script-place.is ∙ c.is_same_call.ensures.0 c.if-not-is_same_call.false) come
