use Rattle.std.proofs.Common.{inl, inr, subst}
use Rattle.mrp_commands.specs.Telling.{words_of}
use Rattle.mrp_open.specs.Ends.{IsTold}
use Rattle.mrp_open.proofs.Told.{is-told}
use Rattle.mrp_open.proofs.beside.open_desk.Goals as goal

pub returns-in-Ok : goal.returns-in-Ok
returns-in-Ok g c = inl c.in-Ok.ensures.served

pub returns-in-Err : goal.returns-in-Err
returns-in-Err g c =
    let told = is-told g.E.Write.contents c.open_folder.new.errors c.tell.new.errors (words_of c.in-Err.end) c.tell.result c.tell.ensures.whole c.tell.ensures.front c.tell.ensures.gave_up in
    inr (c.in-Err.ensures.same.0, c.in-Err.ensures.same.1, c.in-Err.ensures.unbegun, subst (λ e. IsTold g.E.Write.contents e c.tell.new.errors (words_of c.in-Err.end)) c.in-Err.ensures.same.2 told)
