use Rattle.std.proofs.Common.{◌≡◌, ◌∙◌, ◌++◌, ◌∷◌, ◌<◌, [], false, true, inl, inr, length, ap, arith, subst, sym}
use Rattle.std.proofs.lemmas.Bool.{cases_lt}
use Rattle.mrp_turn.specs.declared.log.Entry.{Entry}
use Rattle.mrp_turn.specs.Log.{entry}
use Rattle.mrp_book.specs.declared.call.Call.{Call}
use Rattle.mrp_book.specs.declared.reply.Reply.{Reply}
use Rattle.mrp_book.specs.BookState.{BookState}
use Rattle.mrp_book.specs.Standing.{History}
use Rattle.mrp_book.specs.History.{Fits, IsReplyIn, MayFollow}
use Rattle.mrp_book.proofs.States.{keeps_more}
use Rattle.mrp_book.proofs.book.Book.call.Goals as goal

pub invariant_of-self-2 : goal.invariant_of-self-2
invariant_of-self-2 c =
    let facts = c.in_ok-reply.ensures in
    let b : BookState = c.self.inside.state in
    let h : History = c.self.inside.entries.items in
    let e : Entry Call Reply = entry c.args.desk c.args.call c.in_ok-reply.reply in
    let fits : Fits b.supply c.args.call = subst (λ x. Fits x.supply c.args.call) (sym c.self.view_is) c.requires.fits in
    let follows : MayFollow b.supply h e = (c.requires.desk, subst (λ x. IsReplyIn x c.args.desk c.args.call c.in_ok-reply.reply) c.self.invariant.left facts.reply, fits) in
    let same : b.entries ≡ length h = ap (λ (x : BookState). x.entries) c.self.invariant.left in
    let few : length h < 1000000 = elim (cases_lt (length h) 1000000) [
      | inl below ↦ below
      | inr over ↦ let bad : false ≡ true = c.if-is_full.ensures.1 (omega arith) in absurd cc
    ] in
    keeps_more b c.apply.new.self h c.push_reserved.new.self.items e
    (c.push_reserved.ensures.items ∙ ap (λ (x : Reply). c.try_reserve.new.self.items ++ entry c.args.desk c.args.call x ∷ []) facts.copy ∙ ap (λ (x : History). x ++ e ∷ []) c.try_reserve.ensures.items)
    facts.after c.self.invariant few follows
