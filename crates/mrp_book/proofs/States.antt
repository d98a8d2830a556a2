-- The states after histories.
use Rattle.std.proofs.Common.{ℕ, ◌≡◌, ◌<◌, ◌++◌, ◌∷◌, [], length, refl, sym, ◌∙◌, ap, subst, arith}
use Rattle.std.proofs.lemmas.List.{length_push}
use Rattle.mrp_turn.specs.declared.log.Entry.{Entry}
use Rattle.mrp_turn.specs.Log.{entry}
use Rattle.mrp_master.specs.Supply.{Supply}
use Rattle.mrp_book.specs.declared.call.Call.{Call}
use Rattle.mrp_book.specs.declared.reply.Reply.{Reply}
use Rattle.mrp_book.specs.BookState.{BookState}
use Rattle.mrp_book.specs.Standing.{History, standing}
use Rattle.mrp_book.specs.History.{MayFollow, state_after, state_of}
use Rattle.mrp_book.specs.Books.{KeepsHistory}
use Rattle.mrp_book.proofs.Standings.{standing_after}
use Rattle.mrp_book.proofs.Histories.{legal-more, legal-none}

-- a history without entries
pub state_none : (s : Supply) → state_of s [] ≡ record { supply = s; entries = 0; standing = [] }
unfolding standing
state_none s = refl

-- one more entry
pub state_more : (s : Supply) (h : History) (desk : ℕ) (c : Call) (r : Reply) → state_of s (h ++ entry desk c r ∷ []) ≡ state_after (state_of s h) desk c r
state_more s h desk c r = λ i. record { supply = s; entries = length_push h (entry desk c r) i; standing = standing_after h desk c r i }

-- a book without entries
pub keeps_none : (b : BookState) (h : History) (s : Supply) → b ≡ record { supply = s; entries = 0; standing = [] } → h ≡ [] → KeepsHistory b h
keeps_none b h s opened none = subst (KeepsHistory b) (sym none) (subst (λ x. KeepsHistory x []) (sym (opened ∙ sym (state_none s))) (record { history = record { legal = legal-none s; few = omega arith }; left = refl }))

-- a book with one more entry
pub keeps_more : (b after : BookState) (h longer : History) (e : Entry Call Reply) → longer ≡ h ++ e ∷ [] → after ≡ state_after b e.who e.call e.reply
    → KeepsHistory b h → length h < 1000000 → MayFollow b.supply h e → KeepsHistory after longer
keeps_more b after h longer e made stepped k few follows =
    let s : Supply = b.supply in
    let same : after ≡ state_of s (h ++ e ∷ []) = stepped ∙ ap (λ x. state_after x e.who e.call e.reply) k.left ∙ sym (state_more s h e.who e.call e.reply) in
    subst (KeepsHistory after) (sym made) (subst (λ x. KeepsHistory x (h ++ e ∷ [])) (sym same) (record {
      history = record { legal = legal-more s h e k.history.legal follows; few = omega (arith, length_push h e) };
      left = refl;
    }))
