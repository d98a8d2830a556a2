-- A log that the lock calls legal is a legal history, within the limit of a book, and its state is the one after the
-- history.
use Rattle.std.proofs.Common.{◌≡◌, ℕ, ◌+◌, ◌<◌, ◌≤◌, inl, inr, [], ◌∷◌, ◌++◌, length, sym, ap, subst, ◌∙◌, arith}
use Rattle.std.proofs.lemmas.Bool.{cases_lt}
use Rattle.std.proofs.lemmas.List.{append-nil, length_push}
use Rattle.mrp_bill.specs.Shop.{Shop}
use Rattle.mrp_turn.specs.declared.log.Entry.{Entry}
use Rattle.mrp_turn.specs.Log.{IsReached, Leads, LeadsTo}
use Rattle.mrp_master.specs.Supply.{Supply, supply_of}
use Rattle.mrp_book.specs.declared.call.Call.{Call}
use Rattle.mrp_book.specs.declared.reply.Reply.{Reply}
use Rattle.mrp_book.specs.BookState.{BookState}
use Rattle.mrp_book.specs.Standing.{History}
use Rattle.mrp_book.specs.History.{IsLegal, IsLimit, state_of}
use Rattle.mrp_turn.proofs.Logs.{one_more}
use Rattle.mrp_book.proofs.Histories.{legal-more, legal-none}
use Rattle.mrp_book.proofs.States.{state_more, state_none}
use Rattle.mrp_desk.specs.ShopBook.{Answers, Opens}

pub below_limit : (n : ℕ) → ¬ IsLimit n → n < 1000000
below_limit n not = elim (cases_lt n 1000000) [
  | inl below ↦ below
  | inr over ↦ absurd (not over)
]

-- a legal history within the limit, which leads to the state
pub record IsHistory (s : Supply) (h : History) (b : BookState) : Type 0 where
  pub legal : IsLegal s h
  pub few : length h ≤ 1000000
  pub left : b ≡ state_of s h

module _ (shop : Shop) where
  abbrev s : Supply
  s = supply_of shop.tables

  one_entry : (before : History) (e : Entry Call Reply) (b after : BookState) → IsHistory s before b → Answers shop b e.who e.call e.reply after → IsHistory s (before ++ e ∷ []) after
  one_entry before e b after h a =
      let was : b ≡ state_of s before = h.left in
      let answers : Answers shop (state_of s before) e.who e.call e.reply after = subst (λ (x : BookState). Answers shop x e.who e.call e.reply after) was a in
      record {
        legal = legal-more s before e h.legal (answers.desk_is, answers.reply, answers.fits);
        few = omega (arith, length_push before e, below_limit (length before) answers.within);
        left = answers.left ∙ sym (state_more s before e.who e.call e.reply);
      }

  goes_on : (before log : History) (b t : BookState) → IsHistory s before b → Leads (Answers shop) b log t → IsHistory s (before ++ log) t
  goes_on before [] b t h same = subst (λ (x : History). IsHistory s x t) (sym (append-nil before)) (subst (IsHistory s before) same h)
  goes_on before (e ∷ log) b t h (u, a, rest) =
      subst (λ (x : History). IsHistory s x t) (sym (one_more before e log)) (goes_on (before ++ e ∷ []) log u t (one_entry before e b u h a) rest)

  pub is_history : (log : History) (t : BookState) → LeadsTo (Answers shop) (Opens shop) log t → IsHistory s log t
  is_history log t (b, opens, leads) = goes_on [] log b t (record { legal = legal-none s; few = omega arith; left = opens ∙ sym (state_none s) }) leads

  -- a state that calls led to promises from the shop's supply
  pub reached_supply : (b : BookState) → IsReached (Answers shop) (Opens shop) b → b.supply ≡ s
  reached_supply b (log, leads) = ap (λ (x : BookState). x.supply) (is_history log b leads).left
