use Rattle.std.proofs.Common.{◌≡◌, ◌≤◌, ◌∙◌, length, sym, ap, subst, arith, rules}
use Rattle.std.proofs.lemmas.Grind.{common_steps}
use Rattle.std.specs.Prelude.{All}
use Rattle.mrp_turn.specs.Lists.{StartsWith}
use Rattle.mrp_turn.specs.Seen.{HasNumber}
use Rattle.mrp_master.specs.Supply.{Supply}
use Rattle.mrp_book.specs.BookState.{BookState}
use Rattle.mrp_book.specs.Books.{OrderBook}
use Rattle.mrp_book.specs.Standing.{History}
use Rattle.mrp_book.specs.History.{IsLegal}
use Rattle.mrp_desk.specs.Offices.{supply_at}
use Rattle.mrp_desk.proofs.Legal.{is_history}
use Rattle.mrp_desk.proofs.office.Office.close.Goals as goal

pub new-requires : goal.new-requires
new-requires c =
    let h = is_history c.self.inside.turn.about.object c.close-state.result.1 c.close-state.result.0 c.close-state.ensures.legal in
    let supply : c.into_supply.result ≡ supply_at c.self.inside.turn = c.into_supply.ensures ∙ ap (λ (b : BookState). b.supply) h.left in
    subst (λ (s : Supply). IsLegal s c.into_entries-entries.result.items) (sym supply) (subst (IsLegal (supply_at c.self.inside.turn)) (sym c.into_entries-entries.ensures) h.legal)

pub unreachable-requires : goal.unreachable-requires
unreachable-requires c =
    let h = is_history c.self.inside.turn.about.object c.close-state.result.1 c.close-state.result.0 c.close-state.ensures.legal in
    let few : length c.into_entries-entries.result.items ≤ 1000000 = subst (λ (log : History). length log ≤ 1000000) (sym c.into_entries-entries.ensures) h.few in
    first_of (search rules, grind (arith, common_steps))

pub returns-clause-supply : goal.returns-clause-supply
returns-clause-supply c =
    let h = is_history c.self.inside.turn.about.object c.close-state.result.1 c.close-state.result.0 c.close-state.ensures.legal in
    ap (λ (b : OrderBook). b.supply) c.in-Some.ensures.value ∙ c.into_supply.ensures ∙ ap (λ (b : BookState). b.supply) h.left ∙ ap supply_at c.self.view_is

pub returns-clause-few : goal.returns-clause-few
returns-clause-few c =
    let h = is_history c.self.inside.turn.about.object c.close-state.result.1 c.close-state.result.0 c.close-state.ensures.legal in
    let entries : c.in-Some.history.entries ≡ c.close-state.result.1 = ap (λ (b : OrderBook). b.entries) c.in-Some.ensures.value ∙ c.into_entries-entries.ensures in
    subst (λ (log : History). length log ≤ 1000000) (sym entries) h.few

pub returns-clause-seen : goal.returns-clause-seen
returns-clause-seen c =
    let entries : c.in-Some.history.entries ≡ c.close-state.result.1 = ap (λ (b : OrderBook). b.entries) c.in-Some.ensures.value ∙ c.into_entries-entries.ensures in
    subst (λ (log : History). All (λ d. StartsWith log d.seen) c.args.desks.items) (sym entries) c.close-state.ensures.seen

pub returns-clause-callers : goal.returns-clause-callers
returns-clause-callers c =
    let entries : c.in-Some.history.entries ≡ c.close-state.result.1 = ap (λ (b : OrderBook). b.entries) c.in-Some.ensures.value ∙ c.into_entries-entries.ensures in
    subst (λ (log : History). All (λ e. HasNumber c.args.desks.items e.who) log) (sym entries) c.close-state.ensures.callers

pub close-state-requires-clause-all : goal.close-state-requires-clause-all
close-state-requires-clause-all c = rw c.self.view_is c.requires.all
