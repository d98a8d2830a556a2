-- A core's answers to events, in order.
use Rattle.std.proofs.Common.{◌≡◌, ◌∙◌, ◌<◌, ◌≤◌, ◌+◌, ℕ, List, [], ◌∷◌, ◌++◌, length, take, get_or, refl, sym, ap, subst, arith}
use Rattle.std.proofs.lemmas.List.{take_all, take_more, length-append}
use Rattle.std.specs.Prelude.{All, zip}
use Rattle.mrp_turn.proofs.Logs.{EachFollows-more, EachFollows-nil}
use Rattle.mrp_tables.specs.Tables.{AreTables, Tables}
use Rattle.mrp_bill.specs.Shop.{IsShop, Shop}
use Rattle.mrp_engine.specs.declared.event_core.event.Event.{Event}
use Rattle.mrp_engine.specs.declared.event_core.event.Answer.{Answer}
use Rattle.mrp_engine.specs.event_core.Core.{Core, FitsShop, IsAnswer, IsRight, MayFollowSteps, Step, after, core_of, opened}
use Rattle.mrp_engine.specs.event_core.Headline.{IsAcceptedShop, RunsRight}
use Rattle.mrp_engine.proofs.lemmas.event_core.CoreLaws.{core-none, core-one, tables-stay}
use Rattle.mrp_engine.proofs.lemmas.event_core.Headlines.{headline}

zip-last : {X Y : Type 0} (xs : List X) (ys : List Y) (x : X) (y : Y) → length xs ≡ length ys → zip (xs ++ x ∷ []) (ys ++ y ∷ []) ≡ zip xs ys ++ (x, y) ∷ []
zip-last [] [] x y e = refl
zip-last [] (b ∷ ys) x y e = absurd (omega (arith, e))
zip-last (a ∷ xs) [] x y e = absurd (omega (arith, e))
zip-last (a ∷ xs) (b ∷ ys) x y e = ap (λ l. (a, b) ∷ l) (zip-last xs ys x y (omega (arith, e)))

-- the core and the answers after some of the events
pub record HasAnswered (tables : Tables) (events : List Event) (answers : List Answer) (core : Core) : Type 0 where
  pub each : length answers ≡ length events
  pub right : IsRight tables (zip events answers)
  pub core_is : core ≡ core_of tables (zip events answers)

pub answered-none : (tables : Tables) (core : Core) → core ≡ opened tables → HasAnswered tables [] [] core
answered-none tables core is = record { each = refl; right = EachFollows-nil (MayFollowSteps tables); core_is = is ∙ sym (core-none (opened tables)) }

pub answered-more : (tables : Tables) (events : List Event) (answers : List Answer) (core new : Core) (e : Event) (a : Answer) → HasAnswered tables events answers core
    → FitsShop tables e → IsAnswer core e a → new ≡ after core e a → HasAnswered tables (events ++ e ∷ []) (answers ++ a ∷ []) new
answered-more tables events answers core new e a has fits is now =
    let steps : List Step = zip events answers in
    let last : zip (events ++ e ∷ []) (answers ++ a ∷ []) ≡ steps ++ (e, a) ∷ [] = zip-last events answers e a (sym has.each) in
    record {
      each = length-append answers (a ∷ []) ∙ ap (λ (n : ℕ). n + 1) has.each ∙ sym (length-append events (e ∷ []));
      right = subst (λ (l : List Step). IsRight tables l) (sym last)
          (EachFollows-more (MayFollowSteps tables) steps (e, a) has.right (fits, subst (λ (c : Core). IsAnswer c e a) has.core_is is));
      core_is = now ∙ ap (λ (c : Core). after c e a) has.core_is ∙ sym (core-one tables steps (e, a)) ∙ ap (core_of tables) (sym last);
    }

-- the event at a place is of the core's shop
pub fits-core : (tables : Tables) (events : List Event) (answers : List Answer) (core : Core) (e : Event) → HasAnswered tables events answers core → FitsShop tables e → FitsShop core.tables e
fits-core tables events answers core e has fits =
    subst (λ (t : Tables). FitsShop t e) (sym (ap (λ (c : Core). c.tables) has.core_is ∙ tables-stay tables (zip events answers))) fits

pub answered-all : (shop : Shop) (events : List Event) (answers : List Answer) (core : Core) → IsAcceptedShop shop → HasAnswered shop.tables events answers core → RunsRight shop.tables events answers
answered-all shop events answers core kept has = record { each = has.each; right = has.right; headline = headline shop kept (zip events answers) has.right }

pub event-fits : (tables : Tables) (events : List Event) (k : ℕ) (e : Event) → All (FitsShop tables) events → k < length events → e ≡ get_or events k e → FitsShop tables e
event-fits tables events k e all within at = subst (λ (x : Event). FitsShop tables x) (sym at) (all k e within)

-- one event more is answered
pub step-more : (tables : Tables) (events : List Event) (k : ℕ) (answers more : List Answer) (core new : Core) (e : Event) (a : Answer) → All (FitsShop tables) events → k < length events → e ≡ get_or events k e
    → HasAnswered tables (take k events) answers core → IsAnswer core e a → new ≡ after core e a → more ≡ answers ++ a ∷ [] → HasAnswered tables (take (k + 1) events) more new
step-more tables events k answers more core new e a fit within at has is now adds =
    subst (λ (l : List Answer). HasAnswered tables (take (k + 1) events) l new) (sym adds)
    (subst (λ (l : List Event). HasAnswered tables l (answers ++ a ∷ []) new) (sym (take_more events k e within ∙ ap (λ (x : Event). take k events ++ x ∷ []) (sym at)))
    (answered-more tables (take k events) answers core new e a has (event-fits tables events k e fit within at) is now))

pub all-answered : (shop : Shop) (events : List Event) (k : ℕ) (answers : List Answer) (core : Core) → IsAcceptedShop shop → length events ≤ k → HasAnswered shop.tables (take k events) answers core → RunsRight shop.tables events answers
all-answered shop events k answers core kept past has = answered-all shop events answers core kept (subst (λ (l : List Event). HasAnswered shop.tables l answers core) (take_all k events past) has)

pub accepted-shop : (shop : Shop) (tables : Tables) → IsShop shop → tables ≡ shop.tables → AreTables tables → IsAcceptedShop shop
accepted-shop shop tables is same kept = record { accepted = is; tables = subst AreTables same kept }
