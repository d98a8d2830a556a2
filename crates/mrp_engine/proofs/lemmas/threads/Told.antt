-- What running threads leave is the answers of a right list of events.
use Rattle.std.proofs.Common.{◌≡◌, ◌∙◌, ℕ, List, [], ◌∷◌, ◌++◌, map, inl, refl, sym, ap, subst, arith}
use Rattle.std.proofs.lemmas.List.{append-nil}
use Rattle.std.proofs.lemmas.List.Elements.{All-head, All-tail}
use Rattle.std.specs.Prelude.{All}
use Rattle.mrp_turn.proofs.Logs.{EachFollows-more, InTurn-from_Each, one_more}
use Rattle.mrp_tables.specs.Tables.{Tables}
use Rattle.mrp_bill.specs.Shop.{Shop}
use Rattle.mrp_master.specs.Supply.{supply_of}
use Rattle.mrp_book.specs.Standing.{History}
use Rattle.mrp_book.specs.History.{MayFollow}
use Rattle.mrp_engine.specs.declared.event_core.event.Event.TheVariants as event
use Rattle.mrp_engine.specs.declared.event_core.event.Answer.{Answer}
use Rattle.mrp_engine.specs.event_core.Core.{Core, IsAnswer, IsRight, MayFollowSteps, Run, Step, after, core_of}
use Rattle.mrp_engine.specs.event_core.Headline.{IsAcceptedShop}
use Rattle.mrp_engine.specs.event_core.Threads.{AreLeft, AreReported, AreTold, IsReportOf, book_steps, core_left, steps_of, write_steps}
use Rattle.mrp_engine.proofs.lemmas.event_core.CoreLaws.{core-one}
use Rattle.mrp_engine.proofs.lemmas.event_core.Headlines.{headline}
use Rattle.mrp_engine.proofs.lemmas.threads.Entries.{Reaches, begun, book-goes, core_at, reaches-none}
use Rattle.mrp_engine.proofs.lemmas.threads.Starts.{SnapshotIn, snapshot-in, start-in}
use Rattle.mrp_engine.proofs.lemmas.threads.Boards.{logs-go}

pub left-told : (tables : Tables) (h : History) (runs : List Run) → AreLeft tables h runs → AreTold tables h runs
left-told tables h runs left =
    let fronts : All (λ (r : Run). SnapshotIn 1 h r.front) runs = (λ k d within. snapshot-in h _ (left.each k d within).snapshot) in
    let book : Reaches tables (book_steps 1 1 h runs) (core_at tables h (map begun runs)) =
    book-goes tables 1 1 h runs (start-in 1 h runs left.rise fronts) [] [] [] refl refl (reaches-none tables) (InTurn-from_Each (MayFollow (supply_of tables)) [] h left.legal) (omega (arith, left.within)) in
    let all : Reaches tables (steps_of h runs) (core_at tables h runs) = logs-go tables h runs 1 (book_steps 1 1 h runs) [] refl book left.each in
    record { kept = all.kept; right = all.right; core_is = all.core_is }

-- reports may follow
written : (tables : Tables) (h : History) (runs : List Run) (steps : List Step) (reports : List (ℕ × Answer)) → IsRight tables steps → core_of tables steps ≡ core_left tables h runs → All (IsReportOf tables h runs) reports
    → IsRight tables (steps ++ write_steps reports) × (core_of tables (steps ++ write_steps reports) ≡ core_left tables h runs)
written tables h runs steps [] right is all = (subst (λ (l : List Step). IsRight tables l) (sym (append-nil steps)) right, ap (core_of tables) (append-nil steps) ∙ is)
written tables h runs steps (w ∷ reports) right is all =
    let x : Step = (event.Write w.0, w.1) in
    let here : IsReportOf tables h runs w = All-head (IsReportOf tables h runs) w reports all in
    let more : IsRight tables (steps ++ x ∷ []) =
    EachFollows-more (MayFollowSteps tables) steps x right (tt, subst (λ (c : Core). IsAnswer c x.0 x.1) (sym is) (inl ((here.started, here.finished), here.report))) in
    subst (λ (l : List Step). IsRight tables l × (core_of tables l ≡ core_left tables h runs)) (sym (one_more steps x (write_steps reports)))
    (written tables h runs (steps ++ x ∷ []) reports more (core-one tables steps x ∙ ap (λ (c : Core). after c x.0 x.1) is) (All-tail (IsReportOf tables h runs) w reports all))

-- and the headline holds of the whole
pub left-reported : (shop : Shop) (h : History) (runs : List Run) (reports : List (ℕ × Answer)) → IsAcceptedShop shop → AreLeft shop.tables h runs → All (IsReportOf shop.tables h runs) reports → AreReported shop h runs reports
left-reported shop h runs reports accepted left all =
    let told = left-told shop.tables h runs left in
    let more = written shop.tables h runs (steps_of h runs) reports told.right told.core_is all in
    record { right = more.0; core_is = more.1; headline = headline shop accepted (steps_of h runs ++ write_steps reports) more.0 }
