-- How a page ends, by the result of writing it.
use Rattle.mrp_rows.specs.declared.fault.Fault.{Fault}
use Rattle.mrp_rows.specs.declared.faults.TheConstants as faults
use Rattle.mrp_facts.specs.Facts.{Facts}
use Rattle.mrp_script.specs.Opened.{IsRefused, Opens}
use Rattle.mrp_script.specs.declared.fault.OpenFault.{OpenFault}
use Rattle.mrp_script.specs.declared.fault.OpenFault.TheVariants as opening
use Rattle.mrp_commands.specs.Refusal.{TellsFault, TellsOpening}
use Rattle.std.proofs.Common.{◌≡◌, ◌≢◌, ◌⊎◌, ℕ, inl, inr, false, List, Option, Some, Result, Ok, Err, refl, sym, subst}
use Rattle.std.specs.Prelude.{OnOk, IfErr, MatchResult, option_map, string_bytes}
use Rattle.std.specs.Io.KnownBytes.{Appends}
use Rattle.mrp_rows.specs.declared.told.Told.{Told}
use Rattle.mrp_rows.specs.Streams.{WritesFront}
use Rattle.mrp_rows.specs.Told.{inner_of}
use Rattle.mrp_report.specs.Written.{HasGivenUp, HasGoneOn}
use Rattle.mrp_page.specs.Reading.{HasStopped, IsNoDay, is_write_fault}
use Rattle.mrp_page.specs.declared.fault.PageFault.{PageFault}
use Rattle.mrp_page.specs.declared.fault.PageFault.TheVariants as fault
use Rattle.mrp_words.specs.declared.page_words.PageWords.{PageWords}
use Rattle.mrp_commands.specs.declared.ending.Ending.{Ending}
use Rattle.mrp_commands.specs.declared.ending.Ending.TheVariants.{Done, NoMemory}
use Rattle.mrp_page.specs.Spot.{Names}
use Rattle.mrp_page.specs.Written.{IsPageOf}
use Rattle.mrp_commands.specs.PageEnds.{AreAsked, IsOfOthersBy, IsPageBy, LacksRunBy, PageEnds, end_of, title_of}

-- what writing a page leaves
pub record IsPageLeft {R W X : Type 0} (words : PageWords) (tables : Option Facts) (remaining : R → Option (List ℕ)) (contents : W → Option (List ℕ)) (input read : Told R) (output written : Told W) (page : Result X PageFault) : Type 0 where
  pub whole : OnOk page ((text : List ℕ) → remaining (inner_of input) ≡ Some text → IsPageBy words tables text (λ whole. Appends (contents (inner_of output)) (contents (inner_of written)) whole))
  pub gone_on : OnOk page (HasGoneOn output written 1000000)
  pub wrong : page ≡ Err fault.Shape → (text : List ℕ) → remaining (inner_of input) ≡ Some text → IsNoDay text
  pub run : page ≡ Err fault.NoRun → (text : List ℕ) → remaining (inner_of input) ≡ Some text → LacksRunBy words text
  pub tables_are : page ≡ Err fault.Tables → (text : List ℕ) → remaining (inner_of input) ≡ Some text → IsOfOthersBy words tables text
  pub stopped : page ≡ Err fault.Read → HasStopped input read
  pub untouched : IfErr page (λ given. is_write_fault given ≡ false → written ≡ output)
  pub gave_up : page ≡ Err fault.Write → HasGivenUp output written 1000000
  pub front : page ≡ Err fault.Write → (text : List ℕ) → remaining (inner_of input) ≡ Some text → IsPageBy words tables text (λ whole. WritesFront (contents (inner_of output)) (contents (inner_of written)) whole)

-- the ending that is returned is its ending
pub page-ends : {R W X : Type 0} (words : PageWords) (tables : Option Facts) (remaining : R → Option (List ℕ)) (contents : W → Option (List ℕ)) (input read : Told R) (output written : Told W) (page : Result X PageFault) (end : Ending)
    → IsPageLeft words tables remaining contents input read output written page → MatchResult page (λ x. end ≡ Done) (λ given. end ≡ end_of given) → PageEnds words tables remaining contents input read output written end
page-ends words tables remaining contents input read output written (Ok x) end left is =
    subst (λ (e : Ending). PageEnds words tables remaining contents input read output written e) (sym is) (left.gone_on, left.whole)
page-ends words tables remaining contents input read output written (Err fault.Shape) end left is =
    subst (λ (e : Ending). PageEnds words tables remaining contents input read output written e) (sym is) (left.untouched refl, left.wrong refl)
page-ends words tables remaining contents input read output written (Err fault.Tables) end left is =
    subst (λ (e : Ending). PageEnds words tables remaining contents input read output written e) (sym is) (left.untouched refl, left.tables_are refl)
page-ends words tables remaining contents input read output written (Err fault.NoRun) end left is =
    subst (λ (e : Ending). PageEnds words tables remaining contents input read output written e) (sym is) (left.untouched refl, left.run refl)
page-ends words tables remaining contents input read output written (Err fault.NoMemory) end left is =
    subst (λ (e : Ending). PageEnds words tables remaining contents input read output written e) (sym is) (left.untouched refl)
page-ends words tables remaining contents input read output written (Err fault.Read) end left is =
    subst (λ (e : Ending). PageEnds words tables remaining contents input read output written e) (sym is) (left.untouched refl, left.stopped refl)
page-ends words tables remaining contents input read output written (Err fault.Write) end left is =
    subst (λ (e : Ending). PageEnds words tables remaining contents input read output written e) (sym is) (left.gave_up refl, left.front refl)

-- a page of this title and these names is the one that is asked for
pub page-by : (words : PageWords) (tables : Option Facts) (names : Names) (title text : List ℕ) (P : List ℕ → Type 0) → title ≡ title_of (option_map string_bytes words.title) → AreAsked words names → IsPageOf title tables names words.run text P → IsPageBy words tables text P
page-by words tables names title text P titled asked page = (names, asked, subst (λ (t : List ℕ). IsPageOf t tables names words.run text P) titled page)

-- what holds at Ok, together
pub both-ok : {T E : Type 0} (r : Result T E) (A B : Type 0) → OnOk r A → OnOk r B → OnOk r (A × B)
both-ok (Ok x) A B a b = (a, b)
both-ok (Err e) A B a b = tt

-- why the shop of a bundle was not opened is reported
pub unopened : (bundle : List ℕ) (fault : OpenFault) (end : Ending) → Opens bundle (Err fault) → TellsOpening fault end → ((f : Fault) × IsRefused bundle f × (f.code ≢ faults.NO_MEMORY) × TellsFault f end) ⊎ (end ≡ NoMemory)
unopened bundle (opening.Refused f) end opens tells = inl (f, opens.0, opens.1, tells)
unopened bundle opening.NoMemory end opens tells = inr tells
