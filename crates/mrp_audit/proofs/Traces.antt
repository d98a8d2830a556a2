-- The claims of a history, entry by entry.
use Rattle.std.proofs.Common.{◌≡◌, ◌∙◌, ℕ, ◌+◌, ◌<◌, ◌≤◌, List, [], ◌∷◌, ◌++◌, length, take, drop, get_or, Result, Ok, Err, sym, ap, subst}
use Rattle.std.proofs.lemmas.List.{take_more, take_all, drop_more, take-append-drop, map-append, length-map, length-take-le}
use Rattle.std.specs.Prelude.{map, ⊤}
use Rattle.mrp_turn.specs.declared.log.Entry.{Entry}
use Rattle.mrp_turn.specs.Log.{entry}
use Rattle.mrp_tables.specs.Tables.{Tables}
use Rattle.mrp_master.specs.Supply.{Supply, supply_of}
use Rattle.mrp_book.specs.declared.call.Call.{Call}
use Rattle.mrp_book.specs.declared.call.Call.TheVariants as call
use Rattle.mrp_book.specs.declared.reply.Reply.{Reply}
use Rattle.mrp_book.specs.Books.{OrderBook}
use Rattle.mrp_book.specs.Standing.{History}
use Rattle.mrp_book.specs.History.{Fits, IsLegal, IsReply, next_number}
use Rattle.mrp_book.proofs.Histories.{reply-unique}
use Rattle.mrp_claims.specs.declared.claim.Claim.{Claim}
use Rattle.mrp_claims.specs.declared.claim.ClaimedReply.{ClaimedReply}
use Rattle.mrp_claims.specs.Claims.{IsScripted, claim_of, claimed}
use Rattle.mrp_audit.specs.declared.fault.AuditFault.{AuditFault}
use Rattle.mrp_audit.specs.declared.fault.AuditFault.TheVariants as fault
use Rattle.mrp_audit.specs.Parts.{FollowsClaims, IsClaimJudged, Retraces}
use Rattle.mrp_audit.specs.Verdict.{IsFirstFalse, IsToldBy}

-- a call of a script fits the order book
pub scripted-fits : (t : Tables) (c : Call) → IsScripted t c → Fits (supply_of t) c
scripted-fits t (call.Book l) is = is
scripted-fits t (call.Cancel n) is = tt
scripted-fits t (call.Ask p) is = is
scripted-fits t (call.When w) is = is
scripted-fits t call.Snapshot is = tt
scripted-fits t call.Front is = tt

-- another reply than the one that is made is not decided by the entries before it
pub other-false : (s : Supply) (h : History) (claim : Claim) (r : Reply) → IsReply s h claim.desk claim.call r → (claimed r ≡ claim.reply → ⊥) → (q : Reply) → IsReply s h claim.desk claim.call q → claimed q ≡ claim.reply → ⊥
other-false s h claim r made differs q other same = differs (ap claimed (reply-unique s h claim.desk claim.call r q made other) ∙ same)

-- the judgement of a claim whose call the book answered is right
pub claim-judged : (old : OrderBook) (claim : Claim) (number : ℕ) (r : Reply) (new : OrderBook) (judged : Result ⊤ AuditFault) → IsLegal old.supply old.entries → number ≡ next_number old.entries → IsReply old.supply old.entries claim.desk claim.call r
    → new ≡ record { supply = old.supply; entries = old.entries ++ entry claim.desk claim.call r ∷ [] } → IsClaimJudged number r claim.reply judged → Retraces old claim judged new
claim-judged old claim number r new (Ok done) legal is made adds same = (entry claim.desk claim.call r, ap (λ (x : ClaimedReply). record { desk = claim.desk; call = claim.call; reply = x }) same, adds)
claim-judged old claim number r new (Err f) legal is made adds (told, differs) =
    subst (λ (x : AuditFault). Retraces old claim (Err x) new) (sym told) (is, legal, other-false old.supply old.entries claim r made differs)

-- so many entries as claims
pub traced-few : (h : History) (claims : List Claim) (k : ℕ) → map claim_of h ≡ take k claims → k ≤ length claims → length h ≡ k
traced-few h claims k same within = sym (length-map h claim_of) ∙ ap (length {A = Claim}) same ∙ length-take-le k claims within

-- one more claim is traced
pub traced-more : (old : History) (e : Entry Call Reply) (new : History) (claims : List Claim) (k : ℕ) (claim : Claim) → map claim_of old ≡ take k claims → claim_of e ≡ claim → new ≡ old ++ e ∷ []
    → k < length claims → claim ≡ get_or claims k claim → map claim_of new ≡ take (k + 1) claims
traced-more old e new claims k claim before made adds within is =
    ap (map claim_of) adds ∙ map-append claim_of old (e ∷ []) ∙ ap (λ (r : List Claim). r ++ claim_of e ∷ []) before
    ∙ ap (λ (c : Claim). take k claims ++ c ∷ []) (made ∙ is) ∙ sym (take_more claims k claim within)

-- the next claim is false
pub traced-false : (t : Tables) (h : History) (claims : List Claim) (k number : ℕ) (claim : Claim) → IsLegal (supply_of t) h → map claim_of h ≡ take k claims → k < length claims → claim ≡ get_or claims k claim → number ≡ next_number h
    → ((r : Reply) → IsReply (supply_of t) h claim.desk claim.call r → claimed r ≡ claim.reply → ⊥) → IsFirstFalse t claims number
traced-false t h claims k number claim legal before within is number_is other = record {
  before = h;
  claim = claim;
  after = drop (k + 1) claims;
  place = sym (take-append-drop k claims) ∙ ap (λ (r : List Claim). take k claims ++ r) (drop_more claims k claim within ∙ ap (λ (c : Claim). c ∷ drop (k + 1) claims) (sym is))
      ∙ ap (λ (r : List Claim). r ++ claim ∷ drop (k + 1) claims) (sym before);
  number_is = number_is;
  legal = legal;
  refuted = other;
}

-- all claims are traced
pub traced-all : (h : History) (claims : List Claim) (k : ℕ) → map claim_of h ≡ take k claims → length claims ≤ k → map claim_of h ≡ claims
traced-all h claims k before all = before ∙ take_all k claims all

-- what refuses a claim refuses the claims
pub claims-refused : (t : Tables) (book new : OrderBook) (claims : List Claim) (k : ℕ) (claim : Claim) (f : AuditFault) → book.supply ≡ supply_of t → map claim_of book.entries ≡ take k claims → k < length claims → claim ≡ get_or claims k claim
    → Retraces book claim (Err f) new → FollowsClaims t claims (Err f)
claims-refused t book new claims k claim (fault.HistoryNotLegal entry) supply before within is (number, legal, other) =
    traced-false t book.entries claims k entry claim (subst (λ (s : Supply). IsLegal s book.entries) supply legal) before within is number
    (subst (λ (s : Supply). (r : Reply) → IsReply s book.entries claim.desk claim.call r → claimed r ≡ claim.reply → ⊥) supply other)
claims-refused t book new claims k claim fault.NoMemory supply before within is refused = tt
claims-refused t book new claims k claim fault.Shape supply before within is refused = refused
claims-refused t book new claims k claim (fault.Input f) supply before within is refused = refused
claims-refused t book new claims k claim (fault.DeskRows desk) supply before within is refused = refused
claims-refused t book new claims k claim (fault.ReportDiffers run) supply before within is refused = refused

-- the history that makes all claims
pub claims-followed : (t : Tables) (book h : OrderBook) (seen : History) (claims : List Claim) (k : ℕ) → h ≡ book → book.supply ≡ supply_of t → map claim_of book.entries ≡ take k claims → length claims ≤ k
    → seen ≡ h.entries → IsLegal h.supply seen → (h.supply ≡ supply_of t) × IsToldBy t h.entries claims
claims-followed t book h seen claims k is supply before all same legal =
    let own : h.supply ≡ supply_of t = ap (λ (b : OrderBook). b.supply) is ∙ supply in (
      own,
      record {
        legal = subst (λ (s : Supply). IsLegal s h.entries) own (subst (IsLegal h.supply) same legal);
        told = ap (λ (b : OrderBook). map claim_of b.entries) is ∙ traced-all book.entries claims k before all;
      },
    )
