-- A history, read record by record.
use Rattle.std.proofs.Common.{◌≡◌, ◌∙◌, ℕ, ◌+◌, ◌<◌, ◌≤◌, ◌^◌, List, [], ◌∷◌, ◌++◌, length, drop, Err, sym, ap, subst, arith, append_assoc, length-append}
use Rattle.std.specs.Prelude.{All}
use Rattle.std.proofs.lemmas.List.{append-nil, append_cancel_left, drop-drop, length-drop}
use Rattle.std.proofs.lemmas.List.Elements.{All-push}
use Rattle.mrp_tables.specs.Tables.{Tables}
use Rattle.mrp_report.specs.section.HistoryText.{history_head}
use Rattle.mrp_claims.specs.declared.claim.Claim.{Claim}
use Rattle.mrp_audit.specs.declared.fault.AuditFault.{AuditFault}
use Rattle.mrp_audit.specs.declared.fault.AuditFault.TheVariants as fault
use Rattle.mrp_claims.specs.Claims.{IsClaim, claim_text, claims_from, claims_text}
use Rattle.mrp_audit.specs.Reading.{ReadsHistory, TakesClaim}
use Rattle.mrp_claims.specs.Shape.{BeginsWith, EndsHistory, HasShape}
use Rattle.mrp_claims.proofs.ClaimTexts.{claims-push, follows}

-- a text begins with these claims, which are so many bytes
pub record HasRead (t : Tables) (text : List ℕ) (claims : List Claim) (number len : ℕ) : Type 0 where
  pub within : len ≤ length text
  pub spelled : text ≡ claims_text t claims ++ drop len text
  pub next : number ≡ length claims + 1
  pub each : All (IsClaim t) claims

no-claims : (t : Tables) → All (IsClaim t) []
no-claims t k d within = absurd (omega (arith, within))

-- none are read yet
pub read-none : (t : Tables) (text front : List ℕ) → front ≡ history_head → length front ≤ length text
    → text ≡ front ++ drop (length front) text → HasRead t text [] 1 (length front)
read-none t text front is within begins = record {
  within = within;
  spelled = begins ∙ ap (λ (x : List ℕ). x ++ drop (length front) text) (is ∙ sym (append-nil history_head));
  next = omega arith;
  each = no-claims t;
}

-- one more is read
pub read-more : (t : Tables) (text left : List ℕ) (old new : List Claim) (c : Claim) (number len taken : ℕ) → HasRead t text old number len → left ≡ drop len text → IsClaim t c → taken ≤ length left → left ≡ claim_text t (number, c) ++ drop taken left
    → new ≡ old ++ c ∷ [] → HasRead t text new (number + 1) (len + taken)
read-more t text left old new c number len taken before cut is few begins adds =
    let size = length-drop len text in
    let cuts = ap (length {A = ℕ}) cut in
    let within = before.within in
    let next = before.next in
    let here : number ≡ 1 + length old = omega (arith, next) in
    let rest : drop taken left ≡ drop (len + taken) text = ap (drop taken) cut ∙ drop-drop taken len text in
    let pushed : claims_text t new ≡ claims_text t old ++ claim_text t (number, c) =
    ap (claims_text t) adds ∙ ap (λ (x : List ℕ). history_head ++ x) (claims-push t 1 old c ∙ ap (λ (n : ℕ). claims_from t 1 old ++ claim_text t (n, c)) (sym here))
    ∙ sym (append_assoc history_head (claims_from t 1 old) (claim_text t (number, c))) in
    let grown = ap (length {A = Claim}) adds ∙ length-append old (c ∷ []) in
    record {
      within = omega (arith, size, cuts, within, few);
      spelled = before.spelled ∙ ap (λ (x : List ℕ). claims_text t old ++ x) (sym cut ∙ begins ∙ ap (λ (x : List ℕ). claim_text t (number, c) ++ x) rest)
          ∙ sym (append_assoc (claims_text t old) (claim_text t (number, c)) (drop (len + taken) text))
          ∙ ap (λ (x : List ℕ). x ++ drop (len + taken) text) (sym pushed);
      next = omega (arith, next, grown);
      each = subst (All (IsClaim t)) (sym adds) (All-push (IsClaim t) old c before.each is);
    }

-- a history that ends here
pub read-whole : (t : Tables) (text left : List ℕ) (claims : List Claim) (number len : ℕ) → HasRead t text claims number len → number ≤ 1000001 → left ≡ drop len text → EndsHistory left → (len ≤ length text) × BeginsWith t text claims (drop len text)
read-whole t text left claims number len before few cut ends =
    let next = before.next in (
      before.within,
      record {
        spelled = before.spelled;
        ends = subst EndsHistory cut ends;
        few = omega (arith, next, few);
        each = before.each;
      },
    )

-- a history that neither ends here nor has a next claim has no shape
pub not-shaped : (t : Tables) (text left : List ℕ) (claims : List Claim) (number len : ℕ) → HasRead t text claims number len → number < 2 ^ 63 → left ≡ drop len text → (EndsHistory left → ⊥)
    → ((c : Claim) (rest : List ℕ) (count : ℕ) → IsClaim t c → left ≡ claim_text t (number, c) ++ rest → number ≤ count → count ≤ 1000000 → ⊥) → HasShape t text → ⊥
not-shaped t text left claims number len before fits cut goes-on none (theirs, rest, begins) =
    let next = before.next in
    let ours : text ≡ history_head ++ (claims_from t 1 claims ++ left) = before.spelled ∙ append_assoc history_head (claims_from t 1 claims) (drop len text) ∙ ap (λ (x : List ℕ). history_head ++ (claims_from t 1 claims ++ x)) (sym cut) in
    let other : text ≡ history_head ++ (claims_from t 1 theirs ++ rest) = begins.spelled ∙ append_assoc history_head (claims_from t 1 theirs) rest in
    let same = append_cancel_left history_head (claims_from t 1 claims ++ left) (claims_from t 1 theirs ++ rest) (sym ours ∙ other) in
    let left-is = follows t 1 claims theirs left rest (omega (arith, next, fits)) begins.each begins.ends same in
    let here : 1 + length claims ≡ number = omega (arith, next) in
    by left-is.more (left-is.spelled ∙ ap (λ (n : ℕ). claims_from t n left-is.more ++ rest) here) left-is.each (length theirs) begins.few (let count = left-is.count in omega (arith, count, next)) begins.ends
  where
    by : (more : List Claim) → left ≡ claims_from t number more ++ rest → All (IsClaim t) more → (count : ℕ) → count ≤ 1000000 → count + 1 ≡ number + length more → EndsHistory rest → ⊥
    by [] is each count few counts ends = goes-on (subst EndsHistory (sym is) ends)
    by (c ∷ more) is each count few counts ends =
        none c (claims_from t (number + 1) more ++ rest) count (each 0 c (omega arith)) (is ∙ append_assoc (claim_text t (number, c)) (claims_from t (number + 1) more) rest) (omega (arith, counts)) few

-- what refuses a record refuses the history
pub shape-refused : (t : Tables) (text left : List ℕ) (claims : List Claim) (number len : ℕ) (f : AuditFault) → HasRead t text claims number len → number < 2 ^ 63 → left ≡ drop len text → (EndsHistory left → ⊥)
    → TakesClaim t number left (Err f) → ReadsHistory t text (Err f)
shape-refused t text left claims number len fault.Shape before fits cut goes-on none = not-shaped t text left claims number len before fits cut goes-on (λ c rest count is spelled more few. none c rest is spelled)
shape-refused t text left claims number len fault.NoMemory before fits cut goes-on none = tt
shape-refused t text left claims number len (fault.Input f) before fits cut goes-on none = none
shape-refused t text left claims number len (fault.HistoryNotLegal entry) before fits cut goes-on none = none
shape-refused t text left claims number len (fault.DeskRows desk) before fits cut goes-on none = none
shape-refused t text left claims number len (fault.ReportDiffers run) before fits cut goes-on none = none

-- a text that does not begin with the head has no shape
pub headless : (t : Tables) (text front : List ℕ) → front ≡ history_head → ((rest : List ℕ) → text ≡ front ++ rest → ⊥) → HasShape t text → ⊥
headless t text front is none (theirs, rest, begins) =
    none (claims_from t 1 theirs ++ rest) (begins.spelled ∙ append_assoc history_head (claims_from t 1 theirs) rest ∙ ap (λ (x : List ℕ). x ++ (claims_from t 1 theirs ++ rest)) (sym is))
