-- A bundle and the text of a day have one verdict.
use Rattle.std.proofs.Common.{◌≡◌, ◌∙◌, ℕ, ◌+◌, ◌<◌, Result, Ok, Err, List, [], ◌∷◌, ◌++◌, length, sym, ap, ap₂, subst, refl, arith, append_assoc, inl, inr}
use Rattle.std.specs.Prelude.{map, ⊤, ◌⊎◌}
use Rattle.std.proofs.lemmas.Bool.{cases_order}
use Rattle.std.proofs.lemmas.List.{append_cancel_left, length-map}
use Rattle.std.proofs.lemmas.List.Concat.{flat_map-append}
use Rattle.mrp_tables.specs.Tables.{Tables}
use Rattle.mrp_master.specs.Supply.{supply_of}
use Rattle.mrp_book.specs.Standing.{History}
use Rattle.mrp_item.specs.Inputs.{Inputs}
use Rattle.mrp_engine.specs.day.Day.{runs_of}
use Rattle.mrp_script.specs.Opened.{IsAccepted, Opens}
use Rattle.mrp_engine.specs.day.RightDay.{run_report}
use Rattle.mrp_script.proofs.OneOpening.{accepted-not-refused, one-fault, same-tables}
use Rattle.mrp_claims.specs.declared.claim.Claim.{Claim}
use Rattle.mrp_audit.specs.declared.fault.AuditFault.{AuditFault}
use Rattle.mrp_audit.specs.declared.fault.AuditFault.TheVariants as fault
use Rattle.mrp_claims.specs.Claims.{claim_of}
use Rattle.mrp_audit.specs.Kept.{KeepsLimits}
use Rattle.mrp_claims.specs.Shape.{BeginsWith}
use Rattle.mrp_script.specs.declared.fault.OpenFault.{OpenFault}
use Rattle.mrp_script.specs.declared.fault.OpenFault.TheVariants as opening
use Rattle.mrp_audit.specs.Input.{input_fault}
use Rattle.mrp_audit.specs.Verdict.{HasHistory, HasMore, IsFirstDesk, IsFirstFalse, IsFirstMissing, IsVerdict, IsWrong, Judges, JudgesText, reports_text}
use Rattle.mrp_audit.proofs.OneHistory.{begins-once}
use Rattle.mrp_audit.proofs.RightTexts.{none-false, right-passes, text-passes, told-once}

-- of two prefixes of a list the shorter is a prefix of the longer
cut-before : {A : Type 0} (xs : List A) (c : A) (ys zs rest : List A) → xs ++ c ∷ ys ≡ zs ++ rest → length xs < length zs → (more : List A) × (zs ≡ xs ++ c ∷ more)
cut-before xs c ys [] rest same short = absurd (omega (arith, short))
cut-before [] c ys (z ∷ zs) rest same short =
    let one : z ≡ c = cc in
    (zs, ap (λ y. y ∷ zs) one)
cut-before (x ∷ xs) c ys (z ∷ zs) rest same short =
    let one : z ≡ x = cc in
    let tail : xs ++ c ∷ ys ≡ zs ++ rest = cc in
    let found = cut-before xs c ys zs rest tail (omega (arith, short)) in
    (found.0, ap₂ (λ y ws. y ∷ ws) one found.1)

-- no claim before a false one is false
earlier-false : (t : Tables) (claims : List Claim) (n m : ℕ) (a : IsFirstFalse t claims n) (b : IsFirstFalse t claims m) → length a.before < length b.before → ⊥
earlier-false t claims n m a b short =
    let ours = length-map a.before claim_of in
    let theirs = length-map b.before claim_of in
    let cut = cut-before (map claim_of a.before) a.claim a.after (map claim_of b.before) (b.claim ∷ b.after) (sym a.place ∙ b.place) (omega (arith, ours, theirs, short)) in
    none-false t b.before (map claim_of a.before ++ a.claim ∷ cut.0) n b.legal cut.1
    (record { before = a.before; claim = a.claim; after = cut.0; place = refl; number_is = a.number_is; legal = a.legal; refuted = a.refuted })

same-false : (t : Tables) (claims : List Claim) (n m : ℕ) → IsFirstFalse t claims n → IsFirstFalse t claims m → n ≡ m
same-false t claims n m a b =
    let ours = a.number_is in
    let theirs = b.number_is in
    elim (cases_order (length a.before) (length b.before)) [
      | inl same ↦ ours ∙ ap (λ k. k + 1) same ∙ sym theirs
      | inr (inl before) ↦ absurd (earlier-false t claims n m a b before)
      | inr (inr after) ↦ absurd (earlier-false t claims m n b a after)
    ]

same-desk : (t : Tables) (h : History) (d e : ℕ) → IsFirstDesk t h d → IsFirstDesk t h e → d ≡ e
same-desk t h d e a b = elim (cases_order d e) [ inl same ↦ same | inr (inl before) ↦ absurd (a.differs (b.least d before)) | inr (inr after) ↦ absurd (b.differs (a.least e after)) ]

-- a report that is missing is not there
missing-not : (runs : List Inputs) (text : List ℕ) (n : ℕ) (a : IsFirstMissing runs text n) (more : List Inputs) (left : List ℕ) → text ≡ reports_text (a.before ++ a.run ∷ more) ++ left → ⊥
missing-not runs text n a more left is =
    let whole : reports_text (a.before ++ a.run ∷ more) ≡ reports_text a.before ++ (run_report a.run ++ reports_text more) = flat_map-append run_report a.before (a.run ∷ more) in
    let all : text ≡ reports_text a.before ++ (run_report a.run ++ (reports_text more ++ left)) =
    is ∙ ap (λ (x : List ℕ). x ++ left) whole ∙ append_assoc (reports_text a.before) (run_report a.run ++ reports_text more) left
    ∙ ap (λ (x : List ℕ). reports_text a.before ++ x) (append_assoc (run_report a.run) (reports_text more) left) in
    a.missing (reports_text more ++ left) (append_cancel_left (reports_text a.before) _ _ (sym a.stand ∙ all))

earlier-missing : (runs : List Inputs) (text : List ℕ) (n m : ℕ) (a : IsFirstMissing runs text n) (b : IsFirstMissing runs text m) → length a.before < length b.before → ⊥
earlier-missing runs text n m a b short =
    let cut = cut-before a.before a.run a.after b.before (b.run ∷ b.after) (sym a.place ∙ b.place) short in
    missing-not runs text n a cut.0 b.left (b.stand ∙ ap (λ (x : List Inputs). reports_text x ++ b.left) cut.1)

missing-or-more : (runs : List Inputs) (text : List ℕ) (n m : ℕ) → IsFirstMissing runs text n → HasMore runs text m → ⊥
missing-or-more runs text n m a b = missing-not runs text n a a.after b.left (b.stand ∙ ap (λ (x : List Inputs). reports_text x ++ b.left) a.place)

same-run : (runs : List Inputs) (text : List ℕ) (n m : ℕ) → (IsFirstMissing runs text n ⊎ HasMore runs text n) → (IsFirstMissing runs text m ⊎ HasMore runs text m) → n ≡ m
same-run runs text n m (inl a) (inl b) =
    let ours = a.number_is in
    let theirs = b.number_is in
    elim (cases_order (length a.before) (length b.before)) [
      | inl same ↦ ours ∙ ap (λ k. k + 1) same ∙ sym theirs
      | inr (inl before) ↦ absurd (earlier-missing runs text n m a b before)
      | inr (inr after) ↦ absurd (earlier-missing runs text m n b a after)
    ]
same-run runs text n m (inl a) (inr b) = absurd (missing-or-more runs text n m a b)
same-run runs text n m (inr a) (inl b) = absurd (missing-or-more runs text m n b a)
same-run runs text n m (inr a) (inr b) = a.number_is ∙ sym b.number_is

-- a text begins with one legal history
same-history : (t : Tables) (text : List ℕ) (g h : History) (left rest : List ℕ) → KeepsLimits t → HasHistory t text g left → HasHistory t text h rest → (g ≡ h) × (left ≡ rest)
same-history t text g h left rest keeps one other =
    let once = begins-once t keeps text (map claim_of g) (map claim_of h) left rest one.0 other.0 in
    (told-once (supply_of t) g h one.1 other.1 once.0, once.1)

-- a text that begins with a legal history makes no false claim
legal-or-false : (t : Tables) (text : List ℕ) (claims : List Claim) (left : List ℕ) (n : ℕ) (h : History) (rest : List ℕ) → KeepsLimits t → BeginsWith t text claims left → IsFirstFalse t claims n → HasHistory t text h rest → ⊥
legal-or-false t text claims left n h rest keeps begins first has =
    let once = begins-once t keeps text (map claim_of h) claims rest left has.0 begins in
    none-false t h claims n has.1 once.0 first

-- one thing is wrong with a text
same-wrong : (t : Tables) (text : List ℕ) (f g : AuditFault) → KeepsLimits t → IsWrong t text f → IsWrong t text g → f ≡ g
same-wrong t text (fault.Input i) g keeps one other = absurd one
same-wrong t text fault.NoMemory g keeps one other = absurd one
same-wrong t text fault.Shape (fault.Input i) keeps one other = absurd other
same-wrong t text fault.Shape fault.NoMemory keeps one other = absurd other
same-wrong t text fault.Shape fault.Shape keeps one other = refl
same-wrong t text fault.Shape (fault.HistoryNotLegal m) keeps one (claims, rest, begins, first) = absurd (one (claims, rest, begins))
same-wrong t text fault.Shape (fault.DeskRows e) keeps one (h, rest, has, first) = absurd (one (map claim_of h, rest, has.0))
same-wrong t text fault.Shape (fault.ReportDiffers m) keeps one (h, rest, has, desks, found) = absurd (one (map claim_of h, rest, has.0))
same-wrong t text (fault.HistoryNotLegal n) (fault.Input i) keeps one other = absurd other
same-wrong t text (fault.HistoryNotLegal n) fault.NoMemory keeps one other = absurd other
same-wrong t text (fault.HistoryNotLegal n) fault.Shape keeps (claims, rest, begins, first) other = absurd (other (claims, rest, begins))
same-wrong t text (fault.HistoryNotLegal n) (fault.HistoryNotLegal m) keeps (claims, left, begins, first) (given, rest, starts, other) =
    let once = begins-once t keeps text claims given left rest begins starts in
    ap (λ k. fault.HistoryNotLegal k) (same-false t given n m (subst (λ (x : List Claim). IsFirstFalse t x n) once.0 first) other)
same-wrong t text (fault.HistoryNotLegal n) (fault.DeskRows e) keeps (claims, left, begins, first) (h, rest, has, other) = absurd (legal-or-false t text claims left n h rest keeps begins first has)
same-wrong t text (fault.HistoryNotLegal n) (fault.ReportDiffers m) keeps (claims, left, begins, first) (h, rest, has, desks, found) = absurd (legal-or-false t text claims left n h rest keeps begins first has)
same-wrong t text (fault.DeskRows d) (fault.Input i) keeps one other = absurd other
same-wrong t text (fault.DeskRows d) fault.NoMemory keeps one other = absurd other
same-wrong t text (fault.DeskRows d) fault.Shape keeps (h, rest, has, first) other = absurd (other (map claim_of h, rest, has.0))
same-wrong t text (fault.DeskRows d) (fault.HistoryNotLegal m) keeps (h, rest, has, other) (claims, left, begins, first) = absurd (legal-or-false t text claims left m h rest keeps begins first has)
same-wrong t text (fault.DeskRows d) (fault.DeskRows e) keeps (g, left, has, first) (h, rest, too, other) =
    let same = same-history t text g h left rest keeps has too in
    ap (λ k. fault.DeskRows k) (same-desk t h d e (subst (λ (x : History). IsFirstDesk t x d) same.0 first) other)
same-wrong t text (fault.DeskRows d) (fault.ReportDiffers m) keeps (g, left, has, first) (h, rest, too, desks, found) =
    let same = same-history t text g h left rest keeps has too in
    let here : IsFirstDesk t h d = subst (λ (x : History). IsFirstDesk t x d) same.0 first in
    absurd (here.differs (desks d))
same-wrong t text (fault.ReportDiffers n) (fault.Input i) keeps one other = absurd other
same-wrong t text (fault.ReportDiffers n) fault.NoMemory keeps one other = absurd other
same-wrong t text (fault.ReportDiffers n) fault.Shape keeps (h, rest, has, desks, found) other = absurd (other (map claim_of h, rest, has.0))
same-wrong t text (fault.ReportDiffers n) (fault.HistoryNotLegal m) keeps (h, rest, has, desks, found) (claims, left, begins, first) = absurd (legal-or-false t text claims left m h rest keeps begins first has)
same-wrong t text (fault.ReportDiffers n) (fault.DeskRows e) keeps (h, rest, too, desks, found) (g, left, has, first) =
    let same = same-history t text g h left rest keeps has too in
    let here : IsFirstDesk t h e = subst (λ (x : History). IsFirstDesk t x e) same.0 first in
    absurd (here.differs (desks e))
same-wrong t text (fault.ReportDiffers n) (fault.ReportDiffers m) keeps (g, left, has, follows, found) (h, rest, too, desks, other) =
    let same = same-history t text g h left rest keeps has too in
    let here : IsFirstMissing (runs_of t h) left n ⊎ HasMore (runs_of t h) left n = subst (λ (x : History). IsFirstMissing (runs_of t x) left n ⊎ HasMore (runs_of t x) left n) same.0 found in
    let there : IsFirstMissing (runs_of t h) rest n ⊎ HasMore (runs_of t h) rest n = subst (λ (x : List ℕ). IsFirstMissing (runs_of t h) x n ⊎ HasMore (runs_of t h) x n) same.1 here in
    ap (λ k. fault.ReportDiffers k) (same-run (runs_of t h) rest n m there other)

-- what is wrong by another verdict is wrong for the same tables
other-wrong : (bundle text : List ℕ) (t : Tables) (f : AuditFault) → IsAccepted bundle t → Judges bundle text (Err f) → IsVerdict (Err f) → IsWrong t text f
other-wrong bundle text t (fault.Input f) accepted judged told = absurd (accepted-not-refused bundle t f accepted judged.0)
other-wrong bundle text t fault.NoMemory accepted judged told = absurd told
other-wrong bundle text t fault.Shape accepted (u, other, wrong) told = subst (λ (x : Tables). IsWrong x text fault.Shape) (same-tables bundle u t other.tables_are accepted.tables_are) wrong
other-wrong bundle text t (fault.HistoryNotLegal n) accepted (u, other, wrong) told =
    subst (λ (x : Tables). IsWrong x text (fault.HistoryNotLegal n)) (same-tables bundle u t other.tables_are accepted.tables_are) wrong
other-wrong bundle text t (fault.DeskRows d) accepted (u, other, wrong) told =
    subst (λ (x : Tables). IsWrong x text (fault.DeskRows d)) (same-tables bundle u t other.tables_are accepted.tables_are) wrong
other-wrong bundle text t (fault.ReportDiffers n) accepted (u, other, wrong) told =
    subst (λ (x : Tables). IsWrong x text (fault.ReportDiffers n)) (same-tables bundle u t other.tables_are accepted.tables_are) wrong

own-wrong : (t : Tables) (text : List ℕ) (f : AuditFault) → JudgesText t text (Err f) → IsVerdict (Err f) → IsWrong t text f
own-wrong t text (fault.Input f) judged told = judged
own-wrong t text fault.NoMemory judged told = absurd told
own-wrong t text fault.Shape judged told = judged
own-wrong t text (fault.HistoryNotLegal n) judged told = judged
own-wrong t text (fault.DeskRows d) judged told = judged
own-wrong t text (fault.ReportDiffers n) judged told = judged

-- a text has one verdict for accepted tables
pub one-verdict : (bundle text : List ℕ) (t : Tables) (r other : Result ⊤ AuditFault) → IsAccepted bundle t → KeepsLimits t → JudgesText t text r → Judges bundle text other → IsVerdict r → IsVerdict other → r ≡ other
one-verdict bundle text t (Ok done) (Ok also) accepted keeps judged judges own told = refl
one-verdict bundle text t (Ok done) (Err g) accepted keeps (h, answers, is) judges own told = absurd (text-passes t h text g keeps answers is (other-wrong bundle text t g accepted judges told))
one-verdict bundle text t (Err f) (Ok done) accepted keeps judged right own told = absurd (right-passes bundle text t f accepted keeps right (own-wrong t text f judged own))
one-verdict bundle text t (Err f) (Err g) accepted keeps judged judges own told = ap (λ (x : AuditFault). Err x) (same-wrong t text f g keeps (own-wrong t text f judged own) (other-wrong bundle text t g accepted judges told))

-- and a bundle that is refused has one
pub one-refusal : (bundle text : List ℕ) (f : OpenFault) (other : Result ⊤ AuditFault) → Opens bundle (Err f) → Judges bundle text other → IsVerdict (Err (input_fault f)) → IsVerdict other
    → Err (input_fault f) ≡ other
one-refusal bundle text opening.NoMemory other opens judges own told = absurd own
one-refusal bundle text (opening.Refused f) (Ok done) opens (t, accepted, h, answers, is) own told = absurd (accepted-not-refused bundle t f accepted opens.0)
one-refusal bundle text (opening.Refused f) (Err (fault.Input g)) opens judges own told = ap (λ x. Err (fault.Input x)) (one-fault bundle f g opens.0 judges.0)
one-refusal bundle text (opening.Refused f) (Err fault.NoMemory) opens judges own told = absurd told
one-refusal bundle text (opening.Refused f) (Err fault.Shape) opens (t, accepted, wrong) own told = absurd (accepted-not-refused bundle t f accepted opens.0)
one-refusal bundle text (opening.Refused f) (Err (fault.HistoryNotLegal n)) opens (t, accepted, wrong) own told = absurd (accepted-not-refused bundle t f accepted opens.0)
one-refusal bundle text (opening.Refused f) (Err (fault.DeskRows d)) opens (t, accepted, wrong) own told = absurd (accepted-not-refused bundle t f accepted opens.0)
one-refusal bundle text (opening.Refused f) (Err (fault.ReportDiffers n)) opens (t, accepted, wrong) own told = absurd (accepted-not-refused bundle t f accepted opens.0)
