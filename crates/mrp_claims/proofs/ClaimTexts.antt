-- The texts of claims.
use Rattle.std.proofs.Common.{◌≡◌, ◌∙◌, ℕ, suc, ◌+◌, ◌%◌, ◌<◌, ◌≤◌, ◌^◌, List, [], ◌∷◌, ◌++◌, length, drop, Option, Some, None, Ok, sym, ap, subst, refl, arith, append-nil, append_assoc, inl, inr}
use Rattle.std.specs.Prelude.{All, decimal, option_map}
use Rattle.std.specs.List.{list_any}
use Rattle.std.proofs.lemmas.Bool.{cases_Bool}
use Rattle.std.proofs.lemmas.Fmt.{decimal_by_steps, length-decimal-le}
use Rattle.csv.specs.Machine.{Read, next_record}
use Rattle.csv.specs.Reading.{default_config}
use Rattle.csv.specs.Records.{Row, fields_of}
use Rattle.csv.specs.Writing.{default_writer, field_text, fields_text, needs_byte, read_back}
use Rattle.csv.specs.declared.parser.State.TheVariants as st
use Rattle.csv.proofs.RoundTrip.{read-write, read-write-many}
use Rattle.mrp_tables.specs.Facts.{IsItem}
use Rattle.mrp_tables.specs.Tables.{Tables}
use Rattle.mrp_book.specs.declared.call.Call.{Call}
use Rattle.mrp_book.specs.declared.call.Call.TheVariants as call
use Rattle.mrp_report.specs.section.Cells.{name_at}
use Rattle.mrp_report.specs.section.HistoryText.{call_cells}
use Rattle.mrp_report.specs.page.Rows.{row}
use Rattle.mrp_claims.specs.declared.claim.Claim.{Claim}
use Rattle.mrp_claims.specs.declared.claim.ClaimedReply.{ClaimedReply}
use Rattle.mrp_claims.specs.declared.claim.ClaimedReply.TheVariants as said
use Rattle.mrp_claims.specs.Claims.{IsClaim, IsClaimable, IsScripted, claim_cells, claim_text, claimed_cells, claims_from}
use Rattle.mrp_claims.specs.Reading.{BeginsPlain, SplitsRow}
use Rattle.mrp_claims.specs.Shape.{EndsHistory}
use Rattle.mrp_claims.proofs.Names.{master-there, name-short, named}
use Rattle.mrp_claims.proofs.RowLengths.{row-length, weight, weight-append}

-- a text that begins with a quote or a digit, or a byte between
abbrev BeginsLow : List ℕ → Type 0
BeginsLow [] = ⊥
BeginsLow (byte ∷ rest) = (34 ≤ byte) × (byte ≤ 57)

low-front : (front rest : List ℕ) → BeginsLow front → BeginsLow (front ++ rest)
low-front [] rest is = absurd is
low-front (byte ∷ front) rest is = is

low-field : (x : List ℕ) → BeginsLow x → BeginsLow (field_text default_writer x)
low-field x is = elim (cases_Bool (list_any (needs_byte default_writer) x)) [
  | inl needs ↦ rw needs (omega arith, omega arith)
  | inr plain ↦ rw plain is
]

decimal-low : (n : ℕ) → n < 2 ^ 64 → BeginsLow (decimal n)
decimal-low n fits = decimal_by_steps (λ (m : ℕ) (digits : List ℕ). BeginsLow digits) (λ m few. (omega arith, omega arith)) (λ m digits many is. low-front digits ((48 + m % 10) ∷ []) is) n fits

claim-low : (t : Tables) (number : ℕ) (c : Claim) → number < 2 ^ 64 → BeginsLow (claim_text t (number, c))
claim-low t number c fits =
    low-front (field_text default_writer (decimal number) ++ fields_text default_writer (decimal c.desk ∷ (call_cells t c.call ++ claimed_cells c.reply))) _
    (low-front (field_text default_writer (decimal number)) _ (low-field (decimal number) (decimal-low number fits)))

low-plain : (text : List ℕ) → BeginsLow text → BeginsPlain text
low-plain [] is = absurd is
low-plain (byte ∷ text) is = omega (arith, is.1)

-- a claim's text begins with a byte of ASCII
pub claim-plain : (t : Tables) (number : ℕ) (c : Claim) → number < 2 ^ 64 → BeginsPlain (claim_text t (number, c))
claim-plain t number c fits = low-plain (claim_text t (number, c)) (claim-low t number c fits)

low-goes-on : (text : List ℕ) → BeginsLow text → EndsHistory text → ⊥
low-goes-on [] is ends = is
low-goes-on (byte ∷ text) is ends = absurd (omega (arith, is.1, ends))

-- a history does not end before a claim
pub claim-goes-on : (t : Tables) (number : ℕ) (c : Claim) (rest : List ℕ) → number < 2 ^ 64 → EndsHistory (claim_text t (number, c) ++ rest) → ⊥
claim-goes-on t number c rest fits = low-goes-on (claim_text t (number, c) ++ rest) (low-front (claim_text t (number, c)) rest (claim-low t number c fits))

short : (n : ℕ) → n < 2 ^ 64 → length (decimal n) ≤ 20
short n fits = length-decimal-le 20 n (omega arith) (omega (arith, fits)) fits

call-weight : (t : Tables) (c : Call) → All IsItem t.items → t.calendar.weeks < 2 ^ 64 → IsScripted t c → weight (call_cells t c) ≤ 200
call-weight t (call.Book l) all few is =
    let name = name-short (name_at t l.item) (named t l.item all (master-there t l.item is.item).0) in
    let week = short l.week (omega (arith, is.week.1, few)) in
    let pieces = short l.quantity (omega (arith, is.quantity.1)) in
    omega (arith, name, week, pieces)
call-weight t (call.Cancel n) all few is = let number = short n (omega (arith, is.1)) in omega (arith, number)
call-weight t (call.Ask p) all few is =
    let name = name-short (name_at t p.item) (named t p.item all (master-there t p.item is.item).0) in
    let week = short p.week (omega (arith, is.week.1, few)) in
    omega (arith, name, week)
call-weight t (call.When w) all few is =
    let name = name-short (name_at t w.item) (named t w.item all (master-there t w.item is.item).0) in
    let pieces = short w.quantity (omega (arith, is.quantity.1)) in
    omega (arith, name, pieces)
call-weight t call.Snapshot all few is = omega arith
call-weight t call.Front all few is = absurd is

reply-weight : (r : ClaimedReply) → IsClaimable r → weight (claimed_cells r) ≤ 100
reply-weight (said.Booked n) is = let value = short n (omega (arith, is)) in omega (arith, value)
reply-weight (said.Short n) is = let value = short n (omega (arith, is)) in omega (arith, value)
reply-weight said.Cancelled is = omega arith
reply-weight said.NotStanding is = omega arith
reply-weight said.NotYours is = omega arith
reply-weight (said.Available n) is = let value = short n (omega (arith, is)) in omega (arith, value)
reply-weight (said.Week n) is = let value = short n (omega (arith, is.1)) in omega (arith, value)
reply-weight said.NoWeek is = omega arith
reply-weight (said.Front n) is = let value = short n (omega (arith, is)) in omega (arith, value)

-- a claim's text is short
pub claim-short : (t : Tables) (number : ℕ) (c : Claim) → All IsItem t.items → t.calendar.weeks < 2 ^ 64 → number < 2 ^ 64 → IsClaim t c → length (claim_text t (number, c)) ≤ 512
claim-short t number c all few fits is =
    let rest = call_cells t c.call ++ claimed_cells c.reply in
    let whole = row-length (decimal number) (decimal c.desk) rest in
    let parts = weight-append (call_cells t c.call) (claimed_cells c.reply) in
    let calls = call-weight t c.call all few is.call in
    let replies = reply-weight c.reply is.reply in
    let first = short number fits in
    let second = short c.desk (omega (arith, is.desk.1)) in
    omega (arith, whole, parts, calls, replies, first, second)

-- the cells of the record that a text begins with are determined by the text, and so is what
-- follows it
pub cells-told : (xs : List (List ℕ)) (one two : List ℕ) (more : List (List ℕ)) (text before after : List ℕ) → text ≡ row xs ++ before → text ≡ row (one ∷ two ∷ more) ++ after → (xs ≡ one ∷ two ∷ more) × (before ≡ after)
cells-told xs one two more text before after is other =
    let read = sym (read-write xs before) ∙ ap (next_record default_config st.StartRecord [] []) (sym is ∙ other) ∙ read-write-many one two more after in
    told xs (ap (option_map (λ (p : Read). p.0)) read) (ap (option_map (λ (p : Read). p.2)) read)
  where
    told : (xs : List (List ℕ)) → ◌≡◌ {A = Option (List (List ℕ))} (Some (read_back xs)) (Some (one ∷ two ∷ more)) → ◌≡◌ {A = Option (List ℕ)} (Some before) (Some after) → (xs ≡ one ∷ two ∷ more) × (before ≡ after)
    told [] cells left = absurd cc
    told (x ∷ xs) cells left = (cc, cc)

-- one more claim
pub claims-push : (t : Tables) (number : ℕ) (claims : List Claim) (c : Claim) → claims_from t number (claims ++ c ∷ []) ≡ claims_from t number claims ++ claim_text t (number + length claims, c)
claims-push t number [] c =
    let same : number ≡ number + 0 = omega arith in
    append-nil (claim_text t (number, c)) ∙ ap (λ (n : ℕ). claim_text t (n, c)) same
claims-push t number (d ∷ claims) c =
    let same : number + 1 + length claims ≡ number + length (d ∷ claims) = omega arith in
    ap (λ (x : List ℕ). claim_text t (number, d) ++ x) (claims-push t (number + 1) claims c ∙ ap (λ (n : ℕ). claims_from t (number + 1) claims ++ claim_text t (n, c)) same)
    ∙ sym (append_assoc (claim_text t (number, d)) (claims_from t (number + 1) claims) (claim_text t (number + length (d ∷ claims), c)))

-- what is left of a history after claims that its text begins with
pub record IsLeft (t : Tables) (number : ℕ) (ours theirs : List Claim) (left rest : List ℕ) : Type 0 where
  pub more : List Claim
  pub spelled : left ≡ claims_from t (number + length ours) more ++ rest
  pub count : length theirs ≡ length ours + length more
  pub each : All (IsClaim t) more

-- a text that begins with claims has no other history than one that goes on from them
pub follows : (t : Tables) (number : ℕ) (ours theirs : List Claim) (left rest : List ℕ) → number + length ours < 2 ^ 64 → All (IsClaim t) theirs → EndsHistory rest
    → claims_from t number ours ++ left ≡ claims_from t number theirs ++ rest → IsLeft t number ours theirs left rest
follows t number [] theirs left rest fits each ends same =
    let here : number ≡ number + 0 = omega arith in
    record {
      more = theirs;
      spelled = same ∙ ap (λ (n : ℕ). claims_from t n theirs ++ rest) here;
      count = omega arith;
      each = each;
    }
follows t number (c ∷ ours) [] left rest fits each ends same =
    let whole : rest ≡ claim_text t (number, c) ++ (claims_from t (number + 1) ours ++ left) = sym same ∙ append_assoc (claim_text t (number, c)) (claims_from t (number + 1) ours) left in
    absurd (claim-goes-on t number c (claims_from t (number + 1) ours ++ left) (omega (arith, fits)) (subst EndsHistory whole ends))
follows t number (c ∷ ours) (d ∷ theirs) left rest fits each ends same =
    let one = append_assoc (claim_text t (number, c)) (claims_from t (number + 1) ours) left in
    let other = append_assoc (claim_text t (number, d)) (claims_from t (number + 1) theirs) rest in
    let told = cells-told (claim_cells t (number, c)) (decimal number) (decimal d.desk) (call_cells t d.call ++ claimed_cells d.reply) (claims_from t number (c ∷ ours) ++ left)
    (claims_from t (number + 1) ours ++ left) (claims_from t (number + 1) theirs ++ rest) one (same ∙ other) in
    let next = follows t (number + 1) ours theirs left rest (omega (arith, fits)) (λ (k : ℕ) (e : Claim) (within : k < length theirs). each (suc k) e (omega (arith, within))) ends told.1 in
    let here : number + 1 + length ours ≡ number + length (c ∷ ours) = omega arith in
    let count = next.count in
    record {
      more = next.more;
      spelled = next.spelled ∙ ap (λ (n : ℕ). claims_from t n next.more ++ rest) here;
      count = omega (arith, count);
      each = next.each;
    }

-- if no record is there, there is none
pub no-split : (text : List ℕ) (o : Option (Row × ℕ)) → SplitsRow text (Ok o) → ((x : Row × ℕ) → o ≡ Some x → ⊥) → SplitsRow text (Ok None)
no-split text None split none = split
no-split text (Some x) split none = absurd (none x refl)

pub split-there : (text : List ℕ) (o : Option (Row × ℕ)) (cells : Row) (len : ℕ) → SplitsRow text (Ok o) → o ≡ Some (cells, len) → text ≡ row (fields_of cells) ++ drop len text
split-there text None cells len split is = absurd cc
split-there text (Some x) cells len split is =
    let same : x ≡ (cells, len) = some-is x (cells, len) is in
    subst (λ (y : Row × ℕ). text ≡ row (fields_of y.0) ++ drop y.1 text) same split.1
  where
    some-is : (a b : Row × ℕ) → ◌≡◌ {A = Option (Row × ℕ)} (Some a) (Some b) → a ≡ b
    some-is a b e = cc
