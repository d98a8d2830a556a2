-- A text begins with one history of claims at most.
use Rattle.std.proofs.Common.{◌≡◌, ◌∙◌, ℕ, ◌+◌, ◌*◌, ◌<◌, ◌==◌, ◌^◌, cond, Option, Some, None, List, [], ◌∷◌, ◌++◌, length, sym, ap, ap₂, subst, refl, arith, append_assoc, inl, inr}
use Rattle.std.specs.Prelude.{All, decimal, unwrap_or, ⊤}
use Rattle.std.proofs.lemmas.Bool.{cases_lt}
use Rattle.std.proofs.lemmas.Fmt.{decimal_injective, decimal_nonempty}
use Rattle.std.proofs.lemmas.List.{append_cancel_left}
use Rattle.std.proofs.lemmas.List.Elements.{All-head, All-tail}
use Rattle.mrp_tables.specs.Tables.{Tables}
use Rattle.mrp_book.specs.declared.call.Call.{Call}
use Rattle.mrp_book.specs.declared.call.Call.TheVariants as call
use Rattle.mrp_report.specs.section.Cells.{name_at}
use Rattle.mrp_report.specs.section.HistoryText.{call_cells, history_head}
use Rattle.mrp_claims.specs.declared.claim.Claim.{Claim}
use Rattle.mrp_claims.specs.declared.claim.ClaimedReply.{ClaimedReply}
use Rattle.mrp_claims.specs.declared.claim.ClaimedReply.TheVariants as said
use Rattle.mrp_claims.specs.Claims.{IsClaim, IsClaimable, IsScripted, claim_cells, claim_text, claimed_cells, claims_from}
use Rattle.mrp_audit.specs.Kept.{KeepsLimits}
use Rattle.mrp_claims.specs.Shape.{BeginsWith, EndsHistory}
use Rattle.mrp_claims.proofs.ClaimTexts.{cells-told, claim-goes-on}
use Rattle.mrp_claims.proofs.Names.{apart, master-there}

-- a record's cells after the first
abbrev second : List (List ℕ) → List ℕ
second (a ∷ b ∷ cells) = b
second _ = []

abbrev third : List (List ℕ) → List ℕ
third (a ∷ b ∷ c ∷ cells) = c
third _ = []

abbrev fourth : List (List ℕ) → List ℕ
fourth (a ∷ b ∷ c ∷ d ∷ cells) = d
fourth _ = []

abbrev fifth : List (List ℕ) → List ℕ
fifth (a ∷ b ∷ c ∷ d ∷ e ∷ cells) = e
fifth _ = []

-- its first five, and those after them
abbrev first_five : List (List ℕ) → List (List ℕ)
first_five (a ∷ b ∷ c ∷ d ∷ e ∷ cells) = a ∷ b ∷ c ∷ d ∷ e ∷ []
first_five _ = []

abbrev behind_five : List (List ℕ) → List (List ℕ)
behind_five (a ∷ b ∷ c ∷ d ∷ e ∷ cells) = cells
behind_five _ = []

abbrev behind_two : List (List ℕ) → List (List ℕ)
behind_two (a ∷ b ∷ cells) = cells
behind_two _ = []

-- the first byte of a record's first word, which distinguishes calls
abbrev letter : List (List ℕ) → ℕ
letter ((a ∷ word) ∷ cells) = a
letter _ = 0

-- and with the fifth one, by which replies are
abbrev letters : List (List ℕ) → ℕ
letters ((a ∷ b ∷ c ∷ d ∷ e ∷ word) ∷ cells) = a + 256 * e
letters ((a ∷ word) ∷ cells) = a
letters _ = 0

module _ (t : Tables) (keeps : KeepsLimits t) where
  same-item : (one other : ℕ) → one < length t.items → other < length t.items → name_at t one ≡ name_at t other → one ≡ other
  same-item one other here there same = elim (cases_lt one other) [
    | inl before ↦ absurd (apart t one other keeps.names before there same)
    | inr behind ↦ elim (cases_lt other one) [
      | inl less ↦ absurd (apart t other one keeps.names less here (sym same))
      | inr most ↦ omega (arith, behind, most)
    ]
  ]

  -- a call is determined by its cells
  same-call : (c d : Call) → IsScripted t c → IsScripted t d → call_cells t c ≡ call_cells t d → c ≡ d
  same-call (call.Book l) (call.Book k) is other e =
      let few = keeps.weeks in
      let item = same-item l.item k.item (master-there t l.item is.item).0 (master-there t k.item other.item).0 (ap second e) in
      let week = decimal_injective l.week k.week (omega (arith, is.week.1, few)) (omega (arith, other.week.1, few)) (ap third e) in
      let quantity = decimal_injective l.quantity k.quantity (omega (arith, is.quantity.1)) (omega (arith, other.quantity.1)) (ap fourth e) in
      λ i. call.Book (record { item = item i; week = week i; quantity = quantity i })
  same-call (call.Book l) (call.Cancel n2) is other e = let apart : 98 ≡ 99 = ap letter e in absurd (omega (arith, apart))
  same-call (call.Book l) (call.Ask p2) is other e = let apart : 98 ≡ 97 = ap letter e in absurd (omega (arith, apart))
  same-call (call.Book l) (call.When w2) is other e = let apart : 98 ≡ 119 = ap letter e in absurd (omega (arith, apart))
  same-call (call.Book l) call.Snapshot is other e = let apart : 98 ≡ 114 = ap letter e in absurd (omega (arith, apart))
  same-call (call.Book l) call.Front is other e = let apart : 98 ≡ 102 = ap letter e in absurd (omega (arith, apart))
  same-call (call.Cancel n) (call.Book l2) is other e = let apart : 99 ≡ 98 = ap letter e in absurd (omega (arith, apart))
  same-call (call.Cancel n) (call.Cancel m) is other e =
      let number = decimal_injective n m (omega (arith, is.1)) (omega (arith, other.1)) (ap fifth e) in
      λ i. call.Cancel (number i)
  same-call (call.Cancel n) (call.Ask p2) is other e = let apart : 99 ≡ 97 = ap letter e in absurd (omega (arith, apart))
  same-call (call.Cancel n) (call.When w2) is other e = let apart : 99 ≡ 119 = ap letter e in absurd (omega (arith, apart))
  same-call (call.Cancel n) call.Snapshot is other e = let apart : 99 ≡ 114 = ap letter e in absurd (omega (arith, apart))
  same-call (call.Cancel n) call.Front is other e = let apart : 99 ≡ 102 = ap letter e in absurd (omega (arith, apart))
  same-call (call.Ask p) (call.Book l2) is other e = let apart : 97 ≡ 98 = ap letter e in absurd (omega (arith, apart))
  same-call (call.Ask p) (call.Cancel n2) is other e = let apart : 97 ≡ 99 = ap letter e in absurd (omega (arith, apart))
  same-call (call.Ask p) (call.Ask q) is other e =
      let few = keeps.weeks in
      let item = same-item p.item q.item (master-there t p.item is.item).0 (master-there t q.item other.item).0 (ap second e) in
      let week = decimal_injective p.week q.week (omega (arith, is.week.1, few)) (omega (arith, other.week.1, few)) (ap third e) in
      λ i. call.Ask (record { item = item i; week = week i })
  same-call (call.Ask p) (call.When w2) is other e = let apart : 97 ≡ 119 = ap letter e in absurd (omega (arith, apart))
  same-call (call.Ask p) call.Snapshot is other e = let apart : 97 ≡ 114 = ap letter e in absurd (omega (arith, apart))
  same-call (call.Ask p) call.Front is other e = let apart : 97 ≡ 102 = ap letter e in absurd (omega (arith, apart))
  same-call (call.When w) (call.Book l2) is other e = let apart : 119 ≡ 98 = ap letter e in absurd (omega (arith, apart))
  same-call (call.When w) (call.Cancel n2) is other e = let apart : 119 ≡ 99 = ap letter e in absurd (omega (arith, apart))
  same-call (call.When w) (call.Ask p2) is other e = let apart : 119 ≡ 97 = ap letter e in absurd (omega (arith, apart))
  same-call (call.When w) (call.When v) is other e =
      let item = same-item w.item v.item (master-there t w.item is.item).0 (master-there t v.item other.item).0 (ap second e) in
      let quantity = decimal_injective w.quantity v.quantity (omega (arith, is.quantity.1)) (omega (arith, other.quantity.1)) (ap fourth e) in
      λ i. call.When (record { item = item i; quantity = quantity i })
  same-call (call.When w) call.Snapshot is other e = let apart : 119 ≡ 114 = ap letter e in absurd (omega (arith, apart))
  same-call (call.When w) call.Front is other e = let apart : 119 ≡ 102 = ap letter e in absurd (omega (arith, apart))
  same-call call.Snapshot (call.Book l2) is other e = let apart : 114 ≡ 98 = ap letter e in absurd (omega (arith, apart))
  same-call call.Snapshot (call.Cancel n2) is other e = let apart : 114 ≡ 99 = ap letter e in absurd (omega (arith, apart))
  same-call call.Snapshot (call.Ask p2) is other e = let apart : 114 ≡ 97 = ap letter e in absurd (omega (arith, apart))
  same-call call.Snapshot (call.When w2) is other e = let apart : 114 ≡ 119 = ap letter e in absurd (omega (arith, apart))
  same-call call.Snapshot call.Snapshot is other e = refl
  same-call call.Snapshot call.Front is other e = let apart : 114 ≡ 102 = ap letter e in absurd (omega (arith, apart))
  same-call call.Front (call.Book l2) is other e = let apart : 102 ≡ 98 = ap letter e in absurd (omega (arith, apart))
  same-call call.Front (call.Cancel n2) is other e = let apart : 102 ≡ 99 = ap letter e in absurd (omega (arith, apart))
  same-call call.Front (call.Ask p2) is other e = let apart : 102 ≡ 97 = ap letter e in absurd (omega (arith, apart))
  same-call call.Front (call.When w2) is other e = let apart : 102 ≡ 119 = ap letter e in absurd (omega (arith, apart))
  same-call call.Front call.Snapshot is other e = let apart : 102 ≡ 114 = ap letter e in absurd (omega (arith, apart))
  same-call call.Front call.Front is other e = refl

-- the reply of a word with these letters and this value
abbrev of_letters : ℕ → ℕ → ClaimedReply
of_letters n value =
    cond (n == 25954) (said.Booked value) (
    cond (n == 29811) (said.Short value) (
    cond (n == 25955) said.Cancelled (
    cond (n == 29550) said.NotStanding (
    cond (n == 31086) said.NotYours (
    cond (n == 27745) (said.Available value) (
    cond (n == 119) (said.Week value) (
    cond (n == 25966) said.NoWeek (said.Front value))))))))

-- the value that a reply has
abbrev value_of : ClaimedReply → Option ℕ
value_of (said.Booked n) = Some n
value_of (said.Short n) = Some n
value_of said.Cancelled = None
value_of said.NotStanding = None
value_of said.NotYours = None
value_of (said.Available n) = Some n
value_of (said.Week n) = Some n
value_of said.NoWeek = None
value_of (said.Front n) = Some n

abbrev value_cell : Option ℕ → List ℕ
value_cell None = []
value_cell (Some n) = decimal n

abbrev IsSmall : Option ℕ → Type 0
IsSmall None = ⊤
IsSmall (Some n) = n < 2 ^ 64

-- a reply is the one of its letters and its value
by-letters : (r : ClaimedReply) → r ≡ of_letters (letters (claimed_cells r)) (unwrap_or (value_of r) 0)
by-letters (said.Booked n) = refl
by-letters (said.Short n) = refl
by-letters said.Cancelled = refl
by-letters said.NotStanding = refl
by-letters said.NotYours = refl
by-letters (said.Available n) = refl
by-letters (said.Week n) = refl
by-letters said.NoWeek = refl
by-letters (said.Front n) = refl

value-second : (r : ClaimedReply) → second (claimed_cells r) ≡ value_cell (value_of r)
value-second (said.Booked n) = refl
value-second (said.Short n) = refl
value-second said.Cancelled = refl
value-second said.NotStanding = refl
value-second said.NotYours = refl
value-second (said.Available n) = refl
value-second (said.Week n) = refl
value-second said.NoWeek = refl
value-second (said.Front n) = refl

value-small : (r : ClaimedReply) → IsClaimable r → IsSmall (value_of r)
value-small (said.Booked n) is = omega (arith, is)
value-small (said.Short n) is = omega (arith, is)
value-small said.Cancelled is = tt
value-small said.NotStanding is = tt
value-small said.NotYours is = tt
value-small (said.Available n) is = omega (arith, is)
value-small (said.Week n) is = omega (arith, is.1)
value-small said.NoWeek is = tt
value-small (said.Front n) is = omega (arith, is)

no-value : (n : ℕ) → n < 2 ^ 64 → length (decimal n) ≡ 0 → ⊥
no-value n small none = let some = decimal_nonempty n small in omega (arith, some, none)

same-value : (v w : Option ℕ) → IsSmall v → IsSmall w → value_cell v ≡ value_cell w → v ≡ w
same-value None None one other e = refl
same-value None (Some m) one other e = absurd (no-value m other (ap (length {A = ℕ}) (sym e)))
same-value (Some n) None one other e = absurd (no-value n one (ap (length {A = ℕ}) e))
same-value (Some n) (Some m) one other e = ap (λ (x : ℕ). Some x) (decimal_injective n m one other e)

-- and a reply by its own
pub same-reply : (q r : ClaimedReply) → IsClaimable q → IsClaimable r → claimed_cells q ≡ claimed_cells r → q ≡ r
same-reply q r is other e =
    let value : value_of q ≡ value_of r = same-value (value_of q) (value_of r) (value-small q is) (value-small r other) (sym (value-second q) ∙ ap second e ∙ value-second r) in
    by-letters q ∙ ap₂ (λ (n : ℕ) (v : Option ℕ). of_letters n (unwrap_or v 0)) (ap letters e) value ∙ sym (by-letters r)

-- the cells of a call come before those of its reply
calls-first : (t : Tables) (c : Call) (xs : List (List ℕ)) → first_five (call_cells t c ++ xs) ≡ call_cells t c
calls-first t (call.Book l) xs = refl
calls-first t (call.Cancel n) xs = refl
calls-first t (call.Ask p) xs = refl
calls-first t (call.When w) xs = refl
calls-first t call.Snapshot xs = refl
calls-first t call.Front xs = refl

calls-behind : (t : Tables) (c : Call) (xs : List (List ℕ)) → behind_five (call_cells t c ++ xs) ≡ xs
calls-behind t (call.Book l) xs = refl
calls-behind t (call.Cancel n) xs = refl
calls-behind t (call.Ask p) xs = refl
calls-behind t (call.When w) xs = refl
calls-behind t call.Snapshot xs = refl
calls-behind t call.Front xs = refl

module _ (t : Tables) (keeps : KeepsLimits t) where
  -- a claim is determined by its cells
  pub same-claim : (number : ℕ) (c d : Claim) → IsClaim t c → IsClaim t d → claim_cells t (number, c) ≡ claim_cells t (number, d) → c ≡ d
  same-claim number c d is other e =
      let desk : c.desk ≡ d.desk = decimal_injective c.desk d.desk (omega (arith, is.desk.1)) (omega (arith, other.desk.1)) (ap second e) in
      let rest : call_cells t c.call ++ claimed_cells c.reply ≡ call_cells t d.call ++ claimed_cells d.reply = ap behind_two e in
      let calls : call_cells t c.call ≡ call_cells t d.call = sym (calls-first t c.call (claimed_cells c.reply)) ∙ ap first_five rest ∙ calls-first t d.call (claimed_cells d.reply) in
      let replies : claimed_cells c.reply ≡ claimed_cells d.reply = sym (calls-behind t c.call (claimed_cells c.reply)) ∙ ap behind_five rest ∙ calls-behind t d.call (claimed_cells d.reply) in
      let made : c.call ≡ d.call = same-call t keeps c.call d.call is.call other.call calls in
      let had : c.reply ≡ d.reply = same-reply c.reply d.reply is.reply other.reply replies in
      λ i. record { desk = desk i; call = made i; reply = had i }

  -- claims that end are determined by the text that begins with them, and so is what follows them
  pub one-history : (number : ℕ) (ours theirs : List Claim) (left rest : List ℕ) → number + length ours < 2 ^ 64 → All (IsClaim t) ours → All (IsClaim t) theirs → EndsHistory left → EndsHistory rest
      → claims_from t number ours ++ left ≡ claims_from t number theirs ++ rest → (ours ≡ theirs) × (left ≡ rest)
  one-history number [] [] left rest fits own each ends stops same = (refl, same)
  one-history number [] (d ∷ theirs) left rest fits own each ends stops same =
      let whole : left ≡ claim_text t (number, d) ++ (claims_from t (number + 1) theirs ++ rest) = same ∙ append_assoc (claim_text t (number, d)) (claims_from t (number + 1) theirs) rest in
      absurd (claim-goes-on t number d (claims_from t (number + 1) theirs ++ rest) (omega (arith, fits)) (subst EndsHistory whole ends))
  one-history number (c ∷ ours) [] left rest fits own each ends stops same =
      let whole : rest ≡ claim_text t (number, c) ++ (claims_from t (number + 1) ours ++ left) = sym same ∙ append_assoc (claim_text t (number, c)) (claims_from t (number + 1) ours) left in
      absurd (claim-goes-on t number c (claims_from t (number + 1) ours ++ left) (omega (arith, fits)) (subst EndsHistory whole stops))
  one-history number (c ∷ ours) (d ∷ theirs) left rest fits own each ends stops same =
      let one = append_assoc (claim_text t (number, c)) (claims_from t (number + 1) ours) left in
      let other = append_assoc (claim_text t (number, d)) (claims_from t (number + 1) theirs) rest in
      let told = cells-told (claim_cells t (number, c)) (decimal number) (decimal d.desk) (call_cells t d.call ++ claimed_cells d.reply) (claims_from t number (c ∷ ours) ++ left)
      (claims_from t (number + 1) ours ++ left) (claims_from t (number + 1) theirs ++ rest) one (same ∙ other) in
      let first : c ≡ d = same-claim number c d (All-head (IsClaim t) c ours own) (All-head (IsClaim t) d theirs each) told.0 in
      let next = one-history (number + 1) ours theirs left rest (omega (arith, fits)) (All-tail (IsClaim t) c ours own) (All-tail (IsClaim t) d theirs each) ends stops told.1 in
      (ap₂ (λ (x : Claim) (xs : List Claim). x ∷ xs) first next.0, next.1)

  -- a text begins with one history
  pub begins-once : (text : List ℕ) (ours theirs : List Claim) (left rest : List ℕ) → BeginsWith t text ours left → BeginsWith t text theirs rest → (ours ≡ theirs) × (left ≡ rest)
  begins-once text ours theirs left rest one other =
      let same : history_head ++ (claims_from t 1 ours ++ left) ≡ history_head ++ (claims_from t 1 theirs ++ rest) =
      sym (append_assoc history_head (claims_from t 1 ours) left) ∙ sym one.spelled ∙ other.spelled ∙ append_assoc history_head (claims_from t 1 theirs) rest in
      let few = one.few in
      one-history 1 ours theirs left rest (omega (arith, few)) one.each other.each one.ends other.ends (append_cancel_left history_head _ _ same)
