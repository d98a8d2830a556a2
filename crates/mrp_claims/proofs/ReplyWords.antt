-- Replies by their words.
use Rattle.std.proofs.Common.{◌≡◌, ◌≢◌, ℕ, ◌<◌, ◌≤◌, ◌^◌, Bool, true, false, List, [], ◌∷◌, length, ap, arith}
use Rattle.std.specs.Prelude.{codes, decimal}
use Rattle.std.proofs.lemmas.Fmt.{decimal_nonempty}
use Rattle.mrp_claims.specs.declared.claim.ClaimedReply.{ClaimedReply}
use Rattle.mrp_claims.specs.declared.claim.ClaimedReply.TheVariants as said
use Rattle.mrp_claims.specs.Claims.{IsClaimable, claimed_cells}

-- a word that a test refuses
pub not-word : {P : Type 0} (b : Bool) → (P → b ≡ true) → b ≡ false → P → ⊥
not-word b is_so not_so p = let t = is_so p in absurd cc

-- a number's text is not empty
digits : (n : ℕ) → n ≤ 1000000000000000 → [] ≡ decimal n → ⊥
digits n few e =
    let some = decimal_nonempty n (omega (arith, few)) in
    let none : 0 ≡ length (decimal n) = ap (length {A = ℕ}) e in
    absurd (omega (arith, some, none))

no-digits : (n : ℕ) → n < 2 ^ 64 → decimal n ≡ [] → ⊥
no-digits n small same =
    let some = decimal_nonempty n small in
    let none : length (decimal n) ≡ 0 = ap (length {A = ℕ}) same in
    absurd (omega (arith, some, none))

-- a reply without a value has one of four words
pub no-bare : (word : List ℕ) → (word ≡ codes "cancelled" → ⊥) → (word ≡ codes "not-standing" → ⊥) → (word ≡ codes "not-yours" → ⊥) → (word ≡ codes "no-week" → ⊥)
    → (r : ClaimedReply) → IsClaimable r → word ∷ [] ∷ [] ≡ claimed_cells r → ⊥
no-bare word a b c d (said.Booked n) is e = digits n is cc
no-bare word a b c d (said.Short n) is e = digits n is cc
no-bare word a b c d said.Cancelled is e = a cc
no-bare word a b c d said.NotStanding is e = b cc
no-bare word a b c d said.NotYours is e = c cc
no-bare word a b c d (said.Available n) is e = digits n is cc
no-bare word a b c d (said.Week n) is e = digits n (omega (arith, is.1)) cc
no-bare word a b c d said.NoWeek is e = d cc
no-bare word a b c d (said.Front n) is e = digits n is cc

-- and one with a value, other than a week, one of four others
pub no-valued : (word : List ℕ) (value : ℕ) → value < 2 ^ 64 → (word ≡ codes "booked" → ⊥) → (word ≡ codes "short" → ⊥) → (word ≡ codes "available" → ⊥) → (word ≡ codes "front" → ⊥)
    → (r : ClaimedReply) → IsClaimable r → word ≢ codes "week" → word ∷ decimal value ∷ [] ≡ claimed_cells r → ⊥
no-valued word value fits a b c d (said.Booked n) is w e = a cc
no-valued word value fits a b c d (said.Short n) is w e = b cc
no-valued word value fits a b c d said.Cancelled is w e = no-digits value fits cc
no-valued word value fits a b c d said.NotStanding is w e = no-digits value fits cc
no-valued word value fits a b c d said.NotYours is w e = no-digits value fits cc
no-valued word value fits a b c d (said.Available n) is w e = c cc
no-valued word value fits a b c d (said.Week n) is w e = w cc
no-valued word value fits a b c d said.NoWeek is w e = no-digits value fits cc
no-valued word value fits a b c d (said.Front n) is w e = d cc
