-- Chains of links.
use Rattle.std.proofs.Common.{◌≡◌, ◌≢◌, ◌⊎◌, inl, inr, ℕ, zero, suc, ◌+◌, ◌<◌, ◌≤◌, List, [], ◌∷◌, ◌++◌, length, get_or, refl, sym, ap, subst, arith}
use Rattle.std.proofs.lemmas.Bool.{cases_lt}
use Rattle.std.proofs.lemmas.List.{length-append}
use Rattle.mrp_bill.specs.Climb.{IsLinked}
use Rattle.mrp_bill.specs.Links.{Links, Leads, IsTrail, IsRound}

-- a link before a chain
pub links-before : (R : ℕ → ℕ → Type 0) (n a b c : ℕ) → R a b → Links R n b c → Links R (suc n) a c
links-before R zero a b c first e = (a, refl, subst (λ (x : ℕ). R a x) e first)
links-before R (suc n) a b c first (p, chain, link) = (p, links-before R n a b p first chain, link)

-- the first link of a chain
pub links-first : (R : ℕ → ℕ → Type 0) (n a c : ℕ) → Links R (suc n) a c → (b : ℕ) × R a b × Links R n b c
links-first R zero a c (p, e, link) = (c, subst (λ (x : ℕ). R x c) (sym e) link, refl)
links-first R (suc n) a c (p, chain, link) =
    let (b, first, rest) = links-first R n a p chain in
    (b, first, (p, rest, link))

-- a chain along the stack, from a higher place down
pub links-down : (R : ℕ → ℕ → Type 0) (stack : List ℕ) → IsLinked R stack → (n d top : ℕ) → d + n ≡ top → top < length stack → Links R n (get_or stack top 0) (get_or stack d 0)
links-down R stack linked zero d top e h = ap (λ k. get_or stack k 0) (omega arith)
links-down R stack linked (suc n) d top e h =
    (get_or stack (suc d) 0, links-down R stack linked n (suc d) top (omega arith) h, linked d (omega arith))

-- codes rise along a chain by at least its links
pub links-rise : (R : ℕ → ℕ → Type 0) (code : ℕ → ℕ) → ((p i : ℕ) → R p i → code p < code i) → (n a b : ℕ) → Links R n a b → code a + n ≤ code b
links-rise R code rises zero a b e = omega (arith, ap code e)
links-rise R code rises (suc n) a b (p, chain, link) = omega (arith, links-rise R code rises n a p chain, rises p b link)

-- a relation that holds wherever another does has its chains
pub links-along : (R S : ℕ → ℕ → Type 0) → ((p i : ℕ) → R p i → S p i) → (n a b : ℕ) → Links R n a b → Links S n a b
links-along R S f zero a b e = e
links-along R S f (suc n) a b (p, chain, link) = (p, links-along R S f n a p chain, f p b link)

pub trail-along : (R S : ℕ → ℕ → Type 0) → ((p i : ℕ) → R p i → S p i) → (a : ℕ) (xs : List ℕ) (b : ℕ) → IsTrail R a xs b → IsTrail S a xs b
trail-along R S f a [] b e = e
trail-along R S f a (c ∷ more) b (link, rest) = (f a c link, trail-along R S f c more b rest)

-- one more link at the end of a trail
pub trail-push : (R : ℕ → ℕ → Type 0) (a : ℕ) (xs : List ℕ) (b c : ℕ) → IsTrail R a xs b → R b c → IsTrail R a (xs ++ c ∷ []) c
trail-push R a [] b c e link = (subst (λ (x : ℕ). R x c) (sym e) link, refl)
trail-push R a (x ∷ xs) b c (first, rest) link = (first, trail-push R x xs b c rest link)

-- a trail is a chain of as many links
pub trail-links : (R : ℕ → ℕ → Type 0) (a : ℕ) (xs : List ℕ) (b : ℕ) → IsTrail R a xs b → Links R (length xs) a b
trail-links R a [] b e = e
trail-links R a (c ∷ more) b (link, rest) = links-before R (length more) a c b link (trail-links R c more b rest)

pub links-trail : (R : ℕ → ℕ → Type 0) (n a b : ℕ) → Links R n a b → (xs : List ℕ) × (length xs ≡ n) × IsTrail R a xs b
links-trail R zero a b e = ([], refl, e)
links-trail R (suc n) a b (p, chain, link) =
    let (xs, size, trail) = links-trail R n a p chain in
    (xs ++ b ∷ [], omega (arith, length-append xs (b ∷ []), size), trail-push R a xs p b trail link)

pub round-leads : (R : ℕ → ℕ → Type 0) (i : ℕ) (path : List ℕ) → IsRound R i path → Leads R i i
round-leads R i [] round = absurd round
round-leads R i (a ∷ []) round = absurd round
round-leads R i (a ∷ b ∷ more) (same, link, rest) = (length more, links-before R (length more) i b i (subst (λ (x : ℕ). R x b) same link) (trail-links R b more i rest))

pub leads-round : (R : ℕ → ℕ → Type 0) (i : ℕ) → Leads R i i → (path : List ℕ) × IsRound R i path
leads-round R i (n, chain) =
    let (b, first, rest) = links-first R n i i chain in
    let (xs, size, trail) = links-trail R n b i rest in
    (i ∷ b ∷ xs, (refl, first, trail))

pub round-along : (R S : ℕ → ℕ → Type 0) → ((p i : ℕ) → R p i → S p i) → (i : ℕ) (path : List ℕ) → IsRound R i path → IsRound S i path
round-along R S f i [] round = round
round-along R S f i (a ∷ []) round = round
round-along R S f i (a ∷ b ∷ more) (same, link, rest) = (same, f a b link, trail-along R S f b more i rest)

-- ranks that do not rise along links do not rise along chains
links-fall : (R : ℕ → ℕ → Type 0) (rank : ℕ → ℕ) → ((p i : ℕ) → R p i → rank i ≤ rank p) → (n a b : ℕ) → Links R n a b → rank b ≤ rank a
links-fall R rank falls zero a b e = omega (arith, ap rank e)
links-fall R rank falls (suc n) a b (p, chain, link) = omega (arith, links-fall R rank falls n a p chain, falls p b link)

-- so an item that no link reaches from its own rank is not on a round
pub no-round : (R : ℕ → ℕ → Type 0) (rank : ℕ → ℕ) → ((p i : ℕ) → R p i → rank i ≤ rank p) → (i : ℕ) → ((p : ℕ) → R p i → rank p ≢ rank i) → Leads R i i → ⊥
no-round R rank falls i apart (n, (p, chain, link)) = apart p link (omega (arith, links-fall R rank falls n i p chain, falls p i link))

-- what holds of each number below one, and of that one
pub below_one_more : (P : ℕ → Type 0) (n : ℕ) → ((i : ℕ) → i < n → P i) → P n → (i : ℕ) → i < n + 1 → P i
below_one_more P n below here i h = by (cases_lt i n)
  where
    by : (i < n) ⊎ (n ≤ i) → P i
    by (inl lt) = below i lt
    by (inr ge) = subst P (omega arith) here
