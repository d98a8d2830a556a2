-- Whether anything leads to itself, decided; and codes if nothing does.
use Rattle.std.proofs.Common.{◌≡◌, ◌⊎◌, inl, inr, ℕ, zero, suc, ◌+◌, ◌<◌, ◌≤◌, Bool, true, false, cond, refl, sym, ap, subst, ◌∙◌, arith}
use Rattle.std.specs.Prelude.{◌||◌, ◌&&◌, max}
use Rattle.std.proofs.lemmas.Bool.{and_from, and_parts, cases_lt, or_cases, or_left, or_right}
use Rattle.mrp_bill.specs.Links.{Links, Leads, IsFirstRound, AreRising}
use Rattle.mrp_bill.proofs.Linked.{below_one_more}

-- the result of a test on each pair
abbrev Holds : (ℕ → ℕ → Bool) → ℕ → ℕ → Type 0
Holds t p i = t p i ≡ true

-- numbers that are linked are below one
abbrev pub AreBelow : ℕ → (ℕ → ℕ → Bool) → Type 0
AreBelow count t = (p i : ℕ) → t p i ≡ true → (p < count) × (i < count)

-- chains joined end to end
leads-on : (R : ℕ → ℕ → Type 0) (m a b c : ℕ) → Leads R a b → Links R m b c → Leads R a c
leads-on R zero a b c first e = subst (λ (x : ℕ). Leads R a x) e first
leads-on R (suc m) a b c first (p, chain, link) =
    let (n, before) = leads-on R m a b p first chain in
    (suc n, (p, before, link))

-- whether a chain leads from a to b that passes only numbers below a bound
abbrev reaches : (ℕ → ℕ → Bool) → ℕ → ℕ → ℕ → Bool
reaches t zero a b = t a b
reaches t (suc k) a b = reaches t k a b || (reaches t k a k && reaches t k k b)

reaches-leads : (t : ℕ → ℕ → Bool) (k a b : ℕ) → reaches t k a b ≡ true → Leads (Holds t) a b
reaches-leads t zero a b h = (0, (a, refl, h))
reaches-leads t (suc k) a b h = by (or_cases (reaches t k a b) (reaches t k a k && reaches t k k b) h) (reaches-leads t k a b) (reaches-leads t k a k) (reaches-leads t k k b)
  where
    by : (reaches t k a b ≡ true) ⊎ ((reaches t k a k && reaches t k k b) ≡ true) → (reaches t k a b ≡ true → Leads (Holds t) a b)
        → (reaches t k a k ≡ true → Leads (Holds t) a k) → (reaches t k k b ≡ true → Leads (Holds t) k b) → Leads (Holds t) a b
    by (inl e) straight to from = straight e
    by (inr e) straight to from =
        let (x, y) = and_parts (reaches t k a k) (reaches t k k b) e in
        let (n, chain) = from y in
        leads-on (Holds t) (suc n) a k b (to x) chain

reaches-linked : (t : ℕ → ℕ → Bool) (k a b : ℕ) → t a b ≡ true → reaches t k a b ≡ true
reaches-linked t zero a b h = h
reaches-linked t (suc k) a b h = or_left (reaches t k a b) (reaches t k a k && reaches t k k b) (reaches-linked t k a b h)

-- neither the chain to the bound nor the chain from it passes it
to-bound : (t : ℕ → ℕ → Bool) (k a : ℕ) → reaches t (suc k) a k ≡ true → reaches t k a k ≡ true
to-bound t k a h = by (or_cases (reaches t k a k) (reaches t k a k && reaches t k k k) h)
  where
    by : (reaches t k a k ≡ true) ⊎ ((reaches t k a k && reaches t k k k) ≡ true) → reaches t k a k ≡ true
    by (inl e) = e
    by (inr e) = (and_parts (reaches t k a k) (reaches t k k k) e).0

from-bound : (t : ℕ → ℕ → Bool) (k b : ℕ) → reaches t (suc k) k b ≡ true → reaches t k k b ≡ true
from-bound t k b h = by (or_cases (reaches t k k b) (reaches t k k k && reaches t k k b) h)
  where
    by : (reaches t k k b ≡ true) ⊎ ((reaches t k k k && reaches t k k b) ≡ true) → reaches t k k b ≡ true
    by (inl e) = e
    by (inr e) = (and_parts (reaches t k k k) (reaches t k k b) e).1

-- chains are joined at a number below the bound
reaches-through : (t : ℕ → ℕ → Bool) (k p a b : ℕ) → p < k → reaches t k a p ≡ true → reaches t k p b ≡ true → reaches t k a b ≡ true
reaches-through t zero p a b h x y = absurd (omega arith)
reaches-through t (suc k) p a b h x y = by (cases_lt p k) (λ lt c d u v. reaches-through t k p c d lt u v)
  where
    past : reaches t k a k ≡ true → reaches t k k b ≡ true → reaches t (suc k) a b ≡ true
    past u v = or_right (reaches t k a b) (reaches t k a k && reaches t k k b) (and_from (reaches t k a k) (reaches t k k b) u v)

    below : ((c d : ℕ) → reaches t k c p ≡ true → reaches t k p d ≡ true → reaches t k c d ≡ true)
        → (reaches t k a p ≡ true) ⊎ ((reaches t k a k && reaches t k k p) ≡ true) → (reaches t k p b ≡ true) ⊎ ((reaches t k p k && reaches t k k b) ≡ true)
        → reaches t (suc k) a b ≡ true
    below join (inl u) (inl v) = or_left (reaches t k a b) (reaches t k a k && reaches t k k b) (join a b u v)
    below join (inl u) (inr v) =
        let (to, on) = and_parts (reaches t k p k) (reaches t k k b) v in
        past (join a k u to) on
    below join (inr u) (inl v) =
        let (to, on) = and_parts (reaches t k a k) (reaches t k k p) u in
        past to (join k b on v)
    below join (inr u) (inr v) = past (and_parts (reaches t k a k) (reaches t k k p) u).0 (and_parts (reaches t k p k) (reaches t k k b) v).1

    by : (p < k) ⊎ (k ≤ p) → (p < k → (c d : ℕ) → reaches t k c p ≡ true → reaches t k p d ≡ true → reaches t k c d ≡ true) → reaches t (suc k) a b ≡ true
    by (inl lt) join = below (join lt) (or_cases (reaches t k a p) (reaches t k a k && reaches t k k p) x) (or_cases (reaches t k p b) (reaches t k p k && reaches t k k b) y)
    by (inr ge) join =
        let same : p ≡ k = omega arith in
        past (to-bound t k a (subst (λ (z : ℕ). reaches t (suc k) a z ≡ true) same x)) (from-bound t k b (subst (λ (z : ℕ). reaches t (suc k) z b ≡ true) same y))

-- a chain is found
links-reach : (count : ℕ) (t : ℕ → ℕ → Bool) → AreBelow count t → (n a b : ℕ) → Links (Holds t) (suc n) a b → reaches t count a b ≡ true
links-reach count t below zero a b (p, e, link) = reaches-linked t count a b (subst (λ (x : ℕ). t x b ≡ true) (sym e) link)
links-reach count t below (suc n) a b (p, chain, link) =
    reaches-through t count p a b (below p b link).0 (links-reach count t below n a p chain) (reaches-linked t count p b link)

-- the first number below one that passes a test, or none does
first_of_test : (test : ℕ → Bool) (n : ℕ) → ((i : ℕ) × (i < n) × (test i ≡ true) × ((j : ℕ) → j < i → test j ≡ false)) ⊎ ((j : ℕ) → j < n → test j ≡ false)
first_of_test test zero = inr (λ j h. absurd (omega arith))
first_of_test test (suc n) = by (first_of_test test n) (test n) refl
  where
    by : ((i : ℕ) × (i < n) × (test i ≡ true) × ((j : ℕ) → j < i → test j ≡ false)) ⊎ ((j : ℕ) → j < n → test j ≡ false) → (b : Bool) → test n ≡ b
        → ((i : ℕ) × (i < suc n) × (test i ≡ true) × ((j : ℕ) → j < i → test j ≡ false)) ⊎ ((j : ℕ) → j < suc n → test j ≡ false)
    by (inl (i, low, is, first)) b e = inl (i, omega arith, is, first)
    by (inr none) true e = inl (n, omega arith, e, none)
    by (inr none) false e = inr (λ j h. below_one_more (λ (x : ℕ). test x ≡ false) n none e j (omega arith))

-- how many numbers below one pass a test
abbrev tally : (ℕ → Bool) → ℕ → ℕ
tally test zero = 0
tally test (suc n) = tally test n + cond (test n) 1 0

tally-within : (test : ℕ → Bool) (n : ℕ) → tally test n ≤ n
tally-within test zero = omega arith
tally-within test (suc n) = by (test n) (tally-within test n)
  where
    by : (b : Bool) → tally test n ≤ n → tally test n + cond b 1 0 ≤ suc n
    by true h = omega arith
    by false h = omega arith

tally-le : (p q : ℕ → Bool) (n : ℕ) → ((a : ℕ) → p a ≡ true → q a ≡ true) → tally p n ≤ tally q n
tally-le p q zero f = omega arith
tally-le p q (suc n) f = by (p n) (q n) (f n) (tally-le p q n f)
  where
    by : (x y : Bool) → (x ≡ true → y ≡ true) → tally p n ≤ tally q n → tally p n + cond x 1 0 ≤ tally q n + cond y 1 0
    by true true g h = omega arith
    by true false g h = let wrong : false ≡ true = g refl in absurd (cc)
    by false true g h = omega arith
    by false false g h = omega arith

tally-lt : (p q : ℕ → Bool) (n x : ℕ) → x < n → p x ≡ false → q x ≡ true → ((a : ℕ) → p a ≡ true → q a ≡ true) → tally p n < tally q n
tally-lt p q zero x h fails passes f = absurd (omega arith)
tally-lt p q (suc n) x h fails passes f = by (cases_lt x n) (λ lt. tally-lt p q n x lt fails passes f)
  where
    here : (u v : Bool) → u ≡ false → v ≡ true → tally p n ≤ tally q n → tally p n + cond u 1 0 < tally q n + cond v 1 0
    here true v e k l = absurd (cc)
    here false true e k l = omega arith
    here false false e k l = absurd (cc)

    more : (u v : Bool) → (u ≡ true → v ≡ true) → tally p n < tally q n → tally p n + cond u 1 0 < tally q n + cond v 1 0
    more true true g l = omega arith
    more true false g l = let wrong : false ≡ true = g refl in absurd (cc)
    more false true g l = omega arith
    more false false g l = omega arith

    by : (x < n) ⊎ (n ≤ x) → (x < n → tally p n < tally q n) → tally p (suc n) < tally q (suc n)
    by (inl lt) rest = more (p n) (q n) (f n) (rest lt)
    by (inr ge) rest =
        let same : x ≡ n = omega arith in
        here (p n) (q n) (ap p (sym same) ∙ fails) (ap q (sym same) ∙ passes) (tally-le p q n f)

-- one above the greatest value of those below a number that pass a test, or 0
abbrev best : (ℕ → ℕ) → (ℕ → Bool) → ℕ → ℕ
best value test zero = 0
best value test (suc n) = max (best value test n) (cond (test n) (suc (value n)) 0)

best-above : (value : ℕ → ℕ) (test : ℕ → Bool) (n p : ℕ) → p < n → test p ≡ true → value p < best value test n
best-above value test zero p h e = absurd (omega arith)
best-above value test (suc n) p h e = by (cases_lt p n) (λ lt. best-above value test n p lt e)
  where
    here : (b : Bool) → b ≡ true → value n < max (best value test n) (cond b (suc (value n)) 0)
    here true k = omega arith
    here false k = absurd (cc)

    by : (p < n) ⊎ (n ≤ p) → (p < n → value p < best value test n) → value p < max (best value test n) (cond (test n) (suc (value n)) 0)
    by (inl lt) rest = omega (arith, rest lt)
    by (inr ge) rest =
        let same : p ≡ n = omega arith in
        omega (arith, ap value same, here (test n) (ap test (sym same) ∙ e))

best-from : (value : ℕ → ℕ) (test : ℕ → Bool) (n m : ℕ) → best value test n ≡ suc m → (p : ℕ) × (p < n) × (test p ≡ true) × (value p ≡ m)
best-from value test zero m h = absurd (omega arith)
best-from value test (suc n) m h = by (test n) refl (cases_lt (best value test n) (suc m)) h (best-from value test n m)
  where
    by : (b : Bool) → test n ≡ b → (best value test n < suc m) ⊎ (suc m ≤ best value test n) → max (best value test n) (cond b (suc (value n)) 0) ≡ suc m
        → (best value test n ≡ suc m → (p : ℕ) × (p < n) × (test p ≡ true) × (value p ≡ m)) → (p : ℕ) × (p < suc n) × (test p ≡ true) × (value p ≡ m)
    by true e (inl lt) k rest = (n, omega arith, e, omega arith)
    by true e (inr ge) k rest = let (p, low, is, at) = rest (omega arith) in (p, omega arith, is, at)
    by false e side k rest = let (p, low, is, at) = rest (omega arith) in (p, omega arith, is, at)

best-same : (value other : ℕ → ℕ) (test : ℕ → Bool) (n : ℕ) → ((p : ℕ) → test p ≡ true → value p ≡ other p) → best value test n ≡ best other test n
best-same value other test zero f = refl
best-same value other test (suc n) f = by (test n) (f n) (best-same value other test n f)
  where
    by : (b : Bool) → (b ≡ true → value n ≡ other n) → best value test n ≡ best other test n
        → max (best value test n) (cond b (suc (value n)) 0) ≡ max (best other test n) (cond b (suc (other n)) 0)
    by true g h = omega (arith, g refl)
    by false g h = omega arith

best-within : (value : ℕ → ℕ) (test : ℕ → Bool) (n bound : ℕ) → ((p : ℕ) → test p ≡ true → value p < bound) → best value test n ≤ bound
best-within value test zero bound f = omega arith
best-within value test (suc n) bound f = by (test n) (f n) (best-within value test n bound f)
  where
    by : (b : Bool) → (b ≡ true → value n < bound) → best value test n ≤ bound → max (best value test n) (cond b (suc (value n)) 0) ≤ bound
    by true g h = omega (arith, g refl)
    by false g h = omega arith

-- how many numbers lead to one
abbrev rank : ℕ → (ℕ → ℕ → Bool) → ℕ → ℕ
rank count t i = tally (λ a. reaches t count a i) count

-- codes, as far as chains of so many links determine them
abbrev code : ℕ → (ℕ → ℕ → Bool) → ℕ → ℕ → ℕ
code count t zero i = 0
code count t (suc k) i = best (code count t k) (λ p. t p i) count

-- nothing below a number leads to itself
abbrev NoneReaches : ℕ → (ℕ → ℕ → Bool) → Type 0
NoneReaches count t = (j : ℕ) → j < count → reaches t count j j ≡ false

rank-rises : (count : ℕ) (t : ℕ → ℕ → Bool) → AreBelow count t → NoneReaches count t → (p i : ℕ) → t p i ≡ true → rank count t p < rank count t i
rank-rises count t below none p i link =
    let (low, _) = below p i link in
    tally-lt (λ a. reaches t count a p) (λ a. reaches t count a i) count p low (none p low) (reaches-linked t count p i link)
    (λ a h. reaches-through t count p a i low h (reaches-linked t count p i link))

code-within : (count : ℕ) (t : ℕ → ℕ → Bool) → AreBelow count t → NoneReaches count t → (k i : ℕ) → code count t k i ≤ rank count t i
code-within count t below none zero i = omega arith
code-within count t below none (suc k) i =
    best-within (code count t k) (λ p. t p i) count (rank count t i) (λ p link. omega (arith, code-within count t below none k p, rank-rises count t below none p i link))

-- codes that longer chains no longer change
code-settles : (count : ℕ) (t : ℕ → ℕ → Bool) → AreBelow count t → NoneReaches count t → (k i : ℕ) → rank count t i < k → code count t k i ≡ code count t (suc k) i
code-settles count t below none zero i h = absurd (omega arith)
code-settles count t below none (suc k) i h =
    best-same (code count t k) (code count t (suc k)) (λ p. t p i) count (λ p link. code-settles count t below none k p (omega (arith, rank-rises count t below none p i link)))

-- the code of a number
abbrev pub code_in : ℕ → (ℕ → ℕ → Bool) → ℕ → ℕ
code_in count t i = code count t (suc count) i

code-is_best : (count : ℕ) (t : ℕ → ℕ → Bool) → AreBelow count t → NoneReaches count t → (i : ℕ) → code_in count t i ≡ best (code_in count t) (λ p. t p i) count
code-is_best count t below none i = code-settles count t below none (suc count) i (omega (arith, tally-within (λ a. reaches t count a i) count))

-- codes of numbers that are linked
pub record AreCodesBelow (count : ℕ) (t : ℕ → ℕ → Bool) (value : ℕ → ℕ) : Type 0 where
  pub rising : AreRising (Holds t) value
  pub low : (i : ℕ) → i < count → value i < count
  pub past : (i : ℕ) → count ≤ i → value i ≡ 0

codes-below : (count : ℕ) (t : ℕ → ℕ → Bool) → AreBelow count t → NoneReaches count t → AreCodesBelow count t (code_in count t)
codes-below count t below none = record {
  rising = record {
    rises = λ p i link. omega (arith, code-is_best count t below none i, best-above (code_in count t) (λ x. t x i) count p (below p i link).0 link);
    from_parent = λ i n e. let (p, low, link, at) = best-from (code_in count t) (λ x. t x i) count n (sym (code-is_best count t below none i) ∙ e) in (p, link, at);
  };
  low = λ i h.
      omega (
        arith,
        code-within count t below none (suc count) i,
        tally-lt (λ a. reaches t count a i) (λ a. true) count i h (none i h) refl (λ a k. refl),
        tally-within (λ a. true) count,
      );
  past = λ i h. by i h (cases_lt 0 (code_in count t i));
}
  where
    some : (i : ℕ) → count ≤ i → (n : ℕ) → code_in count t i ≡ n → 0 < n → code_in count t i ≡ 0
    some i h zero e k = absurd (omega arith)
    some i h (suc n) e k =
        let (p, low, link, at) = best-from (code_in count t) (λ x. t x i) count n (sym (code-is_best count t below none i) ∙ e) in
        absurd (omega (arith, (below p i link).1))

    by : (i : ℕ) → count ≤ i → (0 < code_in count t i) ⊎ (code_in count t i ≤ 0) → code_in count t i ≡ 0
    by i h (inr ge) = omega arith
    by i h (inl lt) = some i h (code_in count t i) refl lt

-- a number is the first that leads to itself, or there are codes
pub decided : (count : ℕ) (t : ℕ → ℕ → Bool) → AreBelow count t → ((i : ℕ) × IsFirstRound (λ p i. t p i ≡ true) i) ⊎ AreCodesBelow count t (code_in count t)
decided count t below = by (first_of_test (λ i. reaches t count i i) count)
  where
    apart : (j : ℕ) → reaches t count j j ≡ false → Leads (Holds t) j j → ⊥
    apart j fails (n, chain) = let passes = links-reach count t below n j j chain in absurd (cc)

    by : ((i : ℕ) × (i < count) × (reaches t count i i ≡ true) × ((j : ℕ) → j < i → reaches t count j j ≡ false)) ⊎ NoneReaches count t
        → ((i : ℕ) × IsFirstRound (λ p i. t p i ≡ true) i) ⊎ AreCodesBelow count t (code_in count t)
    by (inl (i, low, is, first)) = inl (i, record { loop = reaches-leads t count i i is; first = λ j h. apart j (first j h) })
    by (inr none) = inr (codes-below count t below none)
