-- Tables of blocks of four bytes, and of their lengths.
use Rattle.std.proofs.Common.{◌≡◌, ◌∙◌, ℕ, zero, suc, ◌+◌, ◌*◌, ◌<◌, ◌≤◌, List, [], ◌∷◌, ◌++◌, length, get_or, take, drop, refl, ap, arith, length-append, length-take-le, take-take, take_at}
use Rattle.std.proofs.lemmas.List.{take-append-le}
use Rattle.std.proofs.lemmas.Fmt.{length-decimal-le}
use Rattle.std.proofs.Math.Seq.{drop-append-add}
use Rattle.std.specs.Fmt.{decimal, digits}
use Rattle.mrp_report.specs.page.Groups.{group}
use Rattle.mrp_report.specs.declared.page.number.TheConstants.{CELLS, GROUPS, LENGTHS}

abbrev blocks : (ℕ → List ℕ) → ℕ → ℕ → List ℕ
blocks f zero k = []
blocks f (suc n) k = f k ++ blocks f n (suc k)

-- the block at a place, and what follows it
at : (f : ℕ → List ℕ) → ((k : ℕ) → k < 1000 → length (f k) ≡ 4) → (n k p : ℕ) → p < n → n + k ≤ 1000 → (rest : List ℕ) × (drop (p * 4) (blocks f n k) ≡ f (k + p) ++ rest)
at f four zero k p lt le = absurd (omega arith)
at f four (suc n) k zero lt le =
    let e : k + 0 ≡ k = omega arith in
    (blocks f n (suc k), rw e refl)
at f four (suc n) k (suc p) lt le =
    let below = at f four n (suc k) p (omega arith) (omega arith) in
    let long = four k (omega arith) in
    let e : suc p * 4 ≡ length (f k) + p * 4 = omega arith in
    let e2 : k + suc p ≡ suc k + p = omega arith in
    (below.0, rw (e, drop-append-add (f k) (blocks f n (suc k)) (p * 4), e2) below.1)

-- a number after a comma, and spaces
abbrev cell_in_four : ℕ → List ℕ
cell_in_four k = take 4 ((44 ∷ decimal k) ++ (32 ∷ 32 ∷ 32 ∷ 32 ∷ []))

cells_are : CELLS ≡ blocks cell_in_four 1000 0
unfolding digits
cells_are = refl

abbrev group_in_four : ℕ → List ℕ
group_in_four k = group k ++ 32 ∷ []

groups_are : GROUPS ≡ blocks group_in_four 1000 0
groups_are = refl

short : (n : ℕ) → n < 1000 → length (decimal n) ≤ 3
short n h = length-decimal-le 3 n (omega arith) (omega arith) (omega arith)

four_long : (k : ℕ) → k < 1000 → length (cell_in_four k) ≡ 4
four_long k h = length-take-le 4 ((44 ∷ decimal k) ++ (32 ∷ 32 ∷ 32 ∷ 32 ∷ [])) (omega (arith, length-append (44 ∷ decimal k) (32 ∷ 32 ∷ 32 ∷ 32 ∷ [])))

-- the first bytes of a block, if the table goes on
front : (cell pad rest : List ℕ) → length cell ≤ 4 → 4 ≤ length (cell ++ pad) → take (length cell) (take 4 (cell ++ pad) ++ rest) ≡ cell
front cell pad rest few long =
    take-append-le (length cell) (take 4 (cell ++ pad)) rest (omega (arith, length-take-le 4 (cell ++ pad) long))
    ∙ take-take (length cell) 4 (cell ++ pad) few ∙ take_at cell pad (length cell) refl

pub cell_at : (n m : ℕ) → n < 1000 → 4 ≤ m → take (length (44 ∷ decimal n)) (take m (drop (n * 4) CELLS)) ≡ 44 ∷ decimal n
cell_at n m h le =
    let cell : List ℕ = 44 ∷ decimal n in
    let pad : List ℕ = 32 ∷ 32 ∷ 32 ∷ 32 ∷ [] in
    let here = at cell_in_four four_long 1000 0 n h (omega arith) in
    let e : 0 + n ≡ n = omega arith in
    take-take (length cell) m (drop (n * 4) CELLS) (omega (arith, short n h))
    ∙ ap (λ (xs : List ℕ). take (length cell) (drop (n * 4) xs)) cells_are
    ∙ ap (take (length cell)) here.1
    ∙ ap (λ (k : ℕ). take (length cell) (cell_in_four k ++ here.0)) e
    ∙ front cell pad here.0 (omega (arith, short n h)) (omega (arith, length-append cell pad))

pub group_at : (n m : ℕ) → n < 1000 → 3 ≤ m → take 3 (take m (drop (n * 4) GROUPS)) ≡ group n
group_at n m h le =
    let here = at group_in_four (λ k _. refl) 1000 0 n h (omega arith) in
    let e : 0 + n ≡ n = omega arith in
    take-take 3 m (drop (n * 4) GROUPS) le
    ∙ ap (λ (xs : List ℕ). take 3 (drop (n * 4) xs)) groups_are
    ∙ ap (take 3) here.1
    ∙ ap (λ (k : ℕ). take 3 (group_in_four k ++ here.0)) e

abbrev each : (ℕ → ℕ) → ℕ → ℕ → List ℕ
each f zero k = []
each f (suc n) k = f k ∷ each f n (suc k)

each_at : (f : ℕ → ℕ) (n k p : ℕ) → p < n → get_or (each f n k) p 0 ≡ f (k + p)
each_at f zero k p lt = absurd (omega arith)
each_at f (suc n) k zero lt =
    let e : k + 0 ≡ k = omega arith in
    rw e refl
each_at f (suc n) k (suc p) lt =
    let e : k + suc p ≡ suc k + p = omega arith in
    rw e (each_at f n (suc k) p (omega arith))

abbrev cell_length : ℕ → ℕ
cell_length k = length (44 ∷ decimal k)

lengths_are : LENGTHS ≡ each cell_length 1000 0
unfolding digits
lengths_are = refl

pub length_at : (n : ℕ) → n < 1000 → get_or LENGTHS n 0 ≡ length (44 ∷ decimal n)
length_at n h =
    let e : 0 + n ≡ n = omega arith in
    ap (λ (xs : List ℕ). get_or xs n 0) lengths_are ∙ each_at cell_length 1000 0 n h ∙ ap cell_length e
