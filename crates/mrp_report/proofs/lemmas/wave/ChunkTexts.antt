-- Texts of places in a row, and of chunks of them.
use Rattle.std.proofs.Common.{◌≡◌, ◌∙◌, ℕ, zero, suc, ◌+◌, ◌-◌, ◌*◌, ◌<◌, ◌≤◌, List, [], ◌∷◌, ◌++◌, sym, ap, arith, add-mul, mul-le-mul_right, append_assoc}
use Rattle.std.proofs.lemmas.List.{append-nil}
use Rattle.std.proofs.lemmas.List.Concat.{flat_map-append, flat_map-cons}
use Rattle.std.specs.List.{flat_map, range_with_len}
use Rattle.mrp_report.specs.wave.Chunks.{between, count_of, end_of, inputs_of, reach, row_of, rows_from, rows_in, text_of}
use Rattle.mrp_report.specs.section.Sections.{section_text}
use Rattle.mrp_report.specs.declared.section.Section.{Section}
use Rattle.mrp_item.specs.Inputs.{Inputs}
use Rattle.mrp_report.specs.declared.wave.cut.Chunks.{Chunks}

-- numbers in a row, and then those that follow
range-both : (a m n : ℕ) → range_with_len a m ++ range_with_len (a + m) n ≡ range_with_len a (m + n)
range-both a zero n =
    let start : a + 0 ≡ a = omega arith in
    let all : 0 + n ≡ n = omega arith in
    ap (λ (k : ℕ). range_with_len k n) start ∙ ap (range_with_len a) (sym all)
range-both a (suc m) n =
    let start : a + suc m ≡ a + 1 + m = omega arith in
    let all : suc m + n ≡ suc (m + n) = omega arith in
    ap (λ (xs : List ℕ). a ∷ xs) (ap (λ (k : ℕ). range_with_len (a + 1) m ++ range_with_len k n) start ∙ range-both (a + 1) m n)
    ∙ ap (range_with_len a) (sym all)

pub between-none : (text : ℕ → List ℕ) (a : ℕ) → between text a a ≡ []
between-none text a =
    let none : a - a ≡ 0 = omega arith in
    ap (λ (n : ℕ). flat_map text (range_with_len a n)) none

-- the texts of two stretches of places, one after another
pub between-both : (text : ℕ → List ℕ) (a b c : ℕ) → a ≤ b → b ≤ c → between text a c ≡ between text a b ++ between text b c
between-both text a b c first second =
    let start : a + (b - a) ≡ b = omega (arith, first) in
    let all : (b - a) + (c - b) ≡ c - a = omega (arith, first, second) in
    let seam : range_with_len a (c - a) ≡ range_with_len a (b - a) ++ range_with_len b (c - b) =
    ap (range_with_len a) (sym all) ∙ sym (range-both a (b - a) (c - b)) ∙ ap (λ (k : ℕ). range_with_len a (b - a) ++ range_with_len k (c - b)) start in
    ap (flat_map text) seam ∙ flat_map-append text (range_with_len a (b - a)) (range_with_len b (c - b))

-- the texts of one more place
pub between-more : (text : ℕ → List ℕ) (a b : ℕ) → a ≤ b → between text a (b + 1) ≡ between text a b ++ text b
between-more text a b within =
    let one : b + 1 - b ≡ 1 = omega arith in
    between-both text a b (b + 1) within (omega arith)
    ∙ ap (λ (t : List ℕ). between text a b ++ t)
    (ap (λ (n : ℕ). flat_map text (range_with_len b n)) one ∙ flat_map-cons text b [] ∙ append-nil (text b))

-- the rows of a section are those of the places from the first to the last
pub rows-between : (c : Chunks) → rows_in c ≡ between (row_of c) 0 (count_of c)
rows-between c =
    let all : count_of c ≡ count_of c - 0 = omega arith in
    ap (λ (n : ℕ). flat_map (row_of c) (range_with_len 0 n)) all

pub reach-none : (count size from : ℕ) → from ≤ count → reach count size from 0 ≡ from
reach-none count size from within = omega (arith, within)

pub reach-within : (count size from chunks : ℕ) → reach count size from chunks ≤ count
reach-within count size from chunks = omega arith

pub reach-from : (count size from chunks : ℕ) → from ≤ count → from ≤ reach count size from chunks
reach-from count size from chunks within = omega (arith, within)

-- one more chunk
pub reach-more : (count size from chunks : ℕ) → reach count size (reach count size from chunks) 1 ≡ reach count size from (chunks + 1)
reach-more count size from chunks = omega (arith, add-mul chunks 1 size)

-- some chunks get further
pub reach-past : (count size from chunks : ℕ) → from < count → 0 < size → 0 < chunks → from < reach count size from chunks
reach-past count size from chunks within filled some =
    let more : 1 * size ≤ chunks * size = mul-le-mul_right size some in
    omega (arith, within, filled, more)

-- as many chunks from the same place
pub rows-same : (c : Chunks) {a b m n : ℕ} → a ≡ b → m ≡ n → rows_from c a m ≡ rows_from c b n
rows-same c {a} {b} {m} from chunks = ap (λ (at : ℕ). rows_from c at m) from ∙ ap (rows_from c b) chunks

-- the rows of one more chunk
pub chunk-more : (c : Chunks) (from k : ℕ) → from ≤ count_of c → rows_from c from (k + 1) ≡ rows_from c from k ++ rows_from c (end_of c from k) 1
chunk-more c from k within =
    let count : ℕ = count_of c in
    let there : ℕ = end_of c from k in
    let next : end_of c there 1 ≡ end_of c from (k + 1) = reach-more count c.size from k in
    ap (between (row_of c) from) (sym next)
    ∙ between-both (row_of c) from there (end_of c there 1) (reach-from count c.size from k within) (reach-from count c.size there 1 (reach-within count c.size from k))

-- what is left of some chunks after the first of them
pub chunks-rest : (c : Chunks) (from k all : ℕ) → from ≤ count_of c → k ≤ all → rows_from c from all ≡ rows_from c from k ++ between (row_of c) (end_of c from k) (end_of c from all)
chunks-rest c from k all within less =
    let more : k * c.size ≤ all * c.size = mul-le-mul_right c.size less in
    let on : end_of c from k ≤ end_of c from all = omega (arith, more) in
    between-both (row_of c) from (end_of c from k) (end_of c from all) (reach-from (count_of c) c.size from k within) on

-- what is left of all rows after those before a place
pub rows-rest : (c : Chunks) (to : ℕ) → to ≤ count_of c → rows_in c ≡ between (row_of c) 0 to ++ between (row_of c) to (count_of c)
rows-rest c to within = rows-between c ∙ between-both (row_of c) 0 to (count_of c) (omega arith) within

-- no place is done yet
pub before-places : (text : ℕ → List ℕ) (a : ℕ) (before : List ℕ) → before ≡ before ++ between text a a
before-places text a before = sym (ap (λ (t : List ℕ). before ++ t) (between-none text a) ∙ append-nil before)

-- one more place is done after what was there before
pub behind-places : (text : ℕ → List ℕ) (a b : ℕ) (before : List ℕ) → a ≤ b → before ++ between text a (b + 1) ≡ before ++ between text a b ++ text b
behind-places text a b before within =
    ap (λ (t : List ℕ). before ++ t) (between-more text a b within) ∙ sym (append_assoc before (between text a b) (text b))

-- a page with the texts of the places so far, and then with one more
pub place-added : (text : ℕ → List ℕ) (a b : ℕ) (page next before : List ℕ) → a ≤ b → page ≡ before ++ between text a b → next ≡ page ++ text b → next ≡ before ++ between text a (b + 1)
place-added text a b page next before within is adds =
    adds ∙ ap (λ (t : List ℕ). t ++ text b) is ∙ sym (behind-places text a b before within)

-- all rows after what was there before, when those before a place are done
pub places-rest : (c : Chunks) (to : ℕ) (before : List ℕ) → to ≤ count_of c → before ++ rows_in c ≡ before ++ between (row_of c) 0 to ++ between (row_of c) to (count_of c)
places-rest c to before within =
    ap (λ (t : List ℕ). before ++ t) (rows-rest c to within) ∙ sym (append_assoc before (between (row_of c) 0 to) (between (row_of c) to (count_of c)))

-- the text of a section's chunks is the section's
pub text-is : (c : Chunks) (s : Inputs) (x : Section) → inputs_of c ≡ s → c.section ≡ x → text_of c ≡ section_text s x
text-is c s x made is = ap (λ (t : Inputs). section_text t c.section) made ∙ ap (section_text s) is
