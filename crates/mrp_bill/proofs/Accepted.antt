-- From the lists of a bill back to its lines.
use Rattle.std.proofs.Common.{◌≡◌, ◌⊎◌, inl, inr, All, ℕ, zero, suc, ◌<◌, ◌≤◌, Bool, true, false, cond, List, [], ◌∷◌, length, map, filter, get_or, slice_index, refl, sym, ap, subst, ◌∙◌, arith}
use Rattle.std.specs.Prelude.{◌==◌, ◌↔◌, IfOk, Result, Ok, Err, Vec}
use Rattle.std.specs.declared.alloc.Global.{Global}
use Rattle.mrp_qty.specs.declared.memory.NoMemory.{NoMemory as Refused}
use Rattle.std.specs.List.{Contains, range_with_len}
use Rattle.std.proofs.lemmas.List.{get_or_default}
use Rattle.std.proofs.Math.ListN.{get_or-eq_default}
use Rattle.std.proofs.lemmas.Bool.{cases_lt}
use Rattle.std.proofs.lemmas.List.FromFn.{fill_by_all, get_or-map-range_with_len, length-map-range_with_len}
use Rattle.mrp_tables.specs.Tables.{Tables}
use Rattle.mrp_bill.specs.Shop.{Shop, IsShop}
use Rattle.mrp_tables.specs.declared.rows.BillLine.{BillLine}
use Rattle.mrp_bill.specs.declared.lists.Lists.{Lists}
use Rattle.mrp_tables.specs.declared.item.Item.{Item}
use Rattle.mrp_tables.specs.Facts.{IsBillLine}
use Rattle.mrp_bill.specs.Bill.{AreWithin, is_parent, IsParent, NeedsItself, IsFirstLoop, IsLoopPath, IsPath, AreCodes, IsCode, IsDepth, HoldsEachOnce, IsOrder, Chain, line_at, lines_of}
use Rattle.mrp_bill.specs.BillLists.{AreLists}
use Rattle.mrp_bill.specs.Climb.{IsSettled}
use Rattle.mrp_bill.specs.Fault.{IsRefusal, loop_fault}
use Rattle.mrp_bill.specs.Links.{IsFirstRound, IsRound, AreRising}
use Rattle.mrp_bill.specs.Grouped.{IsListed}
use Rattle.mrp_bill.proofs.BillListed.{listed-parent, parent-listed, listed-child, parent-within}
use Rattle.mrp_bill.proofs.Decided.{AreCodesBelow, code_in, decided}
use Rattle.mrp_bill.proofs.Linked.{leads-round, links-along, links-rise, links-trail, round-along, trail-links}

-- the lines of accepted tables name items that exist
pub are-within : (items : List Item) (lines : List BillLine) → All (IsBillLine items) lines → AreWithin (length items) lines
are-within items lines all = λ k d h. ((all k d h).parent, (all k d h).component)

pub parents-within : (bill : List BillLine) (count : ℕ) (lists : Lists) → AreLists bill count lists → (p i : ℕ) → IsListed lists.parents p i → p < length lists.parents
parents-within bill count lists l p i link = omega (arith, (listed-parent bill count lists.parents l.parents_size l.parents p i link).0, l.parents_size)

pub children-within : (bill : List BillLine) (count : ℕ) (lists : Lists) → AreLists bill count lists → (c i : ℕ) → IsListed lists.children c i → c < length lists.children
children-within bill count lists l c i link = omega (arith, listed-child bill count lists.children l.children_size l.children c i link, l.children_size)

to-parent : (bill : List BillLine) (count : ℕ) (lists : Lists) → AreLists bill count lists → (p i : ℕ) → IsListed lists.parents p i → IsParent bill p i
to-parent bill count lists l p i link = (listed-parent bill count lists.parents l.parents_size l.parents p i link).1

from-parent : (bill : List BillLine) (count : ℕ) (lists : Lists) → AreWithin count bill → AreLists bill count lists → (p i : ℕ) → IsParent bill p i → IsListed lists.parents p i
from-parent bill count lists within l p i link = parent-listed bill count lists.parents within l.parents p i link

-- the first item that needs itself, and its path
pub loop-path : (bill : List BillLine) (count : ℕ) (lists : Lists) (path : List ℕ) → AreWithin count bill → AreLists bill count lists
    → ((i : ℕ) × IsFirstRound (IsListed lists.parents) i × IsRound (IsListed lists.parents) i path) → IsLoopPath bill path
loop-path bill count lists path within l (i, first, round) =
    let (n, chain) = first.loop in (
      i,
      record {
        loop = (n, links-along (IsListed lists.parents) (IsParent bill) (to-parent bill count lists l) (suc n) i i chain);
        first = λ j h (m, back). first.first j h (m, links-along (IsParent bill) (IsListed lists.parents) (from-parent bill count lists within l) (suc m) j j back);
      },
      round-along (IsListed lists.parents) (IsParent bill) (to-parent bill count lists l) i path round,
    )

-- why tables with a loop are refused
pub loop-refusal : (bill : List BillLine) (count : ℕ) (lists : Lists) (found : Result (Vec ℕ Global) Refused) → AreWithin count bill → AreLists bill count lists
    → IfOk found (λ path. (i : ℕ) × IsFirstRound (IsListed lists.parents) i × IsRound (IsListed lists.parents) i path.items) → IsRefusal bill (loop_fault found)
loop-refusal bill count lists (Ok path) within l round = loop-path bill count lists path.items within l round
loop-refusal bill count lists (Err refused) within l round = tt

pub are-codes : (bill : List BillLine) (count : ℕ) (lists : Lists) (code : ℕ → ℕ) → AreWithin count bill → AreLists bill count lists → AreRising (IsListed lists.parents) code → AreCodes bill code
are-codes bill count lists code within l r = record {
  rises = λ p i link. r.rises p i (from-parent bill count lists within l p i link);
  from_parent = λ i n e. let (p, link, is) = r.from_parent i n e in (p, to-parent bill count lists l p i link, is);
}

pub is-order : (bill : List BillLine) (count : ℕ) (lists : Lists) (order : List ℕ) → AreWithin count bill → AreLists bill count lists → HoldsEachOnce count order → IsSettled (IsListed lists.parents) order → IsOrder bill count order
is-order bill count lists order within l all settled = record {
  all = all;
  parents_first = λ j k low high link.
      let (n, before, is) = settled k (slice_index order j) high (from-parent bill count lists within l (slice_index order j) (slice_index order k) link) in
      let same : n ≡ j = all.once n j (omega arith) low is in
      omega arith;
}

-- with codes that rise no item needs itself
pub no-loop : (bill : List BillLine) (code : ℕ → ℕ) → AreCodes bill code → (i : ℕ) → NeedsItself bill i → ⊥
no-loop bill code c i (n, chain) = absurd (omega (arith, links-rise (IsParent bill) code c.rises (suc n) i i chain))

reached : (bill : List BillLine) (code : ℕ → ℕ) → AreCodes bill code → (n i : ℕ) → code i ≡ n → (a : ℕ) × Chain bill n a i
reached bill code c zero i e = (i, refl)
reached bill code c (suc n) i e =
    let (p, line, one_less) = c.from_parent i n e in
    let (a, chain) = reached bill code c n p one_less in
    (a, (p, chain, line))

pub codes-are : (bill : List BillLine) (code : ℕ → ℕ) → AreCodes bill code → (i : ℕ) → IsCode bill i (code i)
codes-are bill code c i = record {
  reached = reached bill code c (code i) i refl;
  greatest = λ m a chain. omega (arith, links-rise (IsParent bill) code c.rises m a i chain);
}

pub one-code : (bill : List BillLine) (i m n : ℕ) → IsCode bill i m → IsCode bill i n → m ≡ n
one-code bill i m n a b =
    let (x, to_m) = a.reached in
    let (y, to_n) = b.reached in
    omega (arith, b.greatest m x to_m, a.greatest n y to_n)

-- shops of equal tables
same-codes : (a b : Shop) → IsShop a → IsShop b → a.tables ≡ b.tables → (i : ℕ) → get_or a.codes i 0 ≡ get_or b.codes i 0
same-codes a b s t e i =
    let bills : a.tables.bills ≡ b.tables.bills = ap (λ (x : Tables). x.bills) e in
    one-code b.tables.bills i (get_or a.codes i 0) (get_or b.codes i 0)
    (subst (λ (lines : List BillLine). IsCode lines i (get_or a.codes i 0)) bills (codes-are a.tables.bills (slice_index a.codes) s.codes i)) (codes-are b.tables.bills (slice_index b.codes) t.codes i)

pub same-shop : (a b : Shop) → IsShop a → IsShop b → a.tables ≡ b.tables → a ≡ b
same-shop a b s t e =
    let size : length b.codes ≡ length a.codes = t.size ∙ ap (λ (x : Tables). length x.items) (sym e) ∙ sym s.size in
    let first = fill_by_all (λ k. get_or a.codes k 0) a.codes (length a.codes) 0 refl (λ k h. refl) in
    let second = fill_by_all (λ k. get_or a.codes k 0) b.codes (length a.codes) 0 size (λ k h. sym (same-codes a b s t e k)) in
    let codes : a.codes ≡ b.codes = first ∙ sym second in
    λ i. record { tables = e i; codes = codes i }

pub path-needs : (bill : List BillLine) (path : List ℕ) → IsLoopPath bill path → NeedsItself bill (slice_index path 0)
path-needs bill [] (i, first, round) = absurd round
path-needs bill (a ∷ []) (i, first, round) = absurd round
path-needs bill (a ∷ b ∷ more) (i, first, round) = subst (λ (x : ℕ). NeedsItself bill x) (sym round.0) first.loop

-- mapping after filtering is filtering after mapping
pub map-filter : {X Y : Type 0} (f : X → Y) (p : Y → Bool) (xs : List X) → map f (filter (λ x. p (f x)) xs) ≡ filter p (map f xs)
map-filter f p [] = refl
map-filter {X} {Y} f p (x ∷ xs) = by (p (f x)) (map-filter f p xs)
  where
    by : (b : Bool) → map f (filter (λ x. p (f x)) xs) ≡ filter p (map f xs)
        → map f (cond b (x ∷ filter (λ x. p (f x)) xs) (filter (λ x. p (f x)) xs)) ≡ cond b (f x ∷ filter p (map f xs)) (filter p (map f xs))
    by true rest = ap (λ (ys : List Y). f x ∷ ys) rest
    by false rest = rest

pub lines-are : (lines : List BillLine) (i : ℕ) → map (line_at lines) (lines_of lines i) ≡ filter (λ line. line.component == i) lines
lines-are lines i =
    map-filter (line_at lines) (λ line. line.component == i) (range_with_len 0 (length lines))
    ∙ ap (filter (λ line. line.component == i)) (sym (fill_by_all (line_at lines) lines (length lines) (record { parent = 0; component = 0; per = 0 }) refl (λ k h. refl)))

pub earlier : (lines : List BillLine) (count : ℕ) (order : List ℕ) → AreWithin count lines → IsOrder lines count order → (k p : ℕ) → k < length order → IsParent lines p (slice_index order k)
    → (j : ℕ) × (j < k) × (slice_index order j ≡ p)
earlier lines count order within o k p h link =
    let (low, _) = parent-within lines count p (slice_index order k) within link in
    let (j, at, is) = o.all.each p low in
    (j, o.parents_first j k at h (subst (λ (x : ℕ). IsParent lines x (slice_index order k)) (sym is) link), is)

-- an accepted shop keeps each item's low-level code
pub code-is : (s : Shop) (i : ℕ) → IsShop s → IsCode s.tables.bills i (slice_index s.codes i)
code-is s i ok = codes-are s.tables.bills (slice_index s.codes) ok.codes i

-- the greatest of the codes is the depth
pub depth-is : (s : Shop) (n : ℕ) → IsShop s → All (λ code. code ≤ n) s.codes → (n ≡ 0) ⊎ Contains s.codes n → IsDepth s.tables.bills (length s.tables.items) n
depth-is s n ok all from = record {
  greatest = λ i m h is. let same : m ≡ slice_index s.codes i = one-code s.tables.bills i m (slice_index s.codes i) is (code-is s i ok) in omega (arith, all i 0 (rw ok.size h));
  reached = by from;
}
  where
    by : (n ≡ 0) ⊎ Contains s.codes n → (n ≡ 0) ⊎ ((i : ℕ) × (i < length s.tables.items) × IsCode s.tables.bills i n)
    by (inl none) = inl none
    by (inr (i, h, is)) = inr (i, rw (← ok.size) h, subst (λ (x : ℕ). IsCode s.tables.bills i x) (get_or_default s.codes i 0 n h ∙ is) (code-is s i ok))

-- a chain of lines is a path with an item for each line
pub chain-path : (lines : List BillLine) (n a b : ℕ) → Chain lines n a b ↔ ((rest : List ℕ) × (length rest ≡ n) × IsPath lines a rest b)
chain-path lines n a b = (links-trail (IsParent lines) n a b, λ (rest, size, path). subst (λ (m : ℕ). Chain lines m a b) size (trail-links (IsParent lines) a rest b path))

decided-bill : (count : ℕ) (lines : List BillLine) → AreWithin count lines → ((i : ℕ) × IsFirstLoop lines i) ⊎ AreCodesBelow count (is_parent lines) (code_in count (is_parent lines))
decided-bill count lines within = decided count (is_parent lines) (λ p i link. parent-within lines count p i within link)

-- a first item needs itself, or none does and each has a code
pub loop-or-codes : (count : ℕ) (lines : List BillLine) → AreWithin count lines → ((i : ℕ) × IsFirstLoop lines i) ⊎ (((i : ℕ) → NeedsItself lines i → ⊥) × ((i : ℕ) → (n : ℕ) × IsCode lines i n))
loop-or-codes count lines within = by (decided-bill count lines within)
  where
    by : ((i : ℕ) × IsFirstLoop lines i) ⊎ AreCodesBelow count (is_parent lines) (code_in count (is_parent lines))
        → ((i : ℕ) × IsFirstLoop lines i) ⊎ (((i : ℕ) → NeedsItself lines i → ⊥) × ((i : ℕ) → (n : ℕ) × IsCode lines i n))
    by (inl first) = inl first
    by (inr c) = inr (no-loop lines (code_in count (is_parent lines)) c.rising, λ i. (code_in count (is_parent lines) i, codes-are lines (code_in count (is_parent lines)) c.rising i))

-- tables with codes of their items are a shop
with-codes : (tables : Tables) (code : ℕ → ℕ) → AreCodesBelow (length tables.items) (is_parent tables.bills) code
    → IsShop (record { tables = tables; codes = map code (range_with_len 0 (length tables.items)) })
with-codes tables code c = record {
  size = size;
  codes = record {
    rises = λ p i link. omega (arith, same p, same i, c.rising.rises p i link);
    from_parent = λ i n e. let (p, link, at) = c.rising.from_parent i n (sym (same i) ∙ e) in (p, link, same p ∙ at);
  };
  low = λ k d h.
      let inside : k < length tables.items = omega (arith, size) in
      omega (arith, get_or-map-range_with_len code 0 (length tables.items) k k d inside (omega arith), c.low k inside);
}
  where
    size : length (map code (range_with_len 0 (length tables.items))) ≡ length tables.items
    size = length-map-range_with_len code 0 (length tables.items)

    by : (i : ℕ) → (i < length tables.items) ⊎ (length tables.items ≤ i) → get_or (map code (range_with_len 0 (length tables.items))) i 0 ≡ code i
    by i (inl lt) = get_or-map-range_with_len code 0 (length tables.items) i i 0 lt (omega arith)
    by i (inr ge) = get_or-eq_default (map code (range_with_len 0 (length tables.items))) 0 {n = i} (omega (arith, size)) ∙ sym (c.past i ge)

    same : (i : ℕ) → get_or (map code (range_with_len 0 (length tables.items))) i 0 ≡ code i
    same i = by i (cases_lt i (length tables.items))

-- tables have the path of a loop, or are a shop
pub loop-or-shop : (tables : Tables) → AreWithin (length tables.items) tables.bills → ((path : List ℕ) × IsLoopPath tables.bills path) ⊎ ((shop : Shop) × IsShop shop × (shop.tables ≡ tables))
loop-or-shop tables within = by (decided-bill (length tables.items) tables.bills within)
  where
    by : ((i : ℕ) × IsFirstLoop tables.bills i) ⊎ AreCodesBelow (length tables.items) (is_parent tables.bills) (code_in (length tables.items) (is_parent tables.bills))
        → ((path : List ℕ) × IsLoopPath tables.bills path) ⊎ ((shop : Shop) × IsShop shop × (shop.tables ≡ tables))
    by (inl (i, first)) = let (path, round) = leads-round (IsParent tables.bills) i first.loop in inl (path, (i, first, round))
    by (inr c) = inr (record { tables = tables; codes = map (code_in (length tables.items) (is_parent tables.bills)) (range_with_len 0 (length tables.items)) }, with-codes tables (code_in (length tables.items) (is_parent tables.bills)) c, refl)
