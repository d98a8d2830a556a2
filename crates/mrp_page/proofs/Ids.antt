-- The ids of a page differ from one another.
use Rattle.std.proofs.Common.{◌≡◌, ◌∙◌, ℕ, suc, Bool, true, false, not, Option, Some, List, [], ◌∷◌, ◌++◌, codes, drop, get_or, map, refl, sym, ap, subst, take, arith}
use Rattle.std.specs.Prelude.{◌≢◌, ◌==◌, ◌&&◌, ⊤}
use Rattle.std.specs.Char.{is_ascii_digit}
use Rattle.std.specs.List.{All, flat_map}
use Rattle.std.proofs.lemmas.Bool.{both_ways, not-true}
use Rattle.std.proofs.lemmas.Cmp.{nat_list_eq_equiv}
use Rattle.std.proofs.lemmas.List.{append_cancel_left, append_cancel_right, get_or-take, length-take}
use Rattle.std.proofs.lemmas.List.Concat.{flat_map-append}
use Rattle.std.proofs.lemmas.List.Elements.{All-append, All-from_get_or, All-from_recursion, All-head, All-map, All-tail, All-weaker, filter_passes}
use Rattle.std.proofs.lemmas.List.Kept.{AllPairs-cons, AllPairs-filter}
use Rattle.std.proofs.lemmas.Map.Made.{AllPairs-from_IsDistinct, IsDistinct-from_count}
use Rattle.std.proofs.lemmas.Slice.Eq.{bytes_eq-Decides}
use Rattle.mrp_page.specs.Escaped.{escaped, escaped_byte, read_back}
use Rattle.mrp_page.specs.Ids.{AreApart, AreNamed, centre_id, centres_shown, entry_id, item_id, order_id, order_ids, order_numbers, page_ids, part_ids, section_ids}
use Rattle.mrp_page.specs.Known.{entries_kept, names_shown}
use Rattle.mrp_page.specs.Notes.{Noted}
use Rattle.mrp_page.specs.Reading.{IsDayOf}
use Rattle.mrp_page.specs.Row.{Cells}
use Rattle.mrp_page.specs.Shown.{IsByItems, has_name, items_in, items_to_show, others, rows_of, run_shown}
use Rattle.mrp_page.specs.Spot.{Names}
use Rattle.mrp_page.specs.declared.limits.TheConstants.{MOST_ITEMS}
use Rattle.mrp_day.specs.declared.section.Section.TheVariants as s
use Rattle.mrp_page.proofs.made.Rows.{all-flat}
use Rattle.mrp_page.proofs.NamesOnce.{has-at, items-distinct}
use Rattle.mrp_page.proofs.ReadBack.{reads-back}
use Rattle.mrp_page.proofs.ShownItems.{shows-first}

abbrev Differs : List ℕ → List ℕ → Type 0
Differs x y = x ≢ y

apart-none : AreApart []
apart-none = λ i j d before within. absurd (omega (arith, within))

apart-rest : (x : List ℕ) (xs : List (List ℕ)) → AreApart (x ∷ xs) → AreApart xs
apart-rest x xs apart = λ i j d before within. apart (suc i) (suc j) d (omega (arith, before)) (omega (arith, within))

apart-first : (x : List ℕ) (xs : List (List ℕ)) → AreApart (x ∷ xs) → All (Differs x) xs
apart-first x xs apart = λ k d within. apart 0 (suc k) d (omega arith) (omega (arith, within))

-- two lists of texts that differ, if no text is in both
apart-append : (xs ys : List (List ℕ)) → AreApart xs → AreApart ys → All (λ x. All (Differs x) ys) xs → AreApart (xs ++ ys)
apart-append [] ys a b c = b
apart-append (x ∷ xs) ys a b c =
    AllPairs-cons Differs x (xs ++ ys) (All-append (Differs x) xs ys (apart-first x xs a) (All-head (λ (x : List ℕ). All (Differs x) ys) x xs c))
    (apart-append xs ys (apart-rest x xs a) b (All-tail (λ (x : List ℕ). All (Differs x) ys) x xs c))

-- as when all of the first pass a test, and none of the second
apart-by : (p : List ℕ → Bool) (xs ys : List (List ℕ)) → AreApart xs → AreApart ys → All (λ x. p x ≡ true) xs → All (λ y. p y ≡ false) ys → AreApart (xs ++ ys)
apart-by p xs ys a b passes fails =
    apart-append xs ys a b (All-weaker (λ (x : List ℕ). p x ≡ true) (λ (x : List ℕ). All (Differs x) ys) (λ x is. differs x is) xs passes)
  where
    differs : (x : List ℕ) → p x ≡ true → All (Differs x) ys
    differs x is = All-weaker (λ (y : List ℕ). p y ≡ false) (Differs x) (λ y isnt e. both_ways (p y) isnt (subst (λ (t : List ℕ). p t ≡ true) e is)) ys fails

apart-map : (f : List ℕ → List ℕ) → ((x y : List ℕ) → f x ≡ f y → x ≡ y) → (xs : List (List ℕ)) → AreApart xs → AreApart (map f xs)
apart-map f one [] apart = apart-none
apart-map f one (x ∷ xs) apart =
    AllPairs-cons Differs (f x) (map f xs) (All-map (Differs (f x)) f xs (All-weaker (Differs x) (λ (y : List ℕ). Differs (f x) (f y)) (λ y other e. other (one x y e)) xs (apart-first x xs apart))) (apart-map f one xs (apart-rest x xs apart))

apart-flat : (f : List ℕ → List (List ℕ)) (xs : List (List ℕ)) → AreApart xs → ((x : List ℕ) → AreApart (f x)) → ((x y : List ℕ) → x ≢ y → All (λ a. All (Differs a) (f y)) (f x)) → AreApart (flat_map f xs)
apart-flat f [] apart each across = apart-none
apart-flat f (x ∷ xs) apart each across =
    apart-append (f x) (flat_map f xs) (each x) (apart-flat f xs (apart-rest x xs apart) each across)
    (λ k d within. all-flat (Differs x) (Differs (get_or (f x) k d)) f (λ y other. across x y other k d within) xs (apart-first x xs apart))

apart-take : (n : ℕ) (xs : List (List ℕ)) → AreApart xs → AreApart (take n xs)
apart-take n xs apart = λ i j d before within.
    let few = length-take n xs in
    rw (get_or-take n xs i d (omega arith), get_or-take n xs j d (omega arith)) (apart i j d before (omega arith))

-- escaped texts are equal only if the texts are
escaped-one : (a b : List ℕ) → escaped a ≡ escaped b → a ≡ b
escaped-one a b e = same (sym (reads-back a) ∙ ap read_back e ∙ reads-back b)
  where
    same : Some a ≡ Some b → a ≡ b
    same is = cc

after-one : (front a b : List ℕ) → front ++ escaped a ≡ front ++ escaped b → a ≡ b
after-one front a b e = escaped-one a b (append_cancel_left front (escaped a) (escaped b) e)

-- digits have no dash, so what stands before the first dash and behind it are known
abbrev IsPlain : List ℕ → Type 0
IsPlain text = All (λ byte. is_ascii_digit byte ≡ true) text

no-dash : (byte : ℕ) → is_ascii_digit byte ≡ true → byte ≡ 45 → ⊥
no-dash byte is e = both_ways (is_ascii_digit byte) (ap is_ascii_digit e) is

first-same : (x y : ℕ) (xs ys : List ℕ) → x ∷ xs ≡ y ∷ ys → x ≡ y
first-same x y xs ys e = ap (λ (t : List ℕ). get_or t 0 0) e

rest-same : (x y : ℕ) (xs ys : List ℕ) → x ∷ xs ≡ y ∷ ys → xs ≡ ys
rest-same x y xs ys e = ap (drop 1) e

split : (m n a b : List ℕ) → IsPlain m → IsPlain n → m ++ (45 ∷ a) ≡ n ++ (45 ∷ b) → a ≡ b
split [] [] a b of-m of-n e = rest-same 45 45 a b e
split [] (y ∷ n) a b of-m of-n e = absurd (no-dash y (of-n 0 0 (omega arith)) (sym (first-same 45 y a (n ++ (45 ∷ b)) e)))
split (x ∷ m) [] a b of-m of-n e = absurd (no-dash x (of-m 0 0 (omega arith)) (first-same x 45 (m ++ (45 ∷ a)) b e))
split (x ∷ m) (y ∷ n) a b of-m of-n e =
    split m n a b (All-tail (λ (byte : ℕ). is_ascii_digit byte ≡ true) x m of-m) (All-tail (λ (byte : ℕ). is_ascii_digit byte ≡ true) y n of-n) (rest-same x y (m ++ (45 ∷ a)) (n ++ (45 ∷ b)) e)

order-text : (number name : List ℕ) → escaped (codes "o-" ++ (number ++ (45 ∷ name))) ≡ order_id number name
unfolding escaped
order-text number name =
    flat_map-append escaped_byte (codes "o-") (number ++ (45 ∷ name)) ∙ ap (λ (t : List ℕ). codes "o-" ++ t) (flat_map-append escaped_byte number (45 ∷ name))

order-parts : (m n a b : List ℕ) → order_id m a ≡ order_id n b → m ++ (45 ∷ a) ≡ n ++ (45 ∷ b)
order-parts m n a b e =
    append_cancel_left (codes "o-") (m ++ (45 ∷ a)) (n ++ (45 ∷ b)) (escaped-one (codes "o-" ++ (m ++ (45 ∷ a))) (codes "o-" ++ (n ++ (45 ∷ b))) (order-text m a ∙ e ∙ sym (order-text n b)))

-- the kinds of ids, by how they begin
abbrev is_entry : List ℕ → Bool
is_entry id = get_or id 0 0 == 101

abbrev is_item : List ℕ → Bool
is_item id = get_or id 0 0 == 105

abbrev is_centre : List ℕ → Bool
is_centre id = get_or id 0 0 == 99

abbrev is_own : List ℕ → Bool
is_own id = not (is_entry id) && not (get_or id 1 0 == 45)

own-apart : AreApart (section_ids ++ part_ids)
unfolding section_ids part_ids
own-apart = AllPairs-from_IsDistinct bytes_eq-Decides (section_ids ++ part_ids) (IsDistinct-from_count nat_list_eq_equiv (section_ids ++ part_ids) refl)

own-are : All (λ id. is_own id ≡ true) (section_ids ++ part_ids)
unfolding section_ids part_ids
own-are = All-from_recursion (λ (id : List ℕ). is_own id ≡ true) (section_ids ++ part_ids) (refl, (refl, (refl, (refl, (refl, (refl, (refl, (refl, (refl, (refl, (refl, (refl, (refl, (refl, (refl, tt)))))))))))))))

module _ (notes : Noted) (named : AreNamed notes) where
  orders-apart : AreApart (flat_map (order_ids notes) (names_shown notes))
  orders-apart =
      apart-flat (order_ids notes) (names_shown notes) named.items
      (λ name. apart-map (λ number. order_id number name) (λ m n e. append_cancel_right m n (45 ∷ name) (order-parts m n name name e)) (order_numbers notes name) (named.orders name))
      (λ name another other.
      All-map (λ (a : List ℕ). All (Differs a) (order_ids notes another)) (λ number. order_id number name) (order_numbers notes name)
      (λ k d within.
      let m : List ℕ = get_or (order_numbers notes name) k d in
      All-map (Differs (order_id m name)) (λ number. order_id number another) (order_numbers notes another)
      (λ i e inside same. other (split m (get_or (order_numbers notes another) i e) name another (named.digits name k d within) (named.digits another i e inside) (order-parts m (get_or (order_numbers notes another) i e) name another same)))))

  all-orders : (p : List ℕ → Bool) → ((number name : List ℕ) → p (order_id number name) ≡ false) → All (λ id. p id ≡ false) (flat_map (order_ids notes) (names_shown notes))
  all-orders p none =
      all-flat (λ (name : List ℕ). ⊤) (λ (id : List ℕ). p id ≡ false) (order_ids notes) (λ name _. All-map (λ (id : List ℕ). p id ≡ false) (λ number. order_id number name) (order_numbers notes name) (λ k d within. none (get_or (order_numbers notes name) k d) name)) (names_shown notes) (λ k d within. tt)

  all-by : (p : List ℕ → Bool) (b : Bool) (f : List ℕ → List ℕ) (xs : List (List ℕ)) → ((x : List ℕ) → p (f x) ≡ b) → All (λ id. p id ≡ b) (map f xs)
  all-by p b f xs is = All-map (λ (id : List ℕ). p id ≡ b) f xs (λ k d within. is (get_or xs k d))

  pub ids-apart : AreApart (page_ids notes)
  unfolding page_ids
  ids-apart =
      let orders : List (List ℕ) = flat_map (order_ids notes) (names_shown notes) in
      let centres : List (List ℕ) = map centre_id (centres_shown notes) in
      let items : List (List ℕ) = map item_id (names_shown notes) in
      let entries : List (List ℕ) = map entry_id (entries_kept notes) in
      apart-by is_own (section_ids ++ part_ids) (entries ++ (items ++ (centres ++ orders))) own-apart
      (apart-by is_entry entries (items ++ (centres ++ orders)) (apart-map entry_id (after-one (codes "e")) (entries_kept notes) named.entries)
      (apart-by is_item items (centres ++ orders) (apart-map item_id (after-one (codes "i-")) (names_shown notes) named.items)
      (apart-by is_centre centres orders (apart-map centre_id (after-one (codes "c-")) (centres_shown notes) named.centres) orders-apart
      (all-by is_centre true centre_id (centres_shown notes) (λ name. refl)) (all-orders is_centre (λ number name. refl)))
      (all-by is_item true item_id (names_shown notes) (λ name. refl))
      (All-append (λ (id : List ℕ). is_item id ≡ false) centres orders (all-by is_item false centre_id (centres_shown notes) (λ name. refl)) (all-orders is_item (λ number name. refl))))
      (all-by is_entry true entry_id (entries_kept notes) (λ number. refl))
      (All-append (λ (id : List ℕ). is_entry id ≡ false) items (centres ++ orders) (all-by is_entry false item_id (names_shown notes) (λ name. refl))
      (All-append (λ (id : List ℕ). is_entry id ≡ false) centres orders (all-by is_entry false centre_id (centres_shown notes) (λ name. refl)) (all-orders is_entry (λ number name. refl)))))
      own-are
      (All-append (λ (id : List ℕ). is_own id ≡ false) entries (items ++ (centres ++ orders)) (all-by is_own false entry_id (entries_kept notes) (λ number. refl))
      (All-append (λ (id : List ℕ). is_own id ≡ false) items (centres ++ orders) (all-by is_own false item_id (names_shown notes) (λ name. refl))
      (All-append (λ (id : List ℕ). is_own id ≡ false) centres orders (all-by is_own false centre_id (centres_shown notes) (λ name. refl)) (all-orders is_own (λ number name. refl)))))

-- the items that a page shows of a day by items differ
to-show-apart : (items : Names) (run : ℕ) (records : List Cells) → AreApart (items_to_show items run records)
unfolding items_to_show
to-show-apart items run records =
    let told : List (List ℕ) = items_in items (rows_of s.Messages run records) in
    let planned : List (List ℕ) = items_in items (rows_of s.Plan run records) in
    let of-told : AreApart told = AllPairs-from_IsDistinct bytes_eq-Decides told (items-distinct items (rows_of s.Messages run records)) in
    let of-planned : AreApart planned = AllPairs-from_IsDistinct bytes_eq-Decides planned (items-distinct items (rows_of s.Plan run records)) in
    apart-take MOST_ITEMS (told ++ others told planned)
    (apart-by (has_name told) told (others told planned) of-told (AllPairs-filter Differs (λ (name : List ℕ). not (has_name told name)) planned of-planned)
    (All-from_get_or (λ (name : List ℕ). has_name told name ≡ true) told [] (λ i within. has-at told (get_or told i []) i within refl))
    (All-weaker (λ (name : List ℕ). not (has_name told name) ≡ true) (λ (name : List ℕ). has_name told name ≡ false) (λ name is. not-true (has_name told name) is) (others told planned) (filter_passes (λ (name : List ℕ). not (has_name told name)) planned)))

pub items-apart : (items : Names) (asked : Option ℕ) (records : List Cells) (notes : Noted) → IsDayOf items asked records notes → IsByItems records → AreApart (names_shown notes)
items-apart items asked records notes day by-items = subst AreApart (sym (shows-first items asked records notes day by-items)) (to-show-apart items (run_shown asked records) records)
