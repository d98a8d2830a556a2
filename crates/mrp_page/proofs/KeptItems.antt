-- What is kept of the rows of a section of items, row by row.
use Rattle.std.proofs.Common.{◌≡◌, ◌≢◌, ◌∙◌, ◌⊎◌, ◌+◌, ◌-◌, ◌^◌, ◌<◌, ◌≤◌, ℕ, Bool, true, false, List, [], ◌∷◌, ◌++◌, length, map, get_or, refl, sym, ap, subst, arith, inl, inr}
use Rattle.std.specs.Prelude.{◌&&◌, ◌||◌, ◌==◌, if◌then◌else◌, is_some, min, nat_lt}
use Rattle.std.specs.List.{All}
use Rattle.std.proofs.lemmas.Bool.{and_parts, both_ways, false_from_ne_true, ltb-false, ltb-true, not-false, not-true, or_cases, or_parts}
use Rattle.std.proofs.lemmas.List.{append-nil, get_or_append_left, get_or_default, get_or_push, length_push, map_push}
use Rattle.std.proofs.lemmas.List.Elements.{All-nil, All-push}
use Rattle.mrp_page.specs.Row.{Cells, RowView, cell_at, is_of, same_text}
use Rattle.mrp_page.specs.Rows.{last_name, leaders}
use Rattle.mrp_page.specs.Section.{is_by_weeks, is_history, is_of_items, items_of, place_of, room_of}
use Rattle.mrp_page.specs.Shown.{StandTogether, each_once, has_name, is_asked, items_in, row_names}
use Rattle.mrp_page.specs.Spot.{Names, has_room, is_among, is_row, leads, spot_with, wants}
use Rattle.mrp_page.specs.declared.limits.TheConstants.{MOST_ITEMS}
use Rattle.mrp_cal.specs.declared.calendar.TheConstants.{MOST_WEEKS}
use Rattle.mrp_day.specs.declared.section.Section.{Section}
use Rattle.mrp_day.specs.declared.section.Section.TheVariants as s
use Rattle.mrp_page.specs.declared.spot.Place.TheVariants as place
use Rattle.mrp_page.specs.declared.spot.Spot.{Spot}
use Rattle.mrp_page.proofs.NamesOnce.{Keeps, has-at, has-push, items-new, items-same, keeps-more, keeps-none, keeps-past, place-of, same-text, text-same}
use Rattle.mrp_page.proofs.RowLists.{last-more, leaders-more}

-- a section whose rows belong to items, with room for at least 200 items; neither the first of a report nor the
-- last
pub record IsItemSection (S : Section) : Type 0 where
  pub items : is_of_items S ≡ true
  pub most : items_of S ≡ MOST_ITEMS
  pub small : room_of S < 2 ^ 64
  pub report : is_history S ≡ false
  pub first : 2 ≤ place_of S
  pub last : place_of S < 7

pub of-plan : IsItemSection s.Plan
of-plan = record { items = refl; most = refl; small = omega arith; report = refl; first = omega arith; last = omega arith }

pub of-messages : IsItemSection s.Messages
of-messages = record { items = refl; most = refl; small = omega arith; report = refl; first = omega arith; last = omega arith }

abbrev pub name_of : Cells → List ℕ
name_of cells = get_or cells 0 []

-- the names of the items that rows are of
abbrev pub leader_names : List RowView → List (List ℕ)
leader_names rows = map (λ r. cell_at r 0) (leaders [] rows)

-- which rows a page should show
pub wants-asked : (items : Names) (S : Section) (cells : Cells) → is_of_items S ≡ true → wants items S cells ≡ is_asked items (name_of cells)
wants-asked items S cells of = rw of (by (length items == 0))
  where
    by : (b : Bool) → (if b || false then true else is_among items (name_of cells)) ≡ (if b then true else is_among items (name_of cells))
    by true = refl
    by false = refl

-- the last of these rows stands at a spot and has this name, or there is none yet
abbrev pub EndsAt : List Cells → Spot → List ℕ → Type 0
EndsAt rows spot last = ((rows ≡ []) × (is_row spot.place ≡ false)) ⊎ ((front : List Cells) × (r : Cells) × (rows ≡ front ++ (r ∷ [])) × (name_of r ≡ last) × (is_row spot.place ≡ true))

-- a name that occurs again occurs after itself
last-again : (names front : List (List ℕ)) (last name : List ℕ) → StandTogether (names ++ (name ∷ [])) → names ≡ front ++ (last ∷ []) → has_name names name ≡ true → last ≡ name
last-again names front last name stand is has =
    let (i, within, at) = place-of names name has in
    let long = length_push names name in
    let long-front : length names ≡ length front + 1 = ap length is ∙ length_push front last in
    let here = get_or_push names name [] (length names) refl in
    let at-i : get_or (names ++ (name ∷ [])) i [] ≡ name = get_or_append_left names (name ∷ []) [] i within ∙ get_or_default names i [] name within ∙ at in
    let at-last : get_or (names ++ (name ∷ [])) (length front) [] ≡ last =
    get_or_append_left names (name ∷ []) [] (length front) (omega arith) ∙ ap (λ (t : List (List ℕ)). get_or t (length front) []) is ∙ get_or_push front last [] (length front) refl in
    sym at-last ∙ stand.together i (length front) (length names) (omega arith) (omega arith) (omega arith) (at-i ∙ sym here) ∙ here

-- a row that leads those of an item is of another one than all before it
lead-new : (rows : List Cells) (spot : Spot) (last : List ℕ) (cells : Cells) → EndsAt rows spot last → StandTogether (row_names rows ++ (name_of cells ∷ [])) → leads spot last cells ≡ true → has_name (row_names rows) (name_of cells) ≡ false
lead-new rows spot last cells (inl none) stand is = rw none.0 refl
lead-new rows spot last cells (inr (front, r, ends, named, row)) stand is =
    let differs : same_text last (name_of cells) ≡ false = not-true (same_text last (name_of cells)) (rw row at is) in
    false_from_ne_true _ (λ has.
    both_ways (same_text last (name_of cells)) differs
    (same-text last (name_of cells)
    (sym named ∙ last-again (row_names rows) (row_names front) (name_of r) (name_of cells) stand (ap row_names ends ∙ map_push (λ (c : Cells). name_of c) front r) has)))

record Follows (rows : List Cells) (spot : Spot) (last : List ℕ) (cells : Cells) : Type 0 where
  row : is_row spot.place ≡ true
  same : last ≡ name_of cells
  again : has_name (row_names rows) (name_of cells) ≡ true

-- a row that does not is of the last one
lead-old : (rows : List Cells) (spot : Spot) (last : List ℕ) (cells : Cells) → EndsAt rows spot last → leads spot last cells ≡ false → Follows rows spot last cells
lead-old rows spot last cells (inl none) is =
    let never : true ≡ false = rw none.1 at is in
    absurd cc
lead-old rows spot last cells (inr (front, r, ends, named, row)) is =
    let same : last ≡ name_of cells = text-same last (name_of cells) (not-false (same_text last (name_of cells)) (rw row at is)) in
    let names : row_names rows ≡ row_names front ++ (name_of r ∷ []) = ap row_names ends ∙ map_push (λ (c : Cells). name_of c) front r in
    let long = length_push (row_names front) (name_of r) in
    record {
      row = row;
      same = same;
      again = rw names
          (has-at (row_names front ++ (name_of r ∷ [])) (name_of cells) (length (row_names front)) (omega arith) (get_or_push (row_names front) (name_of r) [] (length (row_names front)) refl ∙ named ∙ same));
    }

-- what is kept of the rows of a section up to a spot, the rows up to there, and the name of the last
pub record Inside (items : Names) (S : Section) (count : ℕ) (rows : List Cells) (kept : List RowView) (spot : Spot) (last : List ℕ) : Type 0 where
  pub keeps : Keeps (items_in items rows) (leader_names kept)
  pub named : All (λ r. cell_at r 0 ≢ []) kept
  pub counts : spot.items ≡ length (items_in items rows)
  pub few : length (items_in items rows) ≤ count
  pub ends : EndsAt rows spot last
  pub here : is_row spot.place ≡ true → is_asked items last ≡ true → (spot.taken < room_of S) ⊎ (is_some spot.takes ≡ true) → last_name [] kept ≡ last
  pub among : (last_name [] kept ≡ []) ⊎ (has_name (row_names rows) (last_name [] kept) ≡ true)

-- one more row, of another item than the last, or of the same
leads-new : (kept : List RowView) (r : RowView) → is_of (last_name [] kept) r ≡ false → leader_names (kept ++ (r ∷ [])) ≡ leader_names kept ++ (cell_at r 0 ∷ [])
leads-new kept r other =
    ap (map (λ (q : RowView). cell_at q 0)) (leaders-more [] kept r ∙ ap (λ (b : Bool). leaders [] kept ++ (if b then [] else r ∷ [])) other)
    ∙ map_push (λ (q : RowView). cell_at q 0) (leaders [] kept) r

leads-same : (kept : List RowView) (r : RowView) → is_of (last_name [] kept) r ≡ true → leader_names (kept ++ (r ∷ [])) ≡ leader_names kept
leads-same kept r same =
    ap (map (λ (q : RowView). cell_at q 0)) (leaders-more [] kept r ∙ ap (λ (b : Bool). leaders [] kept ++ (if b then [] else r ∷ [])) same ∙ append-nil (leaders [] kept))

has-still : (rows : List Cells) (cells : Cells) (name : List ℕ) → (name ≡ []) ⊎ (has_name (row_names rows) name ≡ true) → (name ≡ []) ⊎ (has_name (row_names (rows ++ (cells ∷ []))) name ≡ true)
has-still rows cells name (inl none) = inl none
has-still rows cells name (inr has) =
    inr (ap (λ (t : List (List ℕ)). has_name t name) (map_push (λ (c : Cells). name_of c) rows cells) ∙ has-push (row_names rows) (name_of cells) name ∙ ap (λ (b : Bool). b || same_text name (name_of cells)) has)

has-last : (rows : List Cells) (cells : Cells) → has_name (row_names (rows ++ (cells ∷ []))) (name_of cells) ≡ true
has-last rows cells =
    let long = length_push (row_names rows) (name_of cells) in
    ap (λ (t : List (List ℕ)). has_name t (name_of cells)) (map_push (λ (c : Cells). name_of c) rows cells)
    ∙ has-at (row_names rows ++ (name_of cells ∷ [])) (name_of cells) (length (row_names rows)) (omega arith) (get_or_push (row_names rows) (name_of cells) [] (length (row_names rows)) refl)

-- if there is no room for a row
no-room : (S : Section) (spot : Spot) (l u : Bool) → has_room S spot l u ≡ false → room_of S ≤ spot.taken
no-room S spot l u none = ltb-false spot.taken (room_of S) (or_parts _ _ none).0

no-room-lead : (S : Section) (spot : Spot) (u : Bool) → IsItemSection S → has_room S spot true u ≡ false → MOST_ITEMS ≤ spot.items
no-room-lead S spot u is none = subst (λ (n : ℕ). n ≤ spot.items) is.most (ltb-false spot.items (items_of S) (or_parts _ _ (or_parts _ _ none).1).0)

room-same : (S : Section) (spot : Spot) (u : Bool) → has_room S spot false u ≡ true → (spot.taken < room_of S) ⊎ (is_some spot.takes ≡ true)
room-same S spot u room = by (or_cases _ _ room)
  where
    by : (nat_lt spot.taken (room_of S) ≡ true) ⊎ ((is_by_weeks S && (is_some spot.takes && nat_lt spot.weeks MOST_WEEKS)) ≡ true) → (spot.taken < room_of S) ⊎ (is_some spot.takes ≡ true)
    by (inl below) = inl (ltb-true spot.taken (room_of S) below)
    by (inr more) = inr (and_parts _ _ (and_parts _ _ more).1).0

-- before the first row
pub inside-none : (items : Names) (S : Section) (count : ℕ) (spot : Spot) (last : List ℕ) → spot.items ≡ 0 → is_row spot.place ≡ false → Inside items S count [] [] spot last
unfolding items_in each_once last_name leaders
inside-none items S count spot last none front = record {
  keeps = keeps-none;
  named = All-nil (λ (r : RowView). cell_at r 0 ≢ []);
  counts = none;
  few = omega arith;
  ends = inl (refl, front);
  here = λ row asked room. absurd (both_ways (is_row spot.place) front row);
  among = inl refl;
}

-- the rows of a section with one more, if it is kept
abbrev pub with_row : Section → List RowView → Cells → Bool → List RowView
with_row S kept cells takes = kept ++ (if takes then record { section = S; cells = cells } ∷ [] else [])

module _ (items : Names) (S : Section) (is : IsItemSection S) (count : ℕ) (rows : List Cells) (kept : List RowView) (spot : Spot) (last : List ℕ) (cells : Cells) (so_far : Inside items S count rows kept spot last) (stand : StandTogether (row_names rows ++ (name_of cells ∷ []))) (countable : count + 1 < 2 ^ 64) where
  named-here : name_of cells ≢ []
  named-here = subst (λ (t : List ℕ). t ≢ []) (get_or_push (row_names rows) (name_of cells) [] (length (row_names rows)) refl) (stand.named (length (row_names rows)) [] (omega (arith, length_push (row_names rows) (name_of cells))))

  -- not taken, and of no item that is new
  stays : (u w l : Bool) → items_in items (rows ++ (cells ∷ [])) ≡ items_in items rows → (w && l) ≡ false → (is_asked items (name_of cells) ≡ true → room_of S ≤ spot.taken) → Inside items S (count + 1) (rows ++ (cells ∷ [])) kept (spot_with spot (place.Row S) w (w && l) u false) (name_of cells)
  stays u w l same old full = record {
    keeps = subst (λ (t : List (List ℕ)). Keeps t (leader_names kept)) (sym same) so_far.keeps;
    named = so_far.named;
    counts = rw old (omega (arith, so_far.counts, so_far.few, ap length same));
    few = omega (arith, so_far.few, ap length same);
    ends = inr (rows, cells, refl, refl, refl);
    here = λ row asked room. absurd (never (full asked) room);
    among = has-still rows cells (last_name [] kept) so_far.among;
  }
    where
      never : room_of S ≤ spot.taken → (min (spot.taken + 0) (2 ^ 64 - 1) < room_of S) ⊎ (false ≡ true) → ⊥
      never above (inl below) = omega (arith, is.small)
      never above (inr e) = cc

  -- not taken, of a new item
  left-out : (u : Bool) → items_in items (rows ++ (cells ∷ [])) ≡ items_in items rows ++ (name_of cells ∷ []) → MOST_ITEMS ≤ spot.items → room_of S ≤ spot.taken → Inside items S (count + 1) (rows ++ (cells ∷ [])) kept (spot_with spot (place.Row S) true true u false) (name_of cells)
  left-out u new many full =
      let long = ap length new ∙ length_push (items_in items rows) (name_of cells) in
      record {
        keeps = subst (λ (t : List (List ℕ)). Keeps t (leader_names kept)) (sym new) (keeps-past (items_in items rows) (leader_names kept) (name_of cells) so_far.keeps (omega (arith, so_far.counts)));
        named = so_far.named;
        counts = omega (arith, so_far.counts, so_far.few);
        few = omega (arith, so_far.few);
        ends = inr (rows, cells, refl, refl, refl);
        here = λ row asked room. absurd (never room);
        among = has-still rows cells (last_name [] kept) so_far.among;
      }
    where
      never : (min (spot.taken + 0) (2 ^ 64 - 1) < room_of S) ⊎ (false ≡ true) → ⊥
      never (inl below) = omega (arith, is.small)
      never (inr e) = cc

  row : RowView
  row = record { section = S; cells = cells }

  -- taken, of a new item
  taken-new : (u : Bool) → items_in items (rows ++ (cells ∷ [])) ≡ items_in items rows ++ (name_of cells ∷ []) → has_name (row_names rows) (name_of cells) ≡ false → Inside items S (count + 1) (rows ++ (cells ∷ [])) (kept ++ (row ∷ [])) (spot_with spot (place.Row S) true true u true) (name_of cells)
  unfolding row
  taken-new u new first =
      let long = ap length new ∙ length_push (items_in items rows) (name_of cells) in
      let other : is_of (last_name [] kept) row ≡ false = false_from_ne_true _ (λ e. differs so_far.among (text-same (name_of cells) (last_name [] kept) e)) in
      record {
        keeps = subst (λ (t : List (List ℕ)). Keeps t (leader_names (kept ++ (row ∷ [])))) (sym new)
            (subst (λ (t : List (List ℕ)). Keeps (items_in items rows ++ (name_of cells ∷ [])) t) (sym (leads-new kept row other)) (keeps-more (items_in items rows) (leader_names kept) (name_of cells) so_far.keeps));
        named = All-push (λ (r : RowView). cell_at r 0 ≢ []) kept row so_far.named named-here;
        counts = omega (arith, so_far.counts, so_far.few);
        few = omega (arith, so_far.few);
        ends = inr (rows, cells, refl, refl, refl);
        here = λ at asked room. last-more [] kept row;
        among = inr (rw (last-more [] kept row) (has-last rows cells));
      }
    where
      differs : (last_name [] kept ≡ []) ⊎ (has_name (row_names rows) (last_name [] kept) ≡ true) → name_of cells ≡ last_name [] kept → ⊥
      differs (inl none) e = named-here (e ∙ none)
      differs (inr has) e = both_ways (has_name (row_names rows) (name_of cells)) first (subst (λ (t : List ℕ). has_name (row_names rows) t ≡ true) (sym e) has)

  -- taken, of the last item
  taken-old : (u : Bool) → items_in items (rows ++ (cells ∷ [])) ≡ items_in items rows → last_name [] kept ≡ name_of cells → Inside items S (count + 1) (rows ++ (cells ∷ [])) (kept ++ (row ∷ [])) (spot_with spot (place.Row S) true false u true) (name_of cells)
  unfolding row
  taken-old u same ends = record {
    keeps = subst (λ (t : List (List ℕ)). Keeps t (leader_names (kept ++ (row ∷ [])))) (sym same)
        (subst (Keeps (items_in items rows)) (sym (leads-same kept row (same-text (name_of cells) (last_name [] kept) (sym ends)))) so_far.keeps);
    named = All-push (λ (r : RowView). cell_at r 0 ≢ []) kept row so_far.named named-here;
    counts = omega (arith, so_far.counts, so_far.few, ap length same);
    few = omega (arith, so_far.few, ap length same);
    ends = inr (rows, cells, refl, refl, refl);
    here = λ at asked room. last-more [] kept row;
    among = inr (rw (last-more [] kept row) (has-last rows cells));
  }

  new-item : is_asked items (name_of cells) ≡ true → leads spot last cells ≡ true → items_in items (rows ++ (cells ∷ [])) ≡ items_in items rows ++ (name_of cells ∷ [])
  new-item asked first = items-new items rows cells (lead-new rows spot last cells so_far.ends stand first) ∙ ap (λ (b : Bool). items_in items rows ++ (if b then name_of cells ∷ [] else [])) asked

  old-item : leads spot last cells ≡ false → items_in items (rows ++ (cells ∷ [])) ≡ items_in items rows
  old-item after = items-same items rows cells (lead-old rows spot last cells so_far.ends after).again

  not-asked : is_asked items (name_of cells) ≡ false → items_in items (rows ++ (cells ∷ [])) ≡ items_in items rows
  not-asked asked = by (has_name (row_names rows) (name_of cells)) refl
    where
      by : (b : Bool) → has_name (row_names rows) (name_of cells) ≡ b → items_in items (rows ++ (cells ∷ [])) ≡ items_in items rows
      by true e = items-same items rows cells e
      by false e = items-new items rows cells e ∙ ap (λ (b : Bool). items_in items rows ++ (if b then name_of cells ∷ [] else [])) asked ∙ append-nil (items_in items rows)

  -- one more row
  pub inside-more : (w l u t : Bool) → is_asked items (name_of cells) ≡ w → leads spot last cells ≡ l → (w && has_room S spot (w && l) u) ≡ t
      → Inside items S (count + 1) (rows ++ (cells ∷ [])) (with_row S kept cells t) (spot_with spot (place.Row S) w (w && l) u t) (name_of cells)
  unfolding row
  inside-more false l u true asked first room = absurd cc
  inside-more false l u false asked first room =
      subst (λ (ks : List RowView). Inside items S (count + 1) (rows ++ (cells ∷ [])) ks (spot_with spot (place.Row S) false false u false) (name_of cells)) (sym (append-nil kept))
      (stays u false l (not-asked asked) refl (λ e. absurd (both_ways (is_asked items (name_of cells)) asked e)))
  inside-more true true u true asked first room = taken-new u (new-item asked first) (lead-new rows spot last cells so_far.ends stand first)
  inside-more true true u false asked first room =
      subst (λ (ks : List RowView). Inside items S (count + 1) (rows ++ (cells ∷ [])) ks (spot_with spot (place.Row S) true true u false) (name_of cells)) (sym (append-nil kept))
      (left-out u (new-item asked first) (no-room-lead S spot u is room) (no-room S spot true u room))
  inside-more true false u true asked first room =
      let after = lead-old rows spot last cells so_far.ends first in
      taken-old u (old-item first) (so_far.here after.row (ap (is_asked items) after.same ∙ asked) (room-same S spot u room) ∙ after.same)
  inside-more true false u false asked first room =
      subst (λ (ks : List RowView). Inside items S (count + 1) (rows ++ (cells ∷ [])) ks (spot_with spot (place.Row S) true false u false) (name_of cells)) (sym (append-nil kept))
      (stays u true false (old-item first) refl (λ e. no-room S spot false u room))
