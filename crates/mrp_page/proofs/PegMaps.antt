-- Maps of pegs, with one more peg.
use Rattle.std.proofs.Common.{◌≡◌, ◌∙◌, ◌++◌, ℕ, Bool, true, false, cond, Option, None, Some, List, [], ◌∷◌, Bor, Vec, map, codes, refl, sym, ap, unwrap_or}
use Rattle.std.specs.Prelude.{◌&&◌, if◌then◌else◌}
use Rattle.std.specs.HashMap as hash
use Rattle.std.specs.HashMap.{HashMap}
use Rattle.std.specs.Map.{KeepsOthers}
use Rattle.std.specs.Str.{bytes_eq}
use Rattle.std.specs.Option.{option_map_or}
use Rattle.std.proofs.lemmas.List.{append-nil, map-append}
use Rattle.std.proofs.lemmas.Map.Text.{hash_map_updates_str}
use Rattle.std.proofs.lemmas.Slice.Eq.{bytes_eq-Decides}
use Rattle.mrp_page.specs.Pegs.{pieces_in, waits_for, waits_in, with_open, with_pieces}
use Rattle.mrp_page.specs.Row.{RowView, cell_at, is_of}
use Rattle.mrp_page.specs.Template.{has_word}

-- a pair of texts, as a map tests its keys
abbrev is-pair : List ℕ → List ℕ → Bor (List ℕ) × Bor (List ℕ) → Bool
is-pair bs cs k = bytes_eq bs k.0.now && bytes_eq cs k.1.now

abbrev same-pair : Bor (List ℕ) × Bor (List ℕ) → Bor (List ℕ) × Bor (List ℕ) → Bool
same-pair x y = bytes_eq x.0.now y.0.now && bytes_eq x.1.now y.1.now

both : (a b : Bool) → (a && b) ≡ true → (a ≡ true) × (b ≡ true)
both true b e = (refl, e)
both false b e = absurd cc

texts : (bs cs ds es : List ℕ) → (bytes_eq bs ds && bytes_eq cs es) ≡ true → (bs ≡ ds) × (cs ≡ es)
texts bs cs ds es e =
    let parts = both (bytes_eq bs ds) (bytes_eq cs es) e in
    ((bytes_eq-Decides bs ds).0 parts.0, (bytes_eq-Decides cs es).0 parts.1)

-- what a map with pairs of texts as keys has after a change at one of them
module _ {X S : Type 0} (bs cs : List ℕ) (m n : HashMap (Bor (List ℕ) × Bor (List ℕ)) X S) (w : Option X) (h : hash.UpdatesBy same-pair (is-pair bs cs) m n w) where
  others : (ds es : List ℕ) → (bytes_eq bs ds && bytes_eq cs es) ≡ false → hash.get_by (is-pair ds es) n ≡ hash.get_by (is-pair ds es) m
  unfolding KeepsOthers
  others ds es apart = h.3 (is-pair ds es)
      (λ x y is.
      let same = texts ds es x.0.now x.1.now is in
      ap (λ (t : List ℕ). bytes_eq t y.0.now && bytes_eq es y.1.now) same.0 ∙ ap (λ (t : List ℕ). bytes_eq x.0.now y.0.now && bytes_eq t y.1.now) same.1)
      (λ k is. by k is (is-pair ds es k) refl)
    where
      by : (k : Bor (List ℕ) × Bor (List ℕ)) → is-pair bs cs k ≡ true → (b : Bool) → is-pair ds es k ≡ b → is-pair ds es k ≡ false
      by k is false e = e
      by k is true e =
          let here = texts bs cs k.0.now k.1.now is in
          let there = texts ds es k.0.now k.1.now e in
          let first : bytes_eq bs ds ≡ true = (bytes_eq-Decides bs ds).1 (here.0 ∙ sym there.0) in
          let second : bytes_eq cs es ≡ true = (bytes_eq-Decides cs es).1 (here.1 ∙ sym there.1) in
          let all : (bytes_eq bs ds && bytes_eq cs es) ≡ true = rw (first, second) refl in
          absurd cc

  pub pair-updated : (ds es : List ℕ) → hash.get_by (is-pair ds es) n ≡ cond (bytes_eq bs ds && bytes_eq cs es) w (hash.get_by (is-pair ds es) m)
  pair-updated ds es = by (bytes_eq bs ds && bytes_eq cs es) refl
    where
      by : (b : Bool) → (bytes_eq bs ds && bytes_eq cs es) ≡ b → hash.get_by (is-pair ds es) n ≡ cond b w (hash.get_by (is-pair ds es) m)
      by true e =
          let same = texts bs cs ds es e in
          ap (λ (t : List ℕ). hash.get_by (is-pair t es) n) (sym same.0) ∙ ap (λ (t : List ℕ). hash.get_by (is-pair bs t) n) (sym same.1) ∙ h.1
      by false e = others ds es e

-- the pieces of open orders, with those of one more peg
pub open-noted : {S : Type 0} (old new : HashMap (Bor (List ℕ) × Bor (List ℕ)) ℕ S) (peg : RowView) (bs cs : List ℕ) (total next : ℕ) → has_word 6 (codes "open") peg ≡ true → bs ≡ cell_at peg 0 → cs ≡ cell_at peg 7
    → total ≡ pieces_in old bs cs → next ≡ with_pieces total peg → hash.UpdatesBy same-pair (is-pair bs cs) old new (Some next)
    → (name order : List ℕ) → pieces_in new name order ≡ with_open name order (pieces_in old name order) peg
open-noted old new peg bs cs total next opened is-name is-order is-total is-next updates name order =
    ap (λ (o : Option ℕ). unwrap_or o 0) (pair-updated bs cs old new (Some next) updates name order) ∙ by (bytes_eq bs name && bytes_eq cs order) refl
  where
    by : (b : Bool) → (bytes_eq bs name && bytes_eq cs order) ≡ b → unwrap_or (cond (bytes_eq bs name && bytes_eq cs order) (Some next) (hash.get_by (is-pair name order) old)) 0 ≡ with_open name order (pieces_in old name order) peg
    by true e =
        let same = texts bs cs name order e in
        let of-peg : (is_of name peg && has_word 7 order peg) ≡ true = ap (λ (t : List ℕ). bytes_eq t name && has_word 7 order peg) (sym is-name) ∙ ap (λ (t : List ℕ). bytes_eq bs name && bytes_eq t order) (sym is-order) ∙ e in
        let sum : total ≡ pieces_in old name order = is-total ∙ ap (λ (t : List ℕ). pieces_in old t cs) same.0 ∙ ap (λ (t : List ℕ). pieces_in old name t) same.1 in
        ap (λ (b : Bool). unwrap_or (cond b (Some next) (hash.get_by (is-pair name order) old)) 0) e ∙ is-next ∙ ap (λ (n : ℕ). with_pieces n peg) sum
        ∙ sym (ap (λ (b : Bool). if b && (is_of name peg && has_word 7 order peg) then with_pieces (pieces_in old name order) peg else pieces_in old name order) opened ∙ ap (λ (b : Bool). if b then with_pieces (pieces_in old name order) peg else pieces_in old name order) of-peg)
    by false e =
        let of-peg : (is_of name peg && has_word 7 order peg) ≡ false = ap (λ (t : List ℕ). bytes_eq t name && has_word 7 order peg) (sym is-name) ∙ ap (λ (t : List ℕ). bytes_eq bs name && bytes_eq t order) (sym is-order) ∙ e in
        ap (λ (b : Bool). unwrap_or (cond b (Some next) (hash.get_by (is-pair name order) old)) 0) e
        ∙ sym (ap (λ (b : Bool). if b && (is_of name peg && has_word 7 order peg) then with_pieces (pieces_in old name order) peg else pieces_in old name order) opened ∙ ap (λ (b : Bool). if b then with_pieces (pieces_in old name order) peg else pieces_in old name order) of-peg)

pub closed-noted : {S : Type 0} (old : HashMap (Bor (List ℕ) × Bor (List ℕ)) ℕ S) (peg : RowView) → has_word 6 (codes "open") peg ≡ false → (name order : List ℕ) → pieces_in old name order ≡ with_open name order (pieces_in old name order) peg
closed-noted old peg closed name order = rw closed refl

-- the pegs that the orders of each parent wait for, with one more peg
module _ {V S : Type 0} (m n o : HashMap (Bor (List ℕ)) (Vec (Bor RowView) V) S) (parent : List ℕ) (peg : Bor RowView) (pegs : Vec (Bor RowView) V) (waiting : has_word 2 (codes "parent") peg.now ≡ true) (is-parent : parent ≡ cell_at peg.now 4) where
  pub wait-noted : hash.UpdatesBy (λ x y. bytes_eq x.now y.now) (λ k. bytes_eq parent k.now) m n None → hash.UpdatesBy (λ x y. bytes_eq x.now y.now) (λ k. bytes_eq parent k.now) n o (Some pegs) → pegs.items ≡ waits_in m parent ++ (peg ∷ [])
      → (name : List ℕ) → map (λ r. r.now) (waits_in o name) ≡ map (λ r. r.now) (waits_in m name) ++ waits_for (peg.now ∷ []) name
  wait-noted removed inserted more name = by (bytes_eq parent name) refl
    where
      rows-of : Option (Vec (Bor RowView) V) → List RowView
      rows-of found = map (λ (r : Bor RowView). r.now) (option_map_or (λ (v : Vec (Bor RowView) V). v.items) found [])

      last : (b : Bool) → bytes_eq parent name ≡ b → waits_for (peg.now ∷ []) name ≡ (if b then peg.now ∷ [] else [])
      last b e =
          ap (λ (c : Bool). if has_word 4 name peg.now && c then peg.now ∷ [] else []) waiting ∙ ap (λ (t : List ℕ). if bytes_eq t name && true then peg.now ∷ [] else []) (sym is-parent)
          ∙ ap (λ (c : Bool). if c && true then peg.now ∷ [] else []) e ∙ both-ways b
        where
          both-ways : (b : Bool) → (if b && true then peg.now ∷ [] else []) ≡ (if b then peg.now ∷ [] else [])
          both-ways true = refl
          both-ways false = refl

      by : (b : Bool) → bytes_eq parent name ≡ b → map (λ r. r.now) (waits_in o name) ≡ map (λ r. r.now) (waits_in m name) ++ waits_for (peg.now ∷ []) name
      by true e =
          let same : parent ≡ name = (bytes_eq-Decides parent name).0 e in
          ap rows-of (hash_map_updates_str parent n o (Some pegs) inserted name ∙ ap (λ (c : Bool). cond c (Some pegs) (hash.get_by (λ k. bytes_eq name k.now) n)) e)
          ∙ ap (map (λ (r : Bor RowView). r.now)) more ∙ map-append (λ (r : Bor RowView). r.now) (waits_in m parent) (peg ∷ [])
          ∙ ap (λ (t : List ℕ). map (λ (r : Bor RowView). r.now) (waits_in m t) ++ (peg.now ∷ [])) same ∙ ap (λ (t : List RowView). map (λ (r : Bor RowView). r.now) (waits_in m name) ++ t) (sym (last true e))
      by false e =
          ap rows-of (hash_map_updates_str parent n o (Some pegs) inserted name ∙ ap (λ (c : Bool). cond c (Some pegs) (hash.get_by (λ k. bytes_eq name k.now) n)) e
          ∙ hash_map_updates_str parent m n None removed name ∙ ap (λ (c : Bool). cond c None (hash.get_by (λ k. bytes_eq name k.now) m)) e)
          ∙ sym (append-nil (map (λ (r : Bor RowView). r.now) (waits_in m name))) ∙ ap (λ (t : List RowView). map (λ (r : Bor RowView). r.now) (waits_in m name) ++ t) (sym (last false e))

kept-items : {V : Type 0} (o : Option (Vec (Bor RowView) V)) (none : Vec (Bor RowView) V) → none.items ≡ [] → (unwrap_or o none).items ≡ option_map_or (λ (v : Vec (Bor RowView) V). v.items) o []
kept-items None none empty = empty
kept-items (Some v) none empty = refl

-- a peg behind those that a map has of its parent
pub pushed : {V S : Type 0} (m : HashMap (Bor (List ℕ)) (Vec (Bor RowView) V) S) (parent : List ℕ) (o : Option (Vec (Bor RowView) V)) (none kept pegs : Vec (Bor RowView) V) (peg : Bor RowView)
    → o ≡ hash.get_by (λ k. bytes_eq parent k.now) m → none.items ≡ [] → kept ≡ unwrap_or o none → pegs.items ≡ kept.items ++ (peg ∷ []) → pegs.items ≡ waits_in m parent ++ (peg ∷ [])
pushed {V} m parent o none kept pegs peg found empty is more =
    more ∙ ap (λ (rows : List (Bor RowView)). rows ++ (peg ∷ []))
    (ap (λ (v : Vec (Bor RowView) V). v.items) is ∙ kept-items o none empty ∙ ap (λ (p : Option (Vec (Bor RowView) V)). option_map_or (λ (v : Vec (Bor RowView) V). v.items) p []) found)
