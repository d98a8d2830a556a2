-- The place of the first row of each item, with one more row.
use Rattle.std.proofs.Common.{◌≡◌, ◌∙◌, ◌+◌, ◌<◌, ◌≤◌, ℕ, Bool, true, false, cond, not, nat_lt, Option, Some, None, List, [], ◌∷◌, ◌++◌, Bor, drop, get_or, length, length-append, take, refl, sym, ap, subst, arith}
use Rattle.std.specs.Prelude.{◌==◌, ◌||◌, is_some, unwrap_or}
use Rattle.std.specs.HashMap as hash
use Rattle.std.specs.HashMap.{HashMap}
use Rattle.std.specs.List.{before_first, list_any, position, position_or_len}
use Rattle.std.specs.Option.{option_map}
use Rattle.std.specs.Str.{bytes_eq}
use Rattle.std.proofs.lemmas.Bool.{both_ways, eq-eqb, le-ltb, lt-ltb, ltb-false, ltb-true, ne_eqb}
use Rattle.std.proofs.lemmas.Bool.Decides.{nat_tests}
use Rattle.std.proofs.lemmas.List.{drop_all, length-take, take_all, take_more}
use Rattle.std.proofs.lemmas.List.Folds.{position_or_len_push}
use Rattle.std.proofs.lemmas.List.Sums.{prefix_len-le-length}
use Rattle.std.proofs.lemmas.Map.Text.{hash_map_updates_str}
use Rattle.std.proofs.lemmas.Slice.Eq.{bytes_eq-Decides}
use Rattle.mrp_page.specs.Draw.{has_item}
use Rattle.mrp_page.specs.Places.{HasStretches, stretch_at}
use Rattle.mrp_page.specs.Row.{RowView, cell_at, is_of}
use Rattle.mrp_page.specs.Rows.{rows_named}
use Rattle.mrp_page.specs.declared.places.Stretch.{Stretch}

-- the place of the first element that passes, with one more at this place
abbrev first-or : Bool → ℕ → Option ℕ → Option ℕ
first-or passes n (Some i) = Some i
first-or passes n None = cond passes (Some n) None

position-at : {X : Type 0} (p : X → Bool) (xs : List X) (y : X) (m : ℕ) → position_or_len p (xs ++ y ∷ []) ≡ m → position p (xs ++ y ∷ []) ≡ cond (nat_lt m (length xs + 1)) (Some m) None
position-at {X} p xs y m e =
    ap (λ (k : ℕ). cond (nat_lt k (length (xs ++ y ∷ []))) (Some k) None) e
    ∙ ap (λ (k : ℕ). cond (nat_lt m k) (Some m) None) (length-append xs (y ∷ []))

pushed : {X : Type 0} (p : X → Bool) (xs : List X) (y : X) (c : Bool) → p y ≡ c → (n : ℕ) → position_or_len p xs ≡ n → (b : Bool) → nat_lt n (length xs) ≡ b
    → position p (xs ++ y ∷ []) ≡ first-or c (length xs) (cond b (Some n) None)
pushed p xs y c f n e true less =
    let below : n < length xs = ltb-true n (length xs) less in
    let is : position_or_len p (xs ++ y ∷ []) ≡ n = position_or_len_push p xs y ∙ ap (λ (m : ℕ). cond (m == length xs) (length xs + cond (p y) 0 1) m) e
    ∙ ap (λ (b : Bool). cond b (length xs + cond (p y) 0 1) n) (ne_eqb n (length xs) (λ same. omega (arith, below, same))) in
    position-at p xs y n is ∙ ap (λ (b : Bool). cond b (Some n) None) (lt-ltb n (length xs + 1) (omega (arith, below)))
pushed p xs y true f n e false less =
    let all : n ≡ length xs = omega (arith, ltb-false n (length xs) less, e, prefix_len-le-length (λ x. not (p x)) xs) in
    let is : position_or_len p (xs ++ y ∷ []) ≡ length xs = position_or_len_push p xs y ∙ ap (λ (m : ℕ). cond (m == length xs) (length xs + cond (p y) 0 1) m) e
    ∙ ap (λ (b : Bool). cond b (length xs + cond (p y) 0 1) n) (eq-eqb n (length xs) all) ∙ ap (λ (c : Bool). length xs + cond c 0 1) f ∙ omega arith in
    position-at p xs y (length xs) is ∙ ap (λ (b : Bool). cond b (Some (length xs)) None) (lt-ltb (length xs) (length xs + 1) (omega arith))
pushed p xs y false f n e false less =
    let all : n ≡ length xs = omega (arith, ltb-false n (length xs) less, e, prefix_len-le-length (λ x. not (p x)) xs) in
    let is : position_or_len p (xs ++ y ∷ []) ≡ length xs + 1 = position_or_len_push p xs y ∙ ap (λ (m : ℕ). cond (m == length xs) (length xs + cond (p y) 0 1) m) e
    ∙ ap (λ (b : Bool). cond b (length xs + cond (p y) 0 1) n) (eq-eqb n (length xs) all) ∙ ap (λ (c : Bool). length xs + cond c 0 1) f in
    position-at p xs y (length xs + 1) is ∙ ap (λ (b : Bool). cond b (Some (length xs + 1)) None) (le-ltb (length xs + 1) (length xs + 1) (omega arith))

position-push : {X : Type 0} (p : X → Bool) (xs : List X) (y : X) → position p (xs ++ y ∷ []) ≡ first-or (p y) (length xs) (position p xs)
position-push p xs y = pushed p xs y (p y) refl (position_or_len p xs) refl (nat_lt (position_or_len p xs) (length xs)) refl

module _ (rows : List RowView) (k : ℕ) (r d : RowView) (within : k < length rows) (is : r ≡ get_or rows k d) (bs : List ℕ) (named : bs ≡ cell_at r 0) where
  next-is : (name : List ℕ) → position (is_of name) (take (k + 1) rows) ≡ first-or (is_of name r) k (position (is_of name) (take k rows))
  next-is name =
      ap (position (is_of name)) (take_more rows k d within ∙ ap (λ (x : RowView). take k rows ++ (x ∷ [])) (sym is))
      ∙ position-push (is_of name) (take k rows) r ∙ ap (λ (n : ℕ). first-or (is_of name r) n (position (is_of name) (take k rows))) (omega (arith, length-take k rows, within))

  -- the row's item has its stretch already
  pub stretch-known : {S : Type 0} (m : HashMap (Bor (List ℕ)) Stretch S) → HasStretches m rows k → is_some (hash.get_by (λ q. bytes_eq bs q.now) m) ≡ true → HasStretches m rows (k + 1)
  stretch-known m has some = λ name. has name ∙ ap (option_map (stretch_at rows name)) (by name (position (is_of name) (take k rows)) refl (is_of name r) refl ∙ sym (next-is name))
    where
      by : (name : List ℕ) (o : Option ℕ) → position (is_of name) (take k rows) ≡ o → (b : Bool) → is_of name r ≡ b → o ≡ first-or (is_of name r) k o
      by name (Some i) found b e = refl
      by name None found true e =
          let same : bs ≡ name = named ∙ (bytes_eq-Decides (cell_at r 0) name).0 e in
          let none : is_some (hash.get_by (λ q. bytes_eq name q.now) m) ≡ false = ap is_some (has name ∙ ap (option_map (stretch_at rows name)) found) in
          absurd (both_ways (is_some (hash.get_by (λ q. bytes_eq bs q.now) m)) (ap (λ (t : List ℕ). is_some (hash.get_by (λ q. bytes_eq t q.now) m)) same ∙ none) some)
      by name None found false e = sym (ap (λ (b : Bool). cond b (Some k) None) e)

  -- it gets this one
  pub stretch-added : {S : Type 0} (m next : HashMap (Bor (List ℕ)) Stretch S) (s : Stretch) → HasStretches m rows k → is_some (hash.get_by (λ q. bytes_eq bs q.now) m) ≡ false
      → s ≡ stretch_at rows bs k → hash.UpdatesBy (λ x y. bytes_eq x.now y.now) (λ q. bytes_eq bs q.now) m next (Some s) → HasStretches next rows (k + 1)
  stretch-added m next s has none is-s updates = λ name. hash_map_updates_str bs m next (Some s) updates name ∙ ap (λ (t : List ℕ). cond (bytes_eq t name) (Some s) (hash.get_by (λ q. bytes_eq name q.now) m)) named
      ∙ by name (position (is_of name) (take k rows)) refl (is_of name r) refl ∙ ap (option_map (stretch_at rows name)) (sym (next-is name))
    where
      by : (name : List ℕ) (o : Option ℕ) → position (is_of name) (take k rows) ≡ o → (b : Bool) → is_of name r ≡ b → cond (is_of name r) (Some s) (hash.get_by (λ q. bytes_eq name q.now) m) ≡ option_map (stretch_at rows name) (first-or (is_of name r) k o)
      by name (Some i) found true e =
          let same : bs ≡ name = named ∙ (bytes_eq-Decides (cell_at r 0) name).0 e in
          let some : is_some (hash.get_by (λ q. bytes_eq name q.now) m) ≡ true = ap is_some (has name ∙ ap (option_map (stretch_at rows name)) found) in
          absurd (both_ways (is_some (hash.get_by (λ q. bytes_eq bs q.now) m)) none (ap (λ (t : List ℕ). is_some (hash.get_by (λ q. bytes_eq t q.now) m)) same ∙ some))
      by name (Some i) found false e = ap (λ (b : Bool). cond b (Some s) (hash.get_by (λ q. bytes_eq name q.now) m)) e ∙ has name ∙ ap (option_map (stretch_at rows name)) found
      by name None found true e =
          let same : bs ≡ name = named ∙ (bytes_eq-Decides (cell_at r 0) name).0 e in
          ap (λ (b : Bool). cond b (Some s) (hash.get_by (λ q. bytes_eq name q.now) m)) e ∙ ap Some (is-s ∙ ap (λ (t : List ℕ). stretch_at rows t k) same)
          ∙ sym (ap (λ (b : Bool). option_map (stretch_at rows name) (cond b (Some k) None)) e)
      by name None found false e =
          ap (λ (b : Bool). cond b (Some s) (hash.get_by (λ q. bytes_eq name q.now) m)) e ∙ has name ∙ ap (option_map (stretch_at rows name)) found
          ∙ sym (ap (λ (b : Bool). option_map (stretch_at rows name) (cond b (Some k) None)) e)

-- no rows
abbrev pub no-rows : Stretch
no-rows = record { first = 0; count = 0 }

-- the rows of the stretch of an item, or none, are those that stand together
pub record IsStretch (rows : List RowView) (name : List ℕ) (s : Stretch) : Type 0 where
  pub first : s.first ≤ length rows
  pub count : s.count ≤ length (drop s.first rows)
  pub standing : take s.count (drop s.first rows) ≡ rows_named name rows

pub stretch-is : (rows : List RowView) (name : List ℕ) → IsStretch rows name (unwrap_or (option_map (stretch_at rows name) (position (is_of name) rows)) no-rows)
unfolding rows_named
stretch-is rows name = by (nat_lt (position_or_len (is_of name) rows) (length rows)) refl
  where
    by : (b : Bool) → nat_lt (position_or_len (is_of name) rows) (length rows) ≡ b → IsStretch rows name (unwrap_or (option_map (stretch_at rows name) (position (is_of name) rows)) no-rows)
    by true e = rw e (record {
      first = prefix_len-le-length (λ r. not (is_of name r)) rows;
      count = prefix_len-le-length (λ r. not (not (is_of name r))) (drop (position_or_len (is_of name) rows) rows);
      standing = refl;
    })
    by false e = rw e (record {
      first = omega arith;
      count = omega arith;
      standing = sym (ap (before_first (λ r. not (is_of name r))) (drop_all (position_or_len (is_of name) rows) rows (ltb-false (position_or_len (is_of name) rows) (length rows) e)));
    })

-- an element passes if there is a first one that does
any-within : {X : Type 0} (p : X → Bool) (xs : List X) → nat_lt (position_or_len p xs) (length xs) ≡ list_any p xs
any-within p [] = refl
any-within {X} p (x ∷ xs) = by (p x) refl (any-within p xs)
  where
    by : (b : Bool) → p x ≡ b → nat_lt (position_or_len p xs) (length xs) ≡ list_any p xs → nat_lt (position_or_len p (x ∷ xs)) (length (x ∷ xs)) ≡ (p x || list_any p xs)
    by true e rest = rw e (grind (arith, nat_tests))
    by false e rest = rw e (grind (arith, nat_tests))

-- an item has rows if it has a stretch
pub has-stretch : (rows : List RowView) (name : List ℕ) → is_some (option_map (stretch_at rows name) (position (is_of name) rows)) ≡ has_item rows name
has-stretch rows name = by (nat_lt (position_or_len (is_of name) rows) (length rows)) refl ∙ any-within (is_of name) rows
  where
    by : (b : Bool) → nat_lt (position_or_len (is_of name) rows) (length rows) ≡ b → is_some (option_map (stretch_at rows name) (position (is_of name) rows)) ≡ nat_lt (position_or_len (is_of name) rows) (length rows)
    by true e = rw e refl
    by false e = rw e refl

-- what a map has of an item
module _ {S : Type 0} (m : HashMap (Bor (List ℕ)) Stretch S) (rows : List RowView) (name : List ℕ) (has : HasStretches m rows (length rows)) where
  pub stretch-in : hash.get_by (λ k. bytes_eq name k.now) m ≡ option_map (stretch_at rows name) (position (is_of name) rows)
  stretch-in = has name ∙ ap (λ (rs : List RowView). option_map (stretch_at rows name) (position (is_of name) rs)) (take_all (length rows) rows (omega arith))

  pub found-stretch : (o : Option Stretch) (s : Stretch) → o ≡ hash.get_by (λ k. bytes_eq name k.now) m → s ≡ unwrap_or o no-rows → IsStretch rows name s
  found-stretch o s is-o is-s = subst (IsStretch rows name) (sym (is-s ∙ ap (λ (o : Option Stretch). unwrap_or o no-rows) (is-o ∙ stretch-in))) (stretch-is rows name)
