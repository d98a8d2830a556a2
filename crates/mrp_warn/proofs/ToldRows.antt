-- What is told of rows, row by row.
use Rattle.std.proofs.Common.{◌≡◌, ◌∙◌, ℕ, zero, suc, ◌+◌, ◌<◌, List, [], ◌∷◌, length, Option, Some, None, ap, arith, refl, subst, sym}
use Rattle.std.specs.Prelude.{Contains}
use Rattle.std.specs.List.{cons_option, enumerate_from, filter_map, slice_get}
use Rattle.mrp_tables.specs.Items.{item_at}
use Rattle.mrp_tables.specs.declared.item.Item.{Item}
use Rattle.mrp_warn.specs.Names.{name_at}
use Rattle.mrp_warn.specs.Rows.{at_place}
use Rattle.mrp_warn.specs.declared.oddity.Oddity.{Oddity}
use Rattle.mrp_warn.specs.declared.oddity.Warning.{Warning}

-- what is told of rows whose first is at this place
abbrev pub told_from : {X : Type 0} → (ℕ → X → Option Oddity) → ℕ → List X → List Warning
told_from odd n rows = filter_map (λ r. at_place r.0 (odd r.0 r.1)) (enumerate_from n rows)

abbrev warning_at : ℕ → Oddity → Warning
warning_at place found = record { place = Some place; oddity = found }

here : (ws : List Warning) (o : Option Warning) (w : Warning) → o ≡ Some w → Contains (cons_option o ws) w
here ws o w is = subst (λ (p : Option Warning). Contains (cons_option p ws) w) (sym is) (0, omega arith, refl)

later : (o : Option Warning) (ws : List Warning) (w : Warning) → Contains ws w → Contains (cons_option o ws) w
later None ws w has = has
later (Some v) ws w (k, within, is) = (suc k, omega (arith, within), is)

some-is : {X : Type 0} (x y : X) → Some x ≡ Some y → x ≡ y
some-is x y e = cc

none-is : {X : Type 0} (x : X) → None ≡ Some x → ⊥
none-is x e = cc

-- each row that is odd is told
pub told-each : {X : Type 0} (odd : ℕ → X → Option Oddity) (n : ℕ) (rows : List X) (k place : ℕ) (row : X) (found : Oddity) → n + k ≡ place → slice_get rows k ≡ Some row → odd place row ≡ Some found
    → Contains (told_from odd n rows) (warning_at place found)
told-each odd n [] k place row found at there is = absurd (none-is row there)
told-each odd n (x ∷ rows) zero place row found at there is =
    let same : n ≡ place = omega (arith, at) in
    let told : at_place n (odd n x) ≡ Some (warning_at place found) = (λ i. at_place (same i) (odd (same i) (some-is x row there i))) ∙ ap (at_place place) is in
    here (told_from odd (n + 1) rows) (at_place n (odd n x)) (warning_at place found) told
told-each odd n (x ∷ rows) (suc k) place row found at there is =
    later (at_place n (odd n x)) (told_from odd (n + 1) rows) (warning_at place found) (told-each odd (n + 1) rows k place row found (omega (arith, at)) there is)

-- a row that is told
pub record IsTold {X : Type 0} (odd : ℕ → X → Option Oddity) (n : ℕ) (rows : List X) (w : Warning) : Type 0 where
  pub k : ℕ
  pub place : ℕ
  pub row : X
  pub found : Oddity
  pub at : n + k ≡ place
  pub there : slice_get rows k ≡ Some row
  pub is : odd place row ≡ Some found
  pub told : w ≡ warning_at place found

next-told : {X : Type 0} (odd : ℕ → X → Option Oddity) (n : ℕ) (x : X) (rows : List X) (w : Warning) → IsTold odd (n + 1) rows w → IsTold odd n (x ∷ rows) w
next-told odd n x rows w t = record { k = suc t.k; place = t.place; row = t.row; found = t.found; at = omega (arith, t.at); there = t.there; is = t.is; told = t.told }

-- what is told is of a row that is odd
pub told-only : {X : Type 0} (odd : ℕ → X → Option Oddity) (n : ℕ) (rows : List X) (w : Warning) → Contains (told_from odd n rows) w → IsTold odd n rows w
told-only odd n [] w (k, within, is) = absurd (omega (arith, within))
told-only {X} odd n (x ∷ rows) w has = by (λ inside. told-only odd (n + 1) rows w inside) (odd n x) refl has
  where
    by : (Contains (told_from odd (n + 1) rows) w → IsTold odd (n + 1) rows w) → (o : Option Oddity) → odd n x ≡ o → Contains (cons_option (at_place n o) (told_from odd (n + 1) rows)) w → IsTold odd n (x ∷ rows) w
    by rest None none inside = next-told odd n x rows w (rest inside)
    by rest (Some found) some (zero, within, is) = record { k = 0; place = n; row = x; found = found; at = omega arith; there = refl; is = some; told = sym is }
    by rest (Some found) some (suc k, within, is) = next-told odd n x rows w (rest (k, omega (arith, within), is))

-- of rows from the first on
pub record IsToldRow {X : Type 0} (odd : ℕ → X → Option Oddity) (rows : List X) (w : Warning) : Type 0 where
  pub place : ℕ
  pub row : X
  pub found : Oddity
  pub there : slice_get rows place ≡ Some row
  pub is : odd place row ≡ Some found
  pub told : w ≡ warning_at place found

pub told-row : {X : Type 0} (odd : ℕ → X → Option Oddity) (rows : List X) (w : Warning) → IsTold odd 0 rows w → IsToldRow odd rows w
told-row odd rows w t =
    let same : t.k ≡ t.place = omega (arith, t.at) in
    record { place = t.place; row = t.row; found = t.found; there = ap (slice_get rows) (sym same) ∙ t.there; is = t.is; told = t.told }

-- each place has a name
pub place-named : (items : List Item) (place : ℕ) → place < length items → name_at items place ≡ Some (item_at items place).name
place-named [] place within = absurd (omega (arith, within))
place-named (i ∷ items) zero within = refl
place-named (i ∷ items) (suc place) within = place-named items place (omega (arith, within))
