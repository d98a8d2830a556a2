-- The tables of a bundle, read in order: which one gives the fault.
use Rattle.std.proofs.Common.{◌≡◌, ◌⊎◌, ℕ, suc, ◌+◌, List, [], ◌∷◌, ◌++◌, Result, Ok, Err, inl, inr, refl, sym, ap, subst, ◌∙◌, take, map, arith}
use Rattle.mrp_qty.specs.Reading.{◌>>=◌}
use Rattle.mrp_rows.specs.declared.fault.Fault.{Fault}
use Rattle.mrp_rows.specs.declared.fault.Table.{Table}
use Rattle.mrp_rows.specs.declared.fault.Table.TheVariants as t
use Rattle.mrp_rows.specs.Tables.{table_index}
use Rattle.mrp_tables.specs.declared.rows.MasterRow.{MasterRow}
use Rattle.mrp_tables.specs.Laws.{AreWholeBefore, IsFirstTablesFault, all_whole, reading_of, table_order, whole}
use Rattle.mrp_tables.specs.Readers.{table_in}
use Rattle.mrp_tables.specs.Tables.{tables_in}

-- a table that is read, and what follows
in_turn : {X Y : Type 0} (x : Result X Fault) (next : X → Result Y Fault) (rest : Result (Unit {0}) Fault)
    → ((a : X) → whole (next a) ≡ rest) → whole (x >>= next) ≡ (whole x >>= λ w. rest)
in_turn (Ok a) next rest follows = follows a
in_turn (Err f) next rest follows = refl

pub first_tables_fault : (texts : List (List ℕ)) → IsFirstTablesFault texts
unfolding tables_in
first_tables_fault texts =
    in_turn (table_in texts t.Calendar) _ _ (λ calendar.
    in_turn (table_in texts t.Items) _ _ (λ items.
    in_turn (table_in texts t.Centres) _ _ (λ centres.
    in_turn (table_in texts t.Stock) _ _ (λ stock.
    in_turn (table_in texts t.Receipts) _ _ (λ receipts.
    in_turn (table_in texts t.Bills) _ _ (λ bills.
    in_turn (table_in texts t.Routings) _ _ (λ routings.
    in_turn (table_in texts t.Master) _ _ (λ master.
    in_turn (table_in texts t.Script) _ _ (λ script. refl)))))))))

-- one more table is read whole
pub whole_and : {X : Type 0} {x : Result X Fault} {a : X} {rest : Result (Unit {0}) Fault} → x ≡ Ok a → rest ≡ Ok tt → (whole x >>= λ w. rest) ≡ Ok tt
whole_and e given = rw e given

-- tables at their places, from this one on
abbrev pub AreInOrder : ℕ → List Table → Type 0
AreInOrder place [] = Unit {0}
AreInOrder place (own ∷ more) = (table_index own ≡ place) × AreInOrder (suc place) more

in_order : AreInOrder 0 table_order
in_order = (refl, (refl, (refl, (refl, (refl, (refl, (refl, (refl, (refl, tt)))))))))

-- the first table that is not read whole, after tables that are
pub record IsFirstRefused (read : Table → Result (Unit {0}) Fault) (place : ℕ) (tables : List Table) (f : Fault) : Type 0 where
  pub own : Table
  pub behind : ℕ
  pub at : table_index own ≡ place + behind
  pub refused : read own ≡ Err f
  pub earlier : all_whole (map read (take behind tables)) ≡ Ok tt

first_of_all : (read : Table → Result (Unit {0}) Fault) (place : ℕ) (tables : List Table) (f : Fault)
    → AreInOrder place tables → all_whole (map read tables) ≡ Err f → IsFirstRefused read place tables f
first_of_all read place [] f order given = absurd cc
first_of_all read place (own ∷ more) f order given = by (read own) refl given (first_of_all read (suc place) more f order.1)
  where
    by : (r : Result (Unit {0}) Fault) → read own ≡ r → (r >>= λ w. all_whole (map read more)) ≡ Err f
        → (all_whole (map read more) ≡ Err f → IsFirstRefused read (suc place) more f) → IsFirstRefused read place (own ∷ more) f
    by (Err g) is refused later = record { own = own; behind = 0; at = omega (arith, order.0); refused = is ∙ refused; earlier = refl }
    by (Ok w) is refused later =
        let rest = later refused in
        record {
          own = rest.own;
          behind = suc rest.behind;
          at = omega (arith, rest.at);
          refused = rest.refused;
          earlier = rw is rest.earlier;
        }

-- a bundle's fault is that of a table after others that are read whole
pub record IsRefusedByTable (texts : List (List ℕ)) (f : Fault) : Type 0 where
  pub own : Table
  pub refused : reading_of texts own ≡ Err f
  pub earlier : AreWholeBefore texts own

pub refused_by_table : (texts : List (List ℕ)) (f : Fault) → tables_in texts ≡ Err f → IsRefusedByTable texts f
refused_by_table texts f given =
    let told : whole (tables_in texts) ≡ Err f = rw given refl in
    let first = first_of_all (reading_of texts) 0 table_order f in_order (sym (first_tables_fault texts) ∙ told) in
    let at : first.behind ≡ table_index first.own = omega (arith, first.at) in
    record {
      own = first.own;
      refused = first.refused;
      earlier = subst (λ n. all_whole (map (reading_of texts) (take n table_order)) ≡ Ok tt) at first.earlier;
    }

-- and the other way round: such a table's fault is the bundle's
whole_then : (read : Table → Result (Unit {0}) Fault) (before rest : List Table) → all_whole (map read before) ≡ Ok tt → all_whole (map read (before ++ rest)) ≡ all_whole (map read rest)
whole_then read [] rest given = refl
whole_then read (own ∷ more) rest given = by (read own) refl given (whole_then read more rest)
  where
    by : (r : Result (Unit {0}) Fault) → read own ≡ r → (r >>= λ w. all_whole (map read more)) ≡ Ok tt
        → (all_whole (map read more) ≡ Ok tt → all_whole (map read (more ++ rest)) ≡ all_whole (map read rest))
        → (read own >>= λ w. all_whole (map read (more ++ rest))) ≡ all_whole (map read rest)
    by (Err g) is refused later = absurd cc
    by (Ok w) is all later = rw is (later all)

-- where the tables before the master schedule are read whole, and it is, so are those before the script
pub before_script : (texts : List (List ℕ)) (rows : List MasterRow) → AreWholeBefore texts t.Master → table_in texts t.Master ≡ Ok rows → AreWholeBefore texts t.Script
before_script texts rows earlier given = whole_then (reading_of texts) (take (table_index t.Master) table_order) (t.Master ∷ []) earlier ∙ whole_and given refl

behind : (own : Table) → (own ≡ t.Bundle) ⊎ ((rest : List Table) × (table_order ≡ take (table_index own) table_order ++ (own ∷ rest)))
behind t.Calendar = inr (_, refl)
behind t.Items = inr (_, refl)
behind t.Centres = inr (_, refl)
behind t.Stock = inr (_, refl)
behind t.Receipts = inr (_, refl)
behind t.Bills = inr (_, refl)
behind t.Routings = inr (_, refl)
behind t.Master = inr (_, refl)
behind t.Script = inr (_, refl)
behind t.Bundle = inl refl

fault_of_all : (texts : List (List ℕ)) (f : Fault) (own : Table) (rest : List Table) → AreWholeBefore texts own → reading_of texts own ≡ Err f
    → all_whole (map (reading_of texts) (take (table_index own) table_order ++ (own ∷ rest))) ≡ Err f
fault_of_all texts f own rest earlier refused =
    whole_then (reading_of texts) (take (table_index own) table_order) (own ∷ rest) earlier ∙ ap (λ (r : Result (Unit {0}) Fault). r >>= λ w. all_whole (map (reading_of texts) rest)) refused

unwhole : {X : Type 0} (r : Result X Fault) (f : Fault) → whole r ≡ Err f → r ≡ Err f
unwhole (Ok x) f given = absurd cc
unwhole (Err g) f given = let same : g ≡ f = cc in ap (λ h. Err h) same

pub refused_behind : (texts : List (List ℕ)) (f : Fault) (own : Table) → AreWholeBefore texts own → table_in texts own ≡ Err f → tables_in texts ≡ Err f
refused_behind texts f own earlier refused = by (behind own)
  where
    told : reading_of texts own ≡ Err f
    told = rw refused refl

    by : (own ≡ t.Bundle) ⊎ ((rest : List Table) × (table_order ≡ take (table_index own) table_order ++ (own ∷ rest))) → tables_in texts ≡ Err f
    by (inl bundle) = let bad : reading_of texts t.Bundle ≡ Err f = subst (λ (at : Table). reading_of texts at ≡ Err f) bundle told in absurd cc
    by (inr (rest, parts)) =
        let all : all_whole (map (reading_of texts) table_order) ≡ Err f =
        subst (λ (tables : List Table). all_whole (map (reading_of texts) tables) ≡ Err f) (sym parts) (fault_of_all texts f own rest earlier told) in
        unwhole (tables_in texts) f (first_tables_fault texts ∙ all)
