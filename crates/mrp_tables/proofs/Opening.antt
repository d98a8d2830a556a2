-- A table's records are its own.
use Rattle.std.proofs.Common.{◌≡◌, ℕ, Bool, true, false, List, [], ◌∷◌, Ok, Err, Result, inl, inr, sym, subst, ap, ◌∙◌, refl}
use Rattle.std.specs.Cmp.Lexicographic.{pointwise}
use Rattle.std.specs.Prelude.{nat_eq, if◌then◌else◌}
use Rattle.mrp_rows.specs.declared.fault.Fault.{Fault}
use Rattle.mrp_rows.specs.Columns.{Layout}
use Rattle.mrp_rows.specs.Left.{Left}
use Rattle.mrp_rows.specs.Next.{after_header, header_fault, opened}
use Rattle.mrp_rows.specs.Records.{records_of}
use Rattle.mrp_tables.specs.Reading.{Gives, IsRefusedBehind, IsRefusedIn, Reads, rows_from, rows_of}

by_header : (own : Layout) (made c : Left) (same : Bool) → made.layout ≡ own → (if same then Ok made else Err (header_fault own.table)) ≡ Ok c → c.layout ≡ own
by_header own made c true is e = let h : made ≡ c = cc in ap (λ (l : Left). l.layout) (sym h) ∙ is
by_header own made c false is e = absurd cc

pub after_header-layout : (own : Layout) (records : List (List (List ℕ))) (c : Left) → after_header own records ≡ Ok c → c.layout ≡ own
after_header-layout own [] c e = absurd cc
after_header-layout own (header ∷ records) c e =
    by_header own (record { layout = own; number = 1; left = records; is_over = false }) c (pointwise (pointwise nat_eq) header own.columns) refl e

-- what gathering after the header gives is what reading the table gives
pub gathered-read : {X Y : Type 0} (view : X → List Y) (reads : Reads Y) (t : Layout) (text : List ℕ) (c : Left) (empty : List Y) (r : Result X Fault)
    → opened t text ≡ Ok c → empty ≡ [] → Gives (IsRefusedBehind reads c.layout empty c.number c.left) view r (rows_from reads c.layout empty c.number c.left)
    → Gives (IsRefusedIn reads t text) view r (rows_of reads t text)
gathered-read view reads t text c empty (Ok x) opens none given =
    let own : c.layout ≡ t = after_header-layout t (records_of text) c opens in
    rw opens (rw (own, none) at given)
gathered-read {X} {Y} view reads t text c empty (Err f) opens none (inl memory) =
    let own : c.layout ≡ t = after_header-layout t (records_of text) c opens in
    let at_table : IsRefusedBehind reads t empty c.number c.left f = subst (λ (layout : Layout). IsRefusedBehind reads layout empty c.number c.left f) own memory in
    inl (inr (c, opens, subst (λ (rows : List Y). IsRefusedBehind reads t rows c.number c.left f) none at_table))
gathered-read view reads t text c empty (Err f) opens none (inr why) =
    let own : c.layout ≡ t = after_header-layout t (records_of text) c opens in
    inr (rw opens (rw (own, none) at why))
