-- Gathering a table's rows, record by record.
use Rattle.std.proofs.Common.{◌≡◌, ◌⊎◌, ℕ, List, [], ◌∷◌, ◌++◌, Some, None, Result, Ok, Err, inl, inr, refl, sym, subst, ap, ◌∙◌, append_assoc}
use Rattle.mrp_qty.specs.Reading.{◌>>=◌}
use Rattle.mrp_rows.specs.declared.fault.Fault.{Fault}
use Rattle.mrp_rows.specs.Columns.{Layout}
use Rattle.mrp_rows.specs.Left.{Cells, Left}
use Rattle.mrp_rows.specs.Next.{memory_fault, next_number}
use Rattle.mrp_rows.proofs.TextLaws.{whole_step}
use Rattle.mrp_tables.specs.Laws.{read_one}
use Rattle.mrp_tables.specs.Reading.{Adds, IsRefusedBehind, NextAdmitted, Reads, admitted, number_behind, rows_from}
use Rattle.mrp_tables.proofs.RowLaws.{Records, bind_assoc}

-- a table is read, except for a cursor's remaining records
pub record IsLeft {X : Type 0} (read : Reads X) (t : Layout) (before : List X) (c : Left) (total : Result (List X) Fault) : Type 0 where
  pub left : rows_from read t before c.number c.left ≡ total
  pub layout : c.layout ≡ t

same_cells : (a b : Cells) → a.table ≡ b.table → a.number ≡ b.number → a.cells ≡ b.cells → a ≡ b
same_cells a b e f g = λ i. record { table = e i; number = f i; cells = g i }

-- the first of the remaining records
begins : {X : Type 0} (read : Reads X) (t : Layout) (before : List X) (old new : Left) (r : Cells) (total : Result (List X) Fault)
    → IsLeft read t before old total → NextAdmitted (read.limit before) old (Ok (Some r)) new
    → (read.row before r >>= λ x. rows_from read t (before ++ (x ∷ [])) new.number new.left) ≡ total
unfolding rows_from
begins {X} read t before old new r total h given =
    let made : Cells = record { table = t.table; number = old.number; cells = r.cells } in
    let same : made ≡ r = same_cells made r (sym (given.first.table ∙ ap (λ (own : Layout). own.table) h.layout)) (sym given.first.number) refl in
    let ok : admitted (read.limit before) t made ≡ Ok r = ap (admitted (read.limit before) t) same ∙ subst (λ (own : Layout). admitted (read.limit before) own r ≡ Ok r) h.layout given.within in
    let after : Cells → Result (List X) Fault = λ a. read.row before a >>= λ x. rows_from read t (before ++ (x ∷ [])) (next_number old.number) new.left in
    let opened : rows_from read t before old.number old.left ≡ (admitted (read.limit before) t made >>= after) = rw given.first.taken refl in
    rw given.first.after (sym (ap (λ a. a >>= after) ok) ∙ sym opened ∙ h.left)

-- a row is added
pub adds : {X : Type 0} (read : Reads X) (t : Layout) (before after : List X) (old new : Left) (r : Cells) (total : Result (List X) Fault) (u : Unit {0})
    → IsLeft read t before old total → NextAdmitted (read.limit before) old (Ok (Some r)) new → Adds read before r (Ok u) after → IsLeft read t after new total
adds read t before after old new r total u h given (x, reads, grown) = record {
  left = rw grown (rw reads at (begins read t before old new r total h given));
  layout = given.first.same ∙ h.layout;
}

-- the records before a cursor's place are read
pub record IsDone {X : Type 0} (read : Reads X) (t : Layout) (start : List X) (first : ℕ) (all : Records) (before : List X) (c : Left) : Type 0 where
  pub done : Records
  pub parts : all ≡ done ++ c.left
  pub are_read : rows_from read t start first done ≡ Ok before
  pub at : c.number ≡ number_behind first done

-- none is read
pub begun : {X : Type 0} (read : Reads X) (t : Layout) (start : List X) (c : Left) → IsDone read t start c.number c.left start c
unfolding rows_from
begun read t start c = record { done = []; parts = refl; are_read = refl; at = refl }

number_behind-more : (done : Records) (first : ℕ) (cells : List (List ℕ)) → number_behind first (done ++ cells ∷ []) ≡ next_number (number_behind first done)
number_behind-more [] first cells = refl
number_behind-more (d ∷ done) first cells = number_behind-more done (next_number first) cells

-- one more record is read
one_more : {X : Type 0} (read : Reads X) (t : Layout) (done : Records) (start : List X) (first : ℕ) (before : List X) (cells : List (List ℕ)) (x : X)
    → rows_from read t start first done ≡ Ok before
    → read_one read t before (record { table = t.table; number = number_behind first done; cells = cells }) ≡ Ok x
    → rows_from read t start first (done ++ cells ∷ []) ≡ Ok (before ++ x ∷ [])
unfolding rows_from
one_more {X} read t [] start first before cells x are reads =
    let r : Cells = record { table = t.table; number = first; cells = cells } in
    let next : X → Result (List X) Fault = λ y. rows_from read t (start ++ (y ∷ [])) (next_number first) [] in
    let same : start ≡ before = cc in
    let one : read_one read t start r ≡ Ok x = rw same reads in
    sym (bind_assoc (admitted (read.limit start) t r) (read.row start) next) ∙ ap (λ (y : Result X Fault). y >>= next) one ∙ ap (λ (rows : List X). Ok (rows ++ x ∷ [])) same
one_more {X} read t (d ∷ done) start first before cells x are reads =
    let r : Cells = record { table = t.table; number = first; cells = d } in
    let next : X → Result (List X) Fault = λ y. rows_from read t (start ++ (y ∷ [])) (next_number first) done in
    let longer : X → Result (List X) Fault = λ y. rows_from read t (start ++ (y ∷ [])) (next_number first) (done ++ cells ∷ []) in
    let step = whole_step (read_one read t start r) next before (bind_assoc (admitted (read.limit start) t r) (read.row start) next ∙ are) in
    sym (bind_assoc (admitted (read.limit start) t r) (read.row start) longer) ∙ ap (λ (y : Result X Fault). y >>= longer) step.1
    ∙ one_more read t done (start ++ step.0 ∷ []) (next_number first) before cells x step.2 reads

pub adds_done : {X : Type 0} (read : Reads X) (t : Layout) (start : List X) (first : ℕ) (all : Records) (before after : List X) (old new : Left) (r : Cells) (u : Unit {0})
    → old.layout ≡ t → IsDone read t start first all before old → NextAdmitted (read.limit before) old (Ok (Some r)) new → Adds read before r (Ok u) after
    → IsDone read t start first all after new
adds_done read t start first all before after old new r u own h given (x, reads, grown) =
    let made : Cells = record { table = t.table; number = number_behind first h.done; cells = r.cells } in
    let same : made ≡ r = same_cells made r (sym (given.first.table ∙ ap (λ (l : Layout). l.table) own)) (sym (given.first.number ∙ h.at)) refl in
    let within : admitted (read.limit before) t r ≡ Ok r = subst (λ (l : Layout). admitted (read.limit before) l r ≡ Ok r) own given.within in
    let one : read_one read t before made ≡ Ok x = ap (read_one read t before) same ∙ rw within reads in
    record {
      done = h.done ++ r.cells ∷ [];
      parts = h.parts ∙ ap (λ (rest : Records). h.done ++ rest) given.first.taken ∙ sym (append_assoc h.done (r.cells ∷ []) new.left);
      are_read = rw grown (one_more read t h.done start first before r.cells x h.are_read one);
      at = given.first.after ∙ ap next_number h.at ∙ sym (number_behind-more h.done first r.cells);
    }

-- out of memory at a cursor's place
behind : {X : Type 0} (read : Reads X) (t : Layout) (start : List X) (first : ℕ) (all : Records) (before : List X) (c : Left) (f : Fault)
    → IsDone read t start first all before c → c.layout ≡ t → f ≡ memory_fault c.layout.table c.number → IsRefusedBehind read t start first all f
behind read t start first all before c f h own e = record {
  done = h.done;
  rest = c.left;
  rows = before;
  parts = h.parts;
  are_read = h.are_read;
  fault = e ∙ (λ i. memory_fault (own i).table (h.at i));
}

-- a row is refused
pub refuses : {X : Type 0} (read : Reads X) (t : Layout) (start : List X) (first : ℕ) (all : Records) (before after : List X) (old new : Left) (r : Cells) (total : Result (List X) Fault) (f : Fault)
    → IsLeft read t before old total → IsDone read t start first all before old → NextAdmitted (read.limit before) old (Ok (Some r)) new → Adds read before r (Err f) after
    → IsRefusedBehind read t start first all f ⊎ (total ≡ Err f)
refuses read t start first all before after old new r total f h d given (same, inl memory) =
    inl (behind read t start first all before old f d h.layout (memory.fault ∙ (λ i. memory_fault (given.first.table i) (given.first.number i))))
refuses read t start first all before after old new r total f h d given (same, inr why) = inr (sym (rw why at (begins read t before old new r total h given)))

-- the next record is refused
pub stops : {X : Type 0} (read : Reads X) (t : Layout) (start : List X) (first : ℕ) (all : Records) (before : List X) (old new : Left) (total : Result (List X) Fault) (f : Fault)
    → IsLeft read t before old total → IsDone read t start first all before old → NextAdmitted (read.limit before) old (Err f) new
    → IsRefusedBehind read t start first all f ⊎ (total ≡ Err f)
unfolding rows_from
stops read t start first all before old new total f h d (inl memory) = inl (behind read t start first all before old f d h.layout memory.fault)
stops read t start first all before old new total f h d (inr none) =
    let opened : rows_from read t before old.number old.left ≡ Err f = rw (none.left, ← h.layout, none.refused) refl in
    inr (sym h.left ∙ opened)

-- no record is left
pub ends : {X : Type 0} (read : Reads X) (t : Layout) (before : List X) (old new : Left) (total : Result (List X) Fault)
    → IsLeft read t before old total → NextAdmitted (read.limit before) old (Ok None) new → total ≡ Ok before
unfolding rows_from
ends read t before old new total h none = sym h.left ∙ rw none refl
