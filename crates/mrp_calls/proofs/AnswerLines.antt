-- Each answer is one line.
use Rattle.std.proofs.Common.{◌≡◌, ◌⊎◌, ◌+◌, ◌≤◌, ◌%◌, ◌/◌, ℕ, zero, suc, Bool, true, false, List, [], ◌∷◌, ◌++◌, length, refl, sym, subst, inl, inr, arith}
use Rattle.std.specs.Prelude.{◌==◌, All, codes, decimal, if◌then◌else◌, nat_lt, slice_index_or}
use Rattle.std.specs.Fmt.{digit_glyph, digits, digits_onto}
use Rattle.std.specs.List.{AllByRecursion}
use Rattle.std.proofs.lemmas.Bool.{cases_lt, ne_eqb}
use Rattle.std.proofs.lemmas.List.{get_or_past}
use Rattle.mrp_rows.specs.declared.fault.Fault.{Fault}
use Rattle.mrp_rows.specs.declared.fault.Table.{Table}
use Rattle.mrp_rows.specs.declared.fault.Table.TheVariants as t
use Rattle.mrp_rows.specs.Bundle.{ends_line}
use Rattle.mrp_rows.specs.FaultText.{fault_name, fault_names, table_name, text_of_fault}
use Rattle.mrp_tables.specs.declared.item.Item.{Item}
use Rattle.mrp_tables.specs.Facts.{IsItem}
use Rattle.mrp_tables.specs.Items.{item_at}
use Rattle.mrp_tables.specs.Tables.{Tables}
use Rattle.mrp_turn.specs.declared.log.Entry.{Entry}
use Rattle.mrp_book.specs.declared.call.Call.{Call}
use Rattle.mrp_book.specs.declared.call.Call.TheVariants as call
use Rattle.mrp_book.specs.declared.reply.Reply.{Reply}
use Rattle.mrp_book.specs.declared.reply.Reply.TheVariants as reply
use Rattle.mrp_report.specs.section.Cells.{name_at}
use Rattle.mrp_report.specs.section.HistoryText.{call_cells, entry_text, reply_cells}
use Rattle.mrp_journal.specs.Lines.{IsLine}
use Rattle.mrp_calls.specs.Answers.{full_text, no_memory_text, refusal_text}
use Rattle.mrp_calls.proofs.PlainCells.{IsPlain, is-name-plain}
use Rattle.mrp_calls.proofs.PlainRows.{plain-append, row-line}

-- numbers
high-plain : (x : ℕ) → 48 ≤ x → ends_line x ≡ false
high-plain x high = rw (ne_eqb x 10 (λ e. omega (arith, high, e)), ne_eqb x 13 (λ e. omega (arith, high, e))) refl

glyph-plain : (d : ℕ) → ends_line (digit_glyph false d) ≡ false
glyph-plain d = by (nat_lt d 10)
  where
    by : (b : Bool) → ends_line (if b then 48 + d else 87 + d) ≡ false
    by true = high-plain (48 + d) (omega arith)
    by false = high-plain (87 + d) (omega arith)

more-plain : (x : ℕ) (xs : List ℕ) → ends_line x ≡ false → IsPlain xs → IsPlain (x ∷ xs)
more-plain x xs e f = rw e f

onto-plain : (k n : ℕ) (xs : List ℕ) → IsPlain xs → IsPlain (digits_onto k 10 false n xs)
onto-plain zero n xs e = e
onto-plain (suc k) n xs e =
    let more : IsPlain (digit_glyph false (n % 10) ∷ xs) = more-plain (digit_glyph false (n % 10)) xs (glyph-plain (n % 10)) e in
    by (n / 10 == 0) more (onto-plain k (n / 10) (digit_glyph false (n % 10) ∷ xs) more)
  where
    by : (b : Bool) → IsPlain (digit_glyph false (n % 10) ∷ xs) → IsPlain (digits_onto k 10 false (n / 10) (digit_glyph false (n % 10) ∷ xs))
        → IsPlain (if b then digit_glyph false (n % 10) ∷ xs else digits_onto k 10 false (n / 10) (digit_glyph false (n % 10) ∷ xs))
    by true last more = last
    by false last more = more

decimal-plain : (n : ℕ) → IsPlain (decimal n)
unfolding digits
decimal-plain n = onto-plain 64 n [] refl

-- names of items
name-at-plain : (tables : Tables) (item : ℕ) → All IsItem tables.items → IsPlain (name_at tables item)
name-at-plain tables item all = elim (cases_lt item (length tables.items)) [
  | inl within ↦ is-name-plain (name_at tables item) (all item (item_at [] 0) within).name
  | inr past ↦ subst (λ (i : Item). IsPlain i.name) (sym (get_or_past tables.items item (item_at [] 0) past)) refl
]

-- rows
all-append : (xs ys : List (List ℕ)) → AllByRecursion IsPlain xs → AllByRecursion IsPlain ys → AllByRecursion IsPlain (xs ++ ys)
all-append [] ys e f = f
all-append (x ∷ xs) ys e f = (e.0, all-append xs ys e.1 f)

call-plain : (tables : Tables) (c : Call) → All IsItem tables.items → AllByRecursion IsPlain (call_cells tables c)
call-plain tables (call.Book l) all = (refl, (name-at-plain tables l.item all, (decimal-plain l.week, (decimal-plain l.quantity, (refl, tt)))))
call-plain tables (call.Cancel n) all = (refl, (refl, (refl, (refl, (decimal-plain n, tt)))))
call-plain tables (call.Ask p) all = (refl, (name-at-plain tables p.item all, (decimal-plain p.week, (refl, (refl, tt)))))
call-plain tables (call.When w) all = (refl, (name-at-plain tables w.item all, (refl, (decimal-plain w.quantity, (refl, tt)))))
call-plain tables call.Snapshot all = (refl, (refl, (refl, (refl, (refl, tt)))))
call-plain tables call.Front all = (refl, (refl, (refl, (refl, (refl, tt)))))

reply-plain : (r : Reply) → AllByRecursion IsPlain (reply_cells r)
reply-plain (reply.Booked n) = (refl, (decimal-plain n, tt))
reply-plain (reply.Short available) = (refl, (decimal-plain available, tt))
reply-plain reply.Cancelled = (refl, (refl, tt))
reply-plain reply.NotStanding = (refl, (refl, tt))
reply-plain reply.NotYours = (refl, (refl, tt))
reply-plain (reply.Available available) = (refl, (decimal-plain available, tt))
reply-plain (reply.Week week) = (refl, (decimal-plain week, tt))
reply-plain reply.NoWeek = (refl, (refl, tt))
reply-plain (reply.Taken snapshot) = (refl, (decimal-plain snapshot.front, tt))
reply-plain (reply.Front n) = (refl, (decimal-plain n, tt))

pub entry-line : (tables : Tables) (number : ℕ) (e : Entry Call Reply) → All IsItem tables.items → IsLine (entry_text tables (number, e))
entry-line tables number e all =
    row-line (decimal number) (decimal e.who) (call_cells tables e.call ++ reply_cells e.reply) (decimal-plain number) (decimal-plain e.who)
    (all-append (call_cells tables e.call) (reply_cells e.reply) (call-plain tables e.call all) (reply-plain e.reply))

-- refusals
one-plain : (names : List (List ℕ)) (other : List ℕ) (k : ℕ) → AllByRecursion IsPlain names → IsPlain other → IsPlain (slice_index_or names k other)
one-plain [] other k all e = e
one-plain (name ∷ names) other zero all e = all.0
one-plain (name ∷ names) other (suc k) all e = one-plain names other k all.1 e

names-plain : AllByRecursion IsPlain fault_names
names-plain =
    (refl, (refl, (refl, (refl, (refl, (refl, (refl, (refl, (refl, (refl, (refl, (refl, (refl, (refl, (refl, (refl, (refl, (refl, (refl, (refl, (refl, (refl, (refl, (refl, tt))))))))))))))))))))))))

table-plain : (table : Table) → IsPlain (table_name table)
table-plain t.Calendar = refl
table-plain t.Items = refl
table-plain t.Centres = refl
table-plain t.Stock = refl
table-plain t.Receipts = refl
table-plain t.Bills = refl
table-plain t.Routings = refl
table-plain t.Master = refl
table-plain t.Script = refl
table-plain t.Bundle = refl

spaced : (xs ys : List ℕ) → IsPlain xs → IsPlain ys → IsPlain (xs ++ codes " " ++ ys)
spaced xs ys e f = plain-append (xs ++ codes " ") ys (plain-append xs (codes " ") e refl) f

fault-plain : (f : Fault) → IsPlain (text_of_fault f)
fault-plain f =
    let named = spaced (decimal f.code) (fault_name f.code) (decimal-plain f.code) (one-plain fault_names (codes "fault") f.code names-plain refl) in
    let placed = spaced (decimal f.code ++ codes " " ++ fault_name f.code) (table_name f.table) named (table-plain f.table) in
    spaced (decimal f.code ++ codes " " ++ fault_name f.code ++ codes " " ++ table_name f.table) (decimal f.row) placed (decimal-plain f.row)

pub refusal-line : (f : Fault) → IsLine (refusal_text f)
refusal-line f = record {
  text = codes "refused: " ++ text_of_fault f;
  is = refl;
  no_end = plain-append (codes "refused: ") (text_of_fault f) refl (fault-plain f);
}

-- an answer that stands alone
pub short-line : (text : List ℕ) → (text ≡ full_text) ⊎ ((text ≡ no_memory_text) ⊎ ((f : Fault) × (text ≡ refusal_text f))) → IsLine text
short-line text (inl is) = subst IsLine (sym is) (record { text = codes "full"; is = refl; no_end = refl })
short-line text (inr (inl is)) = subst IsLine (sym is) (record { text = codes "no memory"; is = refl; no_end = refl })
short-line text (inr (inr (f, is))) = subst IsLine (sym is) (refusal-line f)
