-- A bundle has one opening, and its script one history.
use Rattle.std.proofs.Common.{◌≡◌, ◌∙◌, ℕ, List, Ok, Err, sym, ap, subst, inl, inr}
use Rattle.std.proofs.lemmas.Bool.{cases_order}
use Rattle.mrp_rows.specs.declared.fault.Fault.{Fault}
use Rattle.mrp_tables.specs.Tables.{Tables, tables_of}
use Rattle.mrp_tables.specs.declared.rows.BillLine.{BillLine}
use Rattle.mrp_bill.specs.Bill.{IsFirstLoop}
use Rattle.mrp_master.specs.Supply.{supply_of}
use Rattle.mrp_book.specs.Standing.{History}
use Rattle.mrp_book.proofs.Histories.{history-unique}
use Rattle.mrp_script.specs.Opened.{IsAccepted, IsRefused, loop_fault}
use Rattle.mrp_script.specs.Script.{AnswersScript}

pub same-tables : (bundle : List ℕ) (a b : Tables) → tables_of bundle ≡ Ok a → tables_of bundle ≡ Ok b → a ≡ b
same-tables bundle a b e f = cc

same-fault : (bundle : List ℕ) (f g : Fault) → tables_of bundle ≡ Err f → tables_of bundle ≡ Err g → f ≡ g
same-fault bundle f g d e = cc

pub not-both : (bundle : List ℕ) (t : Tables) (f : Fault) → tables_of bundle ≡ Ok t → tables_of bundle ≡ Err f → ⊥
not-both bundle t f e d = cc

same-loop : (lines : List BillLine) (i j : ℕ) → IsFirstLoop lines i → IsFirstLoop lines j → i ≡ j
same-loop lines i j a b = elim (cases_order i j) [ inl same ↦ same | inr (inl before) ↦ absurd (b.first i before a.loop) | inr (inr after) ↦ absurd (a.first j after b.loop) ]

-- a script has one history
pub same-history : (t : Tables) (g h : History) → AnswersScript t g → AnswersScript t h → g ≡ h
same-history t g h a b = history-unique (supply_of t) g h a.legal b.legal (a.in_order ∙ sym b.in_order)

pub one-fault : (bundle : List ℕ) (f g : Fault) → IsRefused bundle f → IsRefused bundle g → f ≡ g
one-fault bundle f g (inl a) (inl b) = same-fault bundle f g a b
one-fault bundle f g (inl a) (inr (t, i, l, e)) = absurd (not-both bundle t f l.tables_are a)
one-fault bundle f g (inr (t, i, l, e)) (inl b) = absurd (not-both bundle t g l.tables_are b)
one-fault bundle f g (inr (t, i, l, e)) (inr (u, j, m, d)) =
    let same = same-tables bundle t u l.tables_are m.tables_are in
    let there : IsFirstLoop t.bills j = subst (λ (s : Tables). IsFirstLoop s.bills j) (sym same) m.loop in
    e ∙ ap loop_fault (same-loop t.bills i j l.loop there) ∙ sym d

pub accepted-not-refused : (bundle : List ℕ) (t : Tables) (f : Fault) → IsAccepted bundle t → IsRefused bundle f → ⊥
accepted-not-refused bundle t f a (inl e) = not-both bundle t f a.tables_are e
accepted-not-refused bundle t f a (inr (u, i, l, e)) =
    let there : IsFirstLoop t.bills i = subst (λ (s : Tables). IsFirstLoop s.bills i) (sym (same-tables bundle t u a.tables_are l.tables_are)) l.loop in
    a.no_loop i there.loop
