-- A history's text, entry by entry.
use Rattle.std.proofs.Common.{◌≡◌, ◌∙◌, ℕ, ◌+◌, ◌<◌, List, ◌++◌, length, get_or, Option, sym, ap, arith}
use Rattle.std.proofs.lemmas.List.FromFn.{length-enumerate_from}
use Rattle.std.specs.List.{enumerate_from}
use Rattle.mrp_turn.specs.declared.log.Entry.{Entry}
use Rattle.mrp_book.specs.declared.call.Call.{Call}
use Rattle.mrp_book.specs.declared.reply.Reply.{Reply}
use Rattle.mrp_book.specs.Standing.{History}
use Rattle.mrp_rows.specs.declared.told.Told.{Told}
use Rattle.mrp_tables.specs.Tables.{Tables}
use Rattle.mrp_report.specs.section.HistoryText.{entry_text, history_head, history_text}
use Rattle.mrp_report.proofs.lemmas.section.ListTexts as list
use Rattle.mrp_report.proofs.Progress.{IsWritten}
use Rattle.mrp_report.proofs.lemmas.section.ListWritten.{next-written}

-- the text up to an entry
abbrev pub so_far : Tables → History → ℕ → List ℕ
so_far t h k = list.so_far history_head (entry_text t) (enumerate_from 1 h) k

pub so_far-none : (t : Tables) (h : History) → history_head ≡ so_far t h 0
so_far-none t h = list.so_far-none history_head (entry_text t) (enumerate_from 1 h)

-- what is still to come
pub to-come : (t : Tables) (h : History) (k : ℕ) → (rest : List ℕ) × (history_text t h ≡ so_far t h k ++ rest)
unfolding history_text
to-come t h k = list.to-come history_head (entry_text t) (enumerate_from 1 h) k

pub whole : (t : Tables) (h : History) (k : ℕ) → k ≡ length h → so_far t h k ≡ history_text t h
unfolding history_text
whole t h k all = list.whole history_head (entry_text t) (enumerate_from 1 h) k (all ∙ sym (length-enumerate_from 1 h))

-- one more entry was put on the page
pub entry-written : {W : Type 0} (contents : W → Option (List ℕ)) (start now : Told W) (tries : ℕ) (page next : List ℕ) (tables t : Tables) (entries h : History) (k : ℕ) (e : Entry Call Reply)
    → IsWritten contents start now 1000000 tries page (so_far t h k) → tables ≡ t → entries ≡ h → k < length entries → e ≡ get_or entries k e → next ≡ page ++ entry_text tables (k + 1, e)
    → IsWritten contents start now 1000000 tries next (so_far t h (k + 1))
entry-written contents start now tries page next tables t entries h k e w same all within is adds =
    let inside : k < length h = omega (arith, within, ap (length {A = Entry Call Reply}) all) in
    let entry : e ≡ get_or h k e = is ∙ ap (λ (es : History). get_or es k e) all in
    let text : next ≡ page ++ entry_text t (k + 1, e) = adds ∙ ap (λ (x : Tables). page ++ entry_text x (k + 1, e)) same in
    next-written contents start now 1000000 tries page next history_head (entry_text t) (enumerate_from 1 h) k (k + 1, e) (k + 1, e) w (list.is-numbered h k inside) (list.numbered h k e e inside entry) text
