-- Texts of a row of weeks, in order.
use Rattle.std.proofs.Common.{◌≡◌, ◌∙◌, ℕ, ◌+◌, List, [], ◌∷◌, ◌++◌, ap, sym, append_assoc}
use Rattle.std.proofs.lemmas.List.{append-nil}
use Rattle.std.proofs.lemmas.List.Concat.{flat_map-append, flat_map-cons}
use Rattle.std.specs.List.{flat_map}
use Rattle.mrp_phase.specs.Weeks.{row}
use Rattle.mrp_phase.proofs.WeekRows.{row_none, row_more}

pub texts_none : {V : Type 0} (text : V → List ℕ) (f : ℕ → V) (before : List ℕ) → before ≡ before ++ flat_map text (row 0 f)
texts_none text f before = rw row_none (sym (append-nil before))

-- the text of one more week
pub texts_more : {V : Type 0} (text : V → List ℕ) (f : ℕ → V) (n : ℕ) (page next before : List ℕ) (v : V) → page ≡ before ++ flat_map text (row n f) → v ≡ f (n + 1) → next ≡ page ++ text v
    → next ≡ before ++ flat_map text (row (n + 1) f)
texts_more {V} text f n page next before v so_far is adds =
    adds ∙ ap (λ (p : List ℕ). p ++ text v) so_far ∙ ap (λ (x : V). before ++ flat_map text (row n f) ++ text x) is
    ∙ append_assoc before (flat_map text (row n f)) (text (f (n + 1)))
    ∙ ap (λ (t : List ℕ). before ++ t)
    (sym (ap (flat_map text) (row_more f n) ∙ flat_map-append text (row n f) (f (n + 1) ∷ [])
    ∙ ap (λ (t : List ℕ). flat_map text (row n f) ++ t) (flat_map-cons text (f (n + 1)) [] ∙ append-nil (text (f (n + 1))))))
