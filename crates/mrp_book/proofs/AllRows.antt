-- Rows made item by item.
use Rattle.std.proofs.Common.{ℕ, ◌≡◌, ◌∙◌, ◌+◌, ◌<◌, ◌++◌, ◌∷◌, [], inl, inr, true, false, List, Option, Some, None, length, get_or, ap, arith, subst, sym}
use Rattle.std.proofs.lemmas.Bool.{cases_lt}
use Rattle.std.proofs.lemmas.List.{get_or_append_left, get_or_past, get_or_push, length_push}
use Rattle.mrp_master.specs.Supply.{Supply, IsMaster}
use Rattle.mrp_master.specs.AtpRow.{AtpRow, atp_row}

pub master_inside : (s : Supply) (item : ℕ) → IsMaster s item → item < length s.masters
master_inside s item master = elim (cases_lt item (length s.masters)) [
  | inl inside ↦ inside
  | inr past ↦ let bad : false ≡ true = sym (get_or_past s.masters item false past) ∙ master in absurd cc
]

pub record AreRowsTo (s : Supply) (rows : List (Option AtpRow)) (count : ℕ) : Type 0 where
  pub long : length rows ≡ count
  pub made : (item : ℕ) → item < count → IsMaster s item → get_or rows item None ≡ Some (atp_row s item [])

pub rows_none : (s : Supply) (rows : List (Option AtpRow)) → rows ≡ [] → AreRowsTo s rows 0
rows_none s rows none = record { long = ap length none; made = λ item h is. absurd (omega arith) }

pub rows_more : (s : Supply) (rows longer : List (Option AtpRow)) (count : ℕ) (row : Option AtpRow) → AreRowsTo s rows count → longer ≡ rows ++ row ∷ [] → (IsMaster s count → row ≡ Some (atp_row s count [])) → AreRowsTo s longer (count + 1)
rows_more s rows longer count row so_far pushed own = record {
  long = let l : length longer ≡ length rows + 1 = ap length pushed ∙ length_push rows row in omega (arith, so_far.long);
  made = λ item h is. elim (cases_lt item count) [
    | inl before ↦ ap (λ (x : List (Option AtpRow)). get_or x item None) pushed ∙ get_or_append_left rows (row ∷ []) None item (omega (arith, so_far.long)) ∙ so_far.made item before is
    | inr last ↦
        let same : item ≡ count = omega arith in
        ap (λ (x : List (Option AtpRow)). get_or x item None) pushed ∙ get_or_push rows row None item (so_far.long ∙ sym same)
        ∙ own (subst (IsMaster s) same is) ∙ ap (λ (x : ℕ). Some (atp_row s x [])) (sym same)
  ];
}
