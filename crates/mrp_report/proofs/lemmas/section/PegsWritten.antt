-- A text is written while its rest is still to be made.
use Rattle.std.proofs.Common.{◌≡◌, ◌∙◌, ℕ, ◌-◌, ◌≤◌, List, ◌++◌, Option, ap, sym, append_assoc}
use Rattle.mrp_rows.specs.declared.told.Told.{Told}
use Rattle.mrp_report.specs.section.PegRows.{IsAdded}
use Rattle.mrp_report.specs.Written.{PassesOn}
use Rattle.mrp_report.proofs.Progress.{IsWritten, written-more, written-passed}

-- so much of a whole is passed on or on the page, and so much is still to come
pub record IsWrittenTo {W : Type 0} (contents : W → Option (List ℕ)) (start now : Told W) (first tries : ℕ) (page left whole : List ℕ) : Type 0 where
  pub text : List ℕ
  pub written : IsWritten contents start now first tries page text
  pub rest : whole ≡ text ++ left

module _ {W : Type 0} (contents : W → Option (List ℕ)) (start : Told W) (first : ℕ) where
  pub to-added : (now : Told W) (tries : ℕ) (page next left fewer whole : List ℕ) → IsWrittenTo contents start now first tries page left whole → IsAdded page next left fewer → IsWrittenTo contents start now first tries next fewer whole
  to-added now tries page next left fewer whole w added = record {
    text = w.text ++ added.text;
    written = written-more contents start now first tries page next w.text added.text w.written added.put;
    rest = w.rest ∙ ap (λ (t : List ℕ). w.text ++ t) added.rest ∙ sym (append_assoc w.text added.text fewer);
  }

  pub to-passed : (now then : Told W) (tries few : ℕ) (page kept left whole : List ℕ) → IsWrittenTo contents start now first tries page left whole → few ≤ tries → PassesOn contents now then page kept (tries - few)
      → IsWrittenTo contents start then first few kept left whole
  to-passed now then tries few page kept left whole w less passed = record {
    text = w.text;
    written = written-passed contents start now then first tries few page kept w.text w.written less passed;
    rest = w.rest;
  }
