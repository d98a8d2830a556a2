-- Texts of a list's elements are written, in order.
use Rattle.std.proofs.Common.{◌≡◌, ℕ, ◌+◌, ◌-◌, ◌<◌, ◌≤◌, List, ◌++◌, length, get_or, Option, sym, subst, refl}
use Rattle.mrp_rows.specs.declared.told.Told.{Told}
use Rattle.mrp_report.specs.Written.{PassesOn}
use Rattle.mrp_report.proofs.lemmas.section.ListTexts.{so_far, so_far-more}
use Rattle.mrp_report.proofs.Progress.{IsWritten, written-more, written-passed}

-- the text of one more element was put on the page
pub next-written : {W A : Type 0} (contents : W → Option (List ℕ)) (start now : Told W) (first tries : ℕ) (page next before : List ℕ) (text : A → List ℕ) (xs : List A) (k : ℕ) (x d : A)
    → IsWritten contents start now first tries page (so_far before text xs k) → k < length xs → x ≡ get_or xs k d → next ≡ page ++ text x
    → IsWritten contents start now first tries next (so_far before text xs (k + 1))
next-written contents start now first tries page next before text xs k x d w within is adds =
    subst (λ (t : List ℕ). IsWritten contents start now first tries next t) (sym (so_far-more before text xs k x d within is))
    (written-more contents start now first tries page next (so_far before text xs k) (text x) w adds)

-- the text of one more element was put on the page, and some of the page passed on
pub next-passed : {W A : Type 0} (contents : W → Option (List ℕ)) (start now then : Told W) (first tries fewer : ℕ) (page left before : List ℕ) (text : A → List ℕ) (xs : List A) (k : ℕ) (x d : A)
    → IsWritten contents start now first tries page (so_far before text xs k) → k < length xs → x ≡ get_or xs k d → fewer ≤ tries
    → PassesOn contents now then (page ++ text x) left (tries - fewer) → IsWritten contents start then first fewer left (so_far before text xs (k + 1))
next-passed contents start now then first tries fewer page left before text xs k x d w within is less passed =
    written-passed contents start now then first tries fewer (page ++ text x) left (so_far before text xs (k + 1))
    (next-written contents start now first tries page (page ++ text x) before text xs k x d w within is refl) less passed
