-- The page of a day.
use Rattle.std.specs.Prelude.{ℕ, ◌≡◌, true, false, List, Option}
use Rattle.mrp_facts.specs.Facts.{Facts}
use Rattle.mrp_page.specs.Fits.{fits}
use Rattle.mrp_page.specs.Notes.{Noted}
use Rattle.mrp_page.specs.Page.{AreRisksIn, page_html}
use Rattle.mrp_page.specs.AtRisk.{RisksView}
use Rattle.mrp_page.specs.Reading.{IsKeptOf}
use Rattle.mrp_page.specs.Spot.{Names}

-- a text is a day, which can be of these tables if they are given, and this holds of its page
abbrev pub IsPageOf : List ℕ → Option Facts → Names → Option ℕ → List ℕ → (List ℕ → Type 0) → Type 0
IsPageOf title tables items asked text P = (notes : Noted) × (risks : RisksView) × IsKeptOf items asked text notes × (fits tables items notes ≡ true) × AreRisksIn items notes risks × P (page_html title tables notes risks)

-- a text is a day, and this is its page
abbrev pub HasPage : List ℕ → Option Facts → Names → Option ℕ → List ℕ → List ℕ → Type 0
HasPage title tables items asked text page = IsPageOf title tables items asked text (λ whole. page ≡ whole)

-- a text is a day, which cannot be of these tables
abbrev pub IsOfOtherTables : Option Facts → Names → Option ℕ → List ℕ → Type 0
IsOfOtherTables tables items asked text = (notes : Noted) × IsKeptOf items asked text notes × (fits tables items notes ≡ false)
