-- The bars of a picture are those of their weeks, and red where the day says that minutes are over.
use Rattle.std.proofs.Common.{◌≡◌, ◌∙◌, ◌⊎◌, ◌-◌, ◌<◌, ◌≤◌, ℕ, Bool, true, false, not, Option, Some, None, List, [], ◌∷◌, ◌++◌, codes, map, refl, sym, ap, arith, inl, inr, append_assoc}
use Rattle.std.proofs.lemmas.Bool.{both_ways, cases_lt, le-leb, or_cases}
use Rattle.std.proofs.lemmas.Fmt.{decimal_digit}
use Rattle.mrp_facts.specs.Facts.{Facts}
use Rattle.mrp_qty.specs.Minutes.{minutes_text_of}
use Rattle.mrp_page.specs.Amounts.{amount}
use Rattle.mrp_page.specs.Bars.{HasTimes}
use Rattle.mrp_page.specs.Centres.{all_loads, centre_html, framed_centre}
use Rattle.mrp_page.specs.Escaped.{escaped}
use Rattle.mrp_page.specs.Html.{is_zero}
use Rattle.mrp_page.specs.layout.Centres.{above_bar, centre_open, cut_bar, hot_bar, load_chart, load_end, low_bar}
use Rattle.mrp_page.specs.layout.Lists.{section_end}
use Rattle.mrp_page.specs.Pictured.{bars_html, centre_frame, picture_html}
use Rattle.mrp_page.specs.Row.{RowView, cell_at, same_text}
use Rattle.mrp_page.specs.Rows.{rows_named}
use Rattle.mrp_page.specs.Shares.{share, share_cells, share_of, share_row}
use Rattle.mrp_page.specs.Summary.{is_over}
use Rattle.mrp_page.specs.Template.{row_html}
use Rattle.mrp_page.specs.declared.limits.TheConstants.{MOST_AMOUNT}
use Rattle.mrp_page.proofs.NamesOnce.{text-same}
use Rattle.mrp_page.proofs.ShareOf.{above, below, drawn-is, hot-is, minutes-read, none-is}

placed : (o c b e r : List ℕ) → o ++ ((c ++ (b ++ e)) ++ r) ≡ (o ++ c) ++ (b ++ (e ++ r))
placed o c b e r = simp append_assoc

-- the picture of a work centre has the bars of its rows
pub bars-stand : (tables : Option Facts) (loads : List RowView) (leader : RowView) → (front : List ℕ) × (back : List ℕ) × (centre_html tables loads leader ≡ front ++ (bars_html (map share_row (rows_named (cell_at leader 0) loads)) ++ back))
unfolding centre_html framed_centre picture_html
bars-stand tables loads leader =
    let rows : List RowView = rows_named (cell_at leader 0) loads in
    let f : RowView = centre_frame (cell_at leader 0) rows in
    let last : List ℕ = all_loads tables f rows ++ section_end in (
      row_html centre_open f ++ row_html load_chart f,
      row_html load_end f ++ last,
      placed (row_html centre_open f) (row_html load_chart f) (bars_html (map share_row rows)) (row_html load_end f) last,
    )

pub week-is : (load : RowView) → cell_at (share_row load) 1 ≡ cell_at load 1
week-is load = by (share_of load)
  where
    by : (o : Option ℕ) → cell_at (record { section = (share_row load).section; cells = share_cells load o }) 1 ≡ cell_at load 1
    by None = refl
    by (Some percent) = refl

-- a bar without capacity
module _ (load : RowView) (is : share_of load ≡ None) where
  pub none-low : row_html low_bar (share_row load) ≡ codes "M" ++ (escaped (cell_at load 1) ++ (codes " 0v" ++ (escaped (codes "0") ++ (codes "h.8V0z" ++ []))))
  unfolding row_html low_bar
  none-low = drawn-is low_bar load None is

  pub none-hot : row_html hot_bar (share_row load) ≡ codes "M" ++ (escaped (cell_at load 1) ++ (codes " 0v" ++ (escaped (codes "100") ++ (codes "h.8V0z" ++ []))))
  unfolding row_html hot_bar
  none-hot = drawn-is hot_bar load None is

  pub none-above : row_html above_bar (share_row load) ≡ codes "M" ++ (escaped (cell_at load 1) ++ (codes " 100v" ++ (escaped (codes "100") ++ (codes "h.8V100z" ++ []))))
  unfolding row_html above_bar
  none-above = drawn-is above_bar load None is

  pub none-cut : row_html cut_bar (share_row load) ≡ codes "M" ++ (escaped (cell_at load 1) ++ (codes " 204h.8l-.4 " ++ (escaped (codes "20") ++ (codes "z" ++ []))))
  unfolding row_html cut_bar
  none-cut = drawn-is cut_bar load None is

-- a bar that is not red
pub pale-is : (load : RowView) (percent : ℕ) → share_of load ≡ Some percent → percent ≤ 100 → row_html hot_bar (share_row load) ≡ codes "M" ++ (escaped (cell_at load 1) ++ (codes " 0v" ++ (escaped (codes "0") ++ (codes "h.8V0z" ++ []))))
unfolding row_html hot_bar
pale-is load percent is within = drawn-is hot_bar load (Some percent) is ∙ rw (le-leb percent 100 within) refl

-- minutes of more than no time are not zero
not-zero : (time : ℕ) → time ≤ MOST_AMOUNT → 0 < time → is_zero (minutes_text_of time) ≡ false
not-zero time small some = by (is_zero (minutes_text_of time)) refl
  where
    none-of : (text : List ℕ) → amount text ≡ 0 → same_text (minutes_text_of time) text ≡ true → ⊥
    none-of text none e =
        let same : amount (minutes_text_of time) ≡ amount text = ap amount (text-same (minutes_text_of time) text e) in
        omega (arith, minutes-read time small, same, none, some)

    by : (b : Bool) → is_zero (minutes_text_of time) ≡ b → b ≡ false
    by false e = refl
    by true e = absurd (which (or_cases (same_text (minutes_text_of time) (codes "0")) (same_text (minutes_text_of time) (codes "0.000")) e))
      where
        which : (same_text (minutes_text_of time) (codes "0") ≡ true) ⊎ (same_text (minutes_text_of time) (codes "0.000") ≡ true) → ⊥
        which (inl is) = none-of (codes "0") refl is
        which (inr is) = none-of (codes "0.000") refl is

zero-text : is_zero (minutes_text_of 0) ≡ true
zero-text = ap (λ (t : List ℕ). is_zero (t ++ (46 ∷ 48 ∷ 48 ∷ 48 ∷ []))) (decimal_digit 0 (omega arith))

module _ (row : RowView) (load capacity : ℕ) (has : HasTimes row load capacity) where
  share-is : share_of row ≡ share load capacity
  share-is =
      ap (λ (n : ℕ). share n (amount (cell_at row 3))) (ap amount has.loaded ∙ minutes-read load has.load_small)
      ∙ ap (share load) (ap amount has.able ∙ minutes-read capacity has.capacity_small)

  pub over-is : capacity < load → is_over row ≡ true
  over-is more = ap (λ (t : List ℕ). not (is_zero t)) has.over ∙ ap not (not-zero (load - capacity) (omega (arith, has.load_small)) (omega (arith, more)))

  pub within-is : load ≤ capacity → is_over row ≡ false
  within-is less =
      let none : load - capacity ≡ 0 = omega (arith, less) in
      ap (λ (t : List ℕ). not (is_zero t)) has.over ∙ ap (λ (n : ℕ). not (is_zero (minutes_text_of n))) none ∙ ap not zero-text

  -- a bar is red if minutes are over
  pub red-is : is_over row ≡ true → row_html hot_bar (share_row row) ≡ codes "M" ++ (escaped (cell_at row 1) ++ (codes " 0v" ++ (escaped (codes "100") ++ (codes "h.8V0z" ++ []))))
  red-is over = by (cases_lt capacity load) (share_of row) refl
    where
      by : (capacity < load) ⊎ (load ≤ capacity) → (o : Option ℕ) → share_of row ≡ o → row_html hot_bar (share_row row) ≡ codes "M" ++ (escaped (cell_at row 1) ++ (codes " 0v" ++ (escaped (codes "100") ++ (codes "h.8V0z" ++ []))))
      by (inr less) o e = absurd (both_ways (is_over row) (within-is less) over)
      by (inl more) None e = none-hot row e
      by (inl more) (Some percent) e = hot-is row percent e (above load capacity percent (sym share-is ∙ e) more)

  -- and only then
  pub blue-is : is_over row ≡ false → row_html hot_bar (share_row row) ≡ codes "M" ++ (escaped (cell_at row 1) ++ (codes " 0v" ++ (escaped (codes "0") ++ (codes "h.8V0z" ++ []))))
  blue-is within = by (cases_lt capacity load) (share_of row) refl
    where
      by : (capacity < load) ⊎ (load ≤ capacity) → (o : Option ℕ) → share_of row ≡ o → row_html hot_bar (share_row row) ≡ codes "M" ++ (escaped (cell_at row 1) ++ (codes " 0v" ++ (escaped (codes "0") ++ (codes "h.8V0z" ++ []))))
      by (inl more) o e = absurd (both_ways (is_over row) within (over-is more))
      by (inr less) None e = absurd (omega (arith, less, (none-is load capacity (sym share-is ∙ e)).0, (none-is load capacity (sym share-is ∙ e)).1))
      by (inr less) (Some percent) e = pale-is row percent e (below load capacity percent (sym share-is ∙ e) less)
