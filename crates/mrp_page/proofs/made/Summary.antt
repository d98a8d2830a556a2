-- The counts of a page.
use Rattle.std.proofs.Common.{◌-◌, ◌<◌, ℕ, Bool, true, false, List, [], ◌∷◌, ◌++◌, codes, decimal, get_or, length, refl, arith}
use Rattle.std.specs.Prelude.{if◌then◌else◌, ◌==◌, count_by}
use Rattle.std.proofs.lemmas.List.Elements.{All-cons, All-nil}
use Rattle.std.specs.List.{All}
use Rattle.mrp_page.specs.Known.{small_words, summary_counts}
use Rattle.mrp_page.specs.layout.Head.{centre_tile, main_open, summary_open, summary_tile}
use Rattle.mrp_page.specs.AtRisk.{RisksView}
use Rattle.mrp_page.specs.Row.{RowView, cell_at}
use Rattle.mrp_page.specs.Summary.{calls_tiles, centre_count, centres_tile, count_with, is_undone, kind_tile, kinds_tiles, overloads, place_or, risk_tile, summary_html, tile, tile_html}
use Rattle.mrp_page.specs.Template.{row_html}
use Rattle.mrp_day.specs.declared.section.Section.TheVariants as s
use Rattle.mrp_page.proofs.made.Facts.{Made, Vocabulary}
use Rattle.mrp_page.proofs.made.Laid.{laid-centre_tile, laid-summary_tile}
use Rattle.mrp_page.proofs.made.Plain.{own-main_open, own-summary_open}
use Rattle.mrp_page.proofs.made.Pieces.{either, join, knows, mark, none, nothing, row, small}

module _ (v : Vocabulary) where
  tile-known : (count : ℕ) (mark-of place what : List ℕ) (all : ℕ) → v.Known (decimal count) → v.Known mark-of → v.Known place → v.Known what → v.Known (decimal all) → (column : ℕ) → v.Known (cell_at (tile count mark-of place what all) column)
  unfolding small_words
  tile-known count mark-of place what all of-count of-mark of-place of-what of-all =
      let shade : List ℕ = if count == 0 then codes "none" else mark-of in
      knows v s.Run (decimal count ∷ shade ∷ place ∷ what ∷ decimal all ∷ [])
      (All-cons v.Known (decimal count) (shade ∷ place ∷ what ∷ decimal all ∷ []) of-count
      (All-cons v.Known shade (place ∷ what ∷ decimal all ∷ []) (by (count == 0))
      (All-cons v.Known place (what ∷ decimal all ∷ []) of-place
      (All-cons v.Known what (decimal all ∷ []) of-what
      (All-cons v.Known (decimal all) [] of-all (All-nil v.Known))))))
    where
      by : (b : Bool) → v.Known (if b then codes "none" else mark-of)
      by true = (small v (codes "none") 25 (omega arith) refl)
      by false = of-mark

  a-tile : (count : ℕ) (mark-of place what : List ℕ) → v.Known (decimal count) → v.Known mark-of → v.Known place → v.Known what → Made v (tile_html count mark-of place what)
  unfolding tile_html
  a-tile count mark-of place what of-count of-mark of-place of-what = row v summary_tile (tile count mark-of place what count) laid-summary_tile (tile-known count mark-of place what count of-count of-mark of-place of-what of-count)

  calls-tiles : (history : List RowView) → v.Known (decimal (count_with 7 (codes "short") history)) → v.Known (decimal (count_by is_undone history)) → Made v (calls_tiles history)
  unfolding calls_tiles small_words
  calls-tiles history short undone =
      join v (tile_html (count_with 7 (codes "short") history) (codes "late") (codes "unkept") (codes "not promised")) (tile_html (count_by is_undone history) (codes "cancel") (codes "unkept") (codes "not cancelled"))
      (a-tile (count_with 7 (codes "short") history) (codes "late") (codes "unkept") (codes "not promised") short (small v (codes "late") 26 (omega arith) refl) (small v (codes "unkept") 27 (omega arith) refl) (small v (codes "not promised") 28 (omega arith) refl))
      (a-tile (count_by is_undone history) (codes "cancel") (codes "unkept") (codes "not cancelled") undone (small v (codes "cancel") 29 (omega arith) refl) (small v (codes "unkept") 27 (omega arith) refl) (small v (codes "not cancelled") 30 (omega arith) refl))

  kind-tile : (messages : List RowView) (word mark-of what : List ℕ) → v.Known (decimal (count_with 3 word messages)) → v.Known mark-of → v.Known what → Made v (kind_tile messages word mark-of what)
  unfolding kind_tile small_words
  kind-tile messages word mark-of what of-count of-mark of-what = a-tile (count_with 3 word messages) mark-of (place_or (count_with 3 word messages) mark-of) what of-count of-mark (by (count_with 3 word messages == 0)) of-what
    where
      by : (b : Bool) → v.Known (if b then codes "todo" else mark-of)
      by true = (small v (codes "todo") 31 (omega arith) refl)
      by false = of-mark

  kinds-tiles : (messages : List RowView) → v.Known (decimal (count_with 3 (codes "PAST-DUE") messages)) → v.Known (decimal (count_with 3 (codes "RELEASE") messages)) → v.Known (decimal (count_with 3 (codes "IN") messages)) → v.Known (decimal (count_with 3 (codes "OUT") messages)) → v.Known (decimal (count_with 3 (codes "CANCEL") messages)) → Made v (kinds_tiles messages)
  unfolding kinds_tiles small_words
  kinds-tiles messages a b c d e =
      let first : List ℕ = kind_tile messages (codes "PAST-DUE") (codes "late") (codes "past due") in
      let second : List ℕ = kind_tile messages (codes "RELEASE") (codes "release") (codes "release") in
      let third : List ℕ = kind_tile messages (codes "IN") (codes "in") (codes "reschedule in") in
      let fourth : List ℕ = kind_tile messages (codes "OUT") (codes "out") (codes "reschedule out") in
      let fifth : List ℕ = kind_tile messages (codes "CANCEL") (codes "cancel") (codes "cancel") in
      join v first (second ++ (third ++ (fourth ++ fifth))) (kind-tile messages (codes "PAST-DUE") (codes "late") (codes "past due") a (small v (codes "late") 26 (omega arith) refl) (small v (codes "past due") 35 (omega arith) refl))
      (join v second (third ++ (fourth ++ fifth)) (kind-tile messages (codes "RELEASE") (codes "release") (codes "release") b (small v (codes "release") 32 (omega arith) refl) (small v (codes "release") 32 (omega arith) refl))
      (join v third (fourth ++ fifth) (kind-tile messages (codes "IN") (codes "in") (codes "reschedule in") c (small v (codes "in") 33 (omega arith) refl) (small v (codes "reschedule in") 36 (omega arith) refl))
      (join v fourth fifth (kind-tile messages (codes "OUT") (codes "out") (codes "reschedule out") d (small v (codes "out") 34 (omega arith) refl) (small v (codes "reschedule out") 37 (omega arith) refl))
      (kind-tile messages (codes "CANCEL") (codes "cancel") (codes "cancel") e (small v (codes "cancel") 29 (omega arith) refl) (small v (codes "cancel") 29 (omega arith) refl)))))

  risk-tile : (risks : RisksView) → v.Known (decimal (length risks.rows)) → Made v (risk_tile risks)
  unfolding risk_tile small_words
  risk-tile risks known =
      either v risks.known (tile_html (length risks.rows) (codes "late") (codes "risk") (codes "at risk")) []
      (a-tile (length risks.rows) (codes "late") (codes "risk") (codes "at risk") known (small v (codes "late") 26 (omega arith) refl) (small v (codes "risk") 44 (omega arith) refl) (small v (codes "at risk") 45 (omega arith) refl)) (none v)

  pub summed : (history messages loads-of : List RowView) (risks : RisksView) → All v.Known (summary_counts history messages loads-of) → v.Known (decimal (length risks.rows)) → Made v (summary_html history messages loads-of risks)
  unfolding summary_html centres_tile small_words
  summed history messages loads-of risks counts risk-count =
      let count : (k : ℕ) → k < 9 → v.Known (get_or (summary_counts history messages loads-of) k []) = λ k within. counts k [] (omega (arith, within)) in
      let over : List ℕ = row_html centre_tile (tile (centre_count (overloads loads-of)) (codes "late") (codes "centres") [] (centre_count loads-of)) in
      join v summary_open (calls_tiles history ++ (risk_tile risks ++ (kinds_tiles messages ++ (over ++ main_open)))) (mark v summary_open own-summary_open)
      (join v (calls_tiles history) (risk_tile risks ++ (kinds_tiles messages ++ (over ++ main_open))) (calls-tiles history (count 0 (omega arith)) (count 1 (omega arith)))
      (join v (risk_tile risks) (kinds_tiles messages ++ (over ++ main_open)) (risk-tile risks risk-count)
      (join v (kinds_tiles messages) (over ++ main_open) (kinds-tiles messages (count 2 (omega arith)) (count 3 (omega arith)) (count 4 (omega arith)) (count 5 (omega arith)) (count 6 (omega arith)))
      (join v over main_open (row v centre_tile (tile (centre_count (overloads loads-of)) (codes "late") (codes "centres") [] (centre_count loads-of)) laid-centre_tile
      (tile-known (centre_count (overloads loads-of)) (codes "late") (codes "centres") [] (centre_count loads-of) (count 7 (omega arith)) (small v (codes "late") 26 (omega arith) refl) (small v (codes "centres") 38 (omega arith) refl) (nothing v) (count 8 (omega arith))))
      (mark v main_open own-main_open)))))
