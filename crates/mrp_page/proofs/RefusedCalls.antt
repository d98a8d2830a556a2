-- Each call of the history that was not answered as it asked is in *Not promised* once.
use Rattle.mrp_facts.specs.Facts.{Facts}
use Rattle.std.proofs.Common.{Option, ◌≡◌, ◌∙◌, ℕ, Bool, true, false, Some, List, [], ◌∷◌, ◌++◌, codes, drop, take, refl, sym, ap, append_assoc, length}
use Rattle.std.specs.Prelude.{◌==◌, IsPermutation, if◌then◌else◌}
use Rattle.std.specs.List.{filter, find, flat_map}
use Rattle.std.proofs.lemmas.List.{append-nil}
use Rattle.mrp_page.specs.Centres.{load_section}
use Rattle.mrp_page.specs.ByWord.{has_one_of}
use Rattle.mrp_page.specs.Columns.{column}
use Rattle.mrp_page.specs.Draw.{more_html}
use Rattle.mrp_page.specs.Escaped.{escaped}
use Rattle.mrp_page.specs.Folded.{folded_html}
use Rattle.mrp_page.specs.ItemRows.{item_lists}
use Rattle.mrp_page.specs.Kinds.{todo_html}
use Rattle.mrp_page.specs.layout.Lists.{section_end}
use Rattle.mrp_page.specs.layout.Refused.{none_refused, refused_answer, refused_open}
use Rattle.mrp_page.specs.Notes.{Noted}
use Rattle.mrp_page.specs.AtRisk.{RisksView}
use Rattle.mrp_page.specs.Promises.{risks_html}
use Rattle.mrp_page.specs.Page.{glance_html, page_html, page_of, rest_html, scene_in, top_html, shown_items}
use Rattle.mrp_page.specs.Refused.{asked_of, is_booking, refusals, refused_back, refused_html, refused_lines, refused_listing, refused_or_none, refused_rows, refused_section}
use Rattle.mrp_page.specs.Row.{RowView, cell_at}
use Rattle.mrp_page.specs.Rows.{rows_in}
use Rattle.mrp_page.specs.Scene.{SceneView}
use Rattle.mrp_page.specs.Summary.{summary_html}
use Rattle.mrp_page.specs.Template.{has_word, row_html}
use Rattle.mrp_page.specs.declared.limits.TheConstants.{FEW_ROWS}
use Rattle.mrp_day.specs.declared.section.Section.TheVariants as s
use Rattle.mrp_page.proofs.ByWord.{Differ, once-each}
use Rattle.mrp_page.proofs.Folds.{folded-is, some-rows}

refusals-differ : Differ refusals
refusals-differ = ((refl, (refl, tt)), ((refl, tt), (tt, tt)))

pub refused-once : (history : List RowView) → IsPermutation (filter (has_one_of (column s.History (codes "reply")) refusals) history) (refused_rows history)
refused-once history = once-each 7 refusals refusals-differ history

lines-are : (scene : SceneView) (missed : ℕ) (rows : List RowView) → (front : List ℕ) × (between : List ℕ) × (back : List ℕ) × (refused_or_none scene missed rows
    ≡ front ++ (flat_map (refused_html scene) (take FEW_ROWS rows) ++ (between ++ (flat_map (refused_html scene) (drop FEW_ROWS rows) ++ back))))
unfolding refused_or_none
lines-are scene missed [] = by (missed == 0)
  where
    by : (b : Bool) → (front : List ℕ) × (between : List ℕ) × (back : List ℕ) × ((if b then none_refused else folded_html (refused_listing scene) FEW_ROWS []) ≡ front ++ (flat_map (refused_html scene) (take FEW_ROWS []) ++ (between ++ (flat_map (refused_html scene) (drop FEW_ROWS []) ++ back))))
    by true = (none_refused, [], [], sym (append-nil none_refused))
    by false = folded-is (refused_listing scene) FEW_ROWS []
lines-are scene missed (r ∷ rows) =
    let (front, between, back, is) = folded-is (refused_listing scene) FEW_ROWS (r ∷ rows) in
    (front, between, back, rw (some-rows r rows) is)

placed : (t u g o f l b n m e d r : List ℕ) → t ++ (u ++ (g ++ ((o ++ ((f ++ (l ++ (b ++ (n ++ m)))) ++ e)) ++ (d ++ r)))) ≡ ((((t ++ u) ++ g) ++ o) ++ f) ++ (l ++ (b ++ (n ++ (m ++ (e ++ (d ++ r))))))
placed t u g o f l b n m e d r = simp append_assoc

pub refused-stand : (title : List ℕ) (tables : Option Facts) (notes : Noted) (risks : RisksView) → (front : List ℕ) × (between : List ℕ) × (back : List ℕ) × (page_html title tables notes risks
    ≡ front ++ (flat_map (refused_html (scene_in tables notes)) (take FEW_ROWS (refused_rows notes.history))
    ++ (between ++ (flat_map (refused_html (scene_in tables notes)) (drop FEW_ROWS (refused_rows notes.history)) ++ back))))
unfolding page_html page_of refused_section refused_lines refused_back
refused-stand title tables notes risks =
    let scene : SceneView = scene_in tables notes in
    let line : RowView → List ℕ = refused_html scene in
    let rows : List RowView = refused_rows notes.history in
    let top : List ℕ = top_html title tables notes.report notes.counts.items (length (shown_items (item_lists notes.report))) in
    let sums : List ℕ = summary_html notes.history (rows_in s.Messages notes.report) (rows_in s.Loads notes.report) risks in
    let seen : List ℕ = glance_html scene notes.report notes.counts.plan in
    let last : List ℕ = more_html notes.counts.history (codes "entry of the history is") (codes "entries of the history are") ++ section_end in
    let next : List ℕ = risks_html scene risks in
    let rest : List ℕ = todo_html scene (rows_in s.Messages notes.report) notes.counts.messages ++ (load_section scene (rows_in s.Loads notes.report) notes.counts.loads ++ rest_html scene (item_lists notes.report) notes.counts) in
    let (front, between, back, is) = lines-are scene notes.counts.history rows in (
      (((top ++ sums) ++ seen) ++ refused_open) ++ front,
      between,
      back ++ (last ++ (next ++ rest)),
      ap (λ (t : List ℕ). top ++ (sums ++ (seen ++ ((refused_open ++ (t ++ last)) ++ (next ++ rest))))) is ∙ placed top sums seen refused_open front (flat_map line (take FEW_ROWS rows)) between (flat_map line (drop FEW_ROWS rows)) back last next rest,
    )

pub none-is : (scene : SceneView) → refused_rows scene.history ≡ [] → refused_section scene 0 ≡ refused_open ++ (none_refused ++ section_end)
unfolding refused_section refused_lines refused_back refused_or_none more_html
none-is scene none = rw none refl

module _ (call : RowView) where
  pub says-short : cell_at call (column s.History (codes "reply")) ≡ codes "short" → row_html refused_answer call ≡ codes "</th><td class=t><b>short: " ++ (escaped (cell_at call (column s.History (codes "value"))) ++ codes " available</b>")
  unfolding row_html refused_answer
  says-short e = rw e refl

  pub says-standing : cell_at call (column s.History (codes "reply")) ≡ codes "not-standing" → row_html refused_answer call ≡ codes "</th><td class=t>not standing: entry " ++ (escaped (cell_at call (column s.History (codes "value"))) ++ [])
  unfolding row_html refused_answer
  says-standing e = rw e refl

  pub says-yours : cell_at call (column s.History (codes "reply")) ≡ codes "not-yours" → row_html refused_answer call ≡ codes "</th><td class=t>not yours: entry " ++ (escaped (cell_at call (column s.History (codes "value"))) ++ [])
  unfolding row_html refused_answer
  says-yours e = rw e refl

  pub names-booking : (history : List RowView) (booking : RowView) → cell_at call (column s.History (codes "call")) ≡ codes "cancel" → find (is_booking (cell_at call (column s.History (codes "number")))) history ≡ Some booking → asked_of history call ≡ booking
  unfolding asked_of
  names-booking history booking e found = rw (e, found) refl

  pub asks-itself : (history : List RowView) → has_word (column s.History (codes "call")) (codes "cancel") call ≡ false → asked_of history call ≡ call
  unfolding asked_of
  asks-itself history e = rw e refl
