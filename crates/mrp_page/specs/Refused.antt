-- The section *Not promised*: the calls that were not answered as they asked.
use Rattle.std.specs.Prelude.{ℕ, Bool, List, [], ◌∷◌, ◌++◌, ◌==◌, ◌&&◌, codes, unwrap_or, if◌then◌else◌}
use Rattle.std.specs.List.{find}
use Rattle.mrp_page.specs.declared.limits.TheConstants.{FEW_ROWS}
use Rattle.mrp_page.specs.ByWord.{by_word}
use Rattle.mrp_page.specs.Draw.{has_item, has_none, item_name_html, more_html}
use Rattle.mrp_page.specs.Escaped.{escaped}
use Rattle.mrp_page.specs.Folded.{Listing, folded_html}
use Rattle.mrp_page.specs.layout.Lists.{link_end, link_middle, row_open, section_end, table_end}
use Rattle.mrp_page.specs.layout.Refused.{entry_link_open, none_refused, refused_answer, refused_asked, refused_desk, refused_end, refused_front, refused_open}
use Rattle.mrp_page.specs.Row.{RowView, cell_at, is_of}
use Rattle.mrp_page.specs.Scene.{SceneView}
use Rattle.mrp_page.specs.Template.{dated_html, has_word, row_html}

-- the replies to calls that were not answered as they asked, in the order of the page
abbrev pub refusals : List (List ℕ)
refusals = codes "short" ∷ codes "not-standing" ∷ codes "not-yours" ∷ []

-- those calls
abbrev pub refused_rows : List RowView → List RowView
refused_rows history = by_word 7 refusals history

-- an entry is the booking of this number
abbrev pub is_booking : List ℕ → RowView → Bool
is_booking number row = is_of number row && has_word 2 (codes "book") row

-- what a call is about: the booking that a cancellation names, if the history has it, and else the call itself
unfoldable pub asked_of : List RowView → RowView → RowView
asked_of history call =
    if has_word 2 (codes "cancel") call then unwrap_or (find (is_booking (cell_at call 6)) history) call else call

-- a number that links to its entry on the same page
unfoldable pub entry_link_html : List ℕ → List ℕ
entry_link_html number =
    entry_link_open
    ++ (escaped number
    ++ (link_middle
    ++ (escaped number
    ++ link_end)))

-- the number of an entry, as a link if the entry is on the page
unfoldable pub entry_name_html : List RowView → List ℕ → List ℕ
entry_name_html history number =
    if has_item history number then entry_link_html number else escaped number

-- how a call was answered, with the entry that it names
unfoldable pub answer_html : List RowView → RowView → List ℕ
answer_html history call = row_html refused_answer call ++ entry_name_html history (cell_at call 6)

-- the desk of a call, and its entry
unfoldable pub caller_html : List RowView → RowView → List ℕ
caller_html history call = row_html refused_desk call ++ (entry_name_html history (cell_at call 0) ++ refused_end)

-- a call about an item, pieces and a week
unfoldable pub call_html : SceneView → RowView → RowView → List ℕ
call_html scene asked call =
    row_open
    ++ (item_name_html scene.shown (cell_at asked 3)
    ++ (answer_html scene.history call
    ++ (dated_html scene.tables refused_asked asked
    ++ caller_html scene.history call)))

-- a call: the item, pieces and week that it is about, and how it was answered
abbrev pub refused_html : SceneView → RowView → List ℕ
refused_html scene call = call_html scene (asked_of scene.history call) call

abbrev pub refused_listing : SceneView → Listing
refused_listing scene = record { line = refused_html scene; front = refused_front; back = table_end }

-- calls; if there are none, and the whole history was kept, that there are none
unfoldable pub refused_or_none : SceneView → ℕ → List RowView → List ℕ
refused_or_none scene missed rows =
    if has_none rows && (missed == 0) then none_refused else folded_html (refused_listing scene) FEW_ROWS rows

-- the calls that were not answered as they asked
unfoldable pub refused_lines : SceneView → ℕ → List ℕ
refused_lines scene missed = refused_or_none scene missed (refused_rows scene.history)

-- how many entries of the history were not kept
unfoldable pub refused_back : ℕ → List ℕ
refused_back missed =
    more_html missed (codes "entry of the history is") (codes "entries of the history are")
    ++ section_end

-- the section *Not promised*
unfoldable pub refused_section : SceneView → ℕ → List ℕ
refused_section scene missed =
    refused_open
    ++ (refused_lines scene missed
    ++ refused_back missed)
