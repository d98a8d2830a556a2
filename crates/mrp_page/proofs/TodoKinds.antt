-- Each message is in *To do* once, in the fold of its kind, with its order.
use Rattle.mrp_facts.specs.Facts.{Facts, open_order}
use Rattle.mrp_tables.specs.declared.rows.Receipt.{Receipt}
use Rattle.mrp_page.specs.Centres.{load_section}
use Rattle.mrp_page.specs.Receipts.{receipt_of, receipt_row}
use Rattle.std.proofs.Common.{◌≡◌, ◌∙◌, ◌<◌, ◌≤◌, ℕ, true, Option, Some, List, [], ◌∷◌, ◌++◌, codes, decimal, drop, get_or, length, take, arith, refl, sym, ap, append_assoc, None}
use Rattle.std.specs.Prelude.{◌&&◌, IsPermutation}
use Rattle.std.specs.List.{flat_map}
use Rattle.std.proofs.lemmas.List.{append-nil}
use Rattle.std.proofs.lemmas.List.Sorted.{IsPermutation-append, IsPermutation-append_left, IsPermutation-append_right, IsPermutation-trans}
use Rattle.mrp_page.specs.Columns.{column}
use Rattle.mrp_page.specs.Draw.{item_name_html, more_html}
use Rattle.mrp_page.specs.ItemRows.{ItemLists, item_lists}
use Rattle.mrp_page.specs.Folded.{capped_html}
use Rattle.mrp_page.specs.Frame.{count_row}
use Rattle.mrp_page.specs.Kinds.{Kind, cancel, earlier, falling_rank, kind_html, kind_listing, kind_part, kinds, kinds_html, late, later, messages_of, note_html, open_count, open_html, order_html, order_of, other_messages, other_part, release, task_line, todo_back, todo_html, value_rank, received_html}
use Rattle.mrp_page.specs.layout.Lists.{rest_end, row_open, section_end}
use Rattle.mrp_page.specs.layout.Todo.{cancel_open, in_open, late_open, open_pieces, open_receipt, order_start, order_week, out_open, release_open, task_middle, task_supply, todo_open}
use Rattle.mrp_page.specs.Notes.{Noted}
use Rattle.mrp_page.specs.AtRisk.{RisksView}
use Rattle.mrp_page.specs.Promises.{risks_html}
use Rattle.mrp_page.specs.Page.{glance_html, page_html, page_of, rest_html, scene_in, shown_items, top_html}
use Rattle.mrp_page.specs.Html.{number_html}
use Rattle.mrp_page.specs.Orders.{is_order, linked_html, ordered}
use Rattle.mrp_page.specs.Refused.{refused_section}
use Rattle.mrp_page.specs.Row.{RowView, cell_at, same_text}
use Rattle.mrp_page.specs.Rows.{rows_in}
use Rattle.mrp_page.specs.Escaped.{escaped}
use Rattle.mrp_page.specs.Scene.{SceneView}
use Rattle.mrp_page.specs.Summary.{summary_html}
use Rattle.mrp_page.specs.Template.{dated_html, has_word, markup_if, number_at, row_html, week_at}
use Rattle.mrp_page.specs.Said.{by_urgency}
use Rattle.mrp_day.specs.declared.section.Section.TheVariants as s
use Rattle.mrp_page.specs.declared.limits.TheConstants.{MOST_LINES, SOME_ROWS}
use Rattle.mrp_page.proofs.Todo.{stand-once}
use Rattle.std.specs.List.Sorted.{IsNonDecreasingBy}
use Rattle.mrp_page.specs.ByWord.{by_word, with_word}
use Rattle.mrp_page.specs.Sorted.{sorted_by}
use Rattle.mrp_page.proofs.ByKey.{rank-most, sorted-non-decreasing, sorted-permutes}
use Rattle.mrp_page.proofs.Folds.{folded-is, some-rows}

-- the messages of each kind, and those of none, are all of them
pub kinds-once : (messages : List RowView) → IsPermutation messages (flat_map (messages_of messages) kinds ++ other_messages messages)
unfolding by_urgency by_word
kinds-once messages =
    let of : List ℕ → List RowView = λ word. with_word 3 messages word in
    let a : List RowView = of (codes "PAST-DUE") in
    let b : List RowView = of (codes "RELEASE") in
    let c : List RowView = of (codes "IN") in
    let d : List RowView = of (codes "OUT") in
    let e : List RowView = of (codes "CANCEL") in
    let o : List RowView = other_messages messages in
    IsPermutation-trans messages ((a ++ (b ++ (c ++ (d ++ (e ++ []))))) ++ o) ((sorted_by falling_rank a ++ (b ++ (sorted_by value_rank c ++ (d ++ (e ++ []))))) ++ o) (stand-once messages)
    (IsPermutation-append_left o (a ++ (b ++ (c ++ (d ++ (e ++ []))))) (sorted_by falling_rank a ++ (b ++ (sorted_by value_rank c ++ (d ++ (e ++ [])))))
    (IsPermutation-append a (sorted_by falling_rank a) (b ++ (c ++ (d ++ (e ++ [])))) (b ++ (sorted_by value_rank c ++ (d ++ (e ++ [])))) (sorted-permutes falling_rank a)
    (IsPermutation-append_right b (c ++ (d ++ (e ++ []))) (sorted_by value_rank c ++ (d ++ (e ++ [])))
    (IsPermutation-append_left (d ++ (e ++ [])) c (sorted_by value_rank c) (sorted-permutes value_rank c)))))

-- the messages of a kind whose order is by their values
pub late-falls : (messages : List RowView) (i j : ℕ) (m : RowView) → i ≤ j → j < length (messages_of messages late) → value_rank (get_or (messages_of messages late) j m) ≤ value_rank (get_or (messages_of messages late) i m)
late-falls messages i j m less within =
    let rows : List RowView = messages_of messages late in
    omega (arith, sorted-non-decreasing falling_rank (with_word 3 messages (codes "PAST-DUE")) i j m less within, rank-most (cell_at (get_or rows j m) 4))

pub in-rises : (messages : List RowView) → IsNonDecreasingBy value_rank (messages_of messages earlier)
in-rises messages = sorted-non-decreasing value_rank (with_word 3 messages (codes "IN"))

placed : (t u g c x o n k m r : List ℕ) → t ++ (u ++ (g ++ (c ++ (x ++ ((o ++ (n ++ (k ++ m))) ++ r))))) ≡ (t ++ (u ++ (g ++ (c ++ (x ++ (o ++ n)))))) ++ (k ++ (m ++ r))
placed t u g c x o n k m r = simp append_assoc

pub page-kinds : (title : List ℕ) (tables : Option Facts) (notes : Noted) (risks : RisksView) → (front : List ℕ) × (back : List ℕ) × (page_html title tables notes risks ≡ front ++ (kinds_html (scene_in tables notes) (rows_in s.Messages notes.report) ++ back))
unfolding page_html page_of todo_html todo_back
page-kinds title tables notes risks =
    let lists : ItemLists = item_lists notes.report in
    let messages : List RowView = rows_in s.Messages notes.report in
    let top : List ℕ = top_html title tables notes.report notes.counts.items (length (shown_items (item_lists notes.report))) in
    let sums : List ℕ = summary_html notes.history (rows_in s.Messages notes.report) (rows_in s.Loads notes.report) risks in
    let calls : List ℕ = refused_section (scene_in tables notes) notes.counts.history in
    let promises : List ℕ = risks_html (scene_in tables notes) risks in
    let note : List ℕ = note_html messages notes.counts.messages in
    let last : List ℕ = more_html notes.counts.messages (codes "message, perhaps an urgent one, is") (codes "messages, urgent ones perhaps among them, are") ++ section_end in
    let seen : List ℕ = glance_html (scene_in tables notes) notes.report notes.counts.plan in
    let rest : List ℕ = load_section (scene_in tables notes) (rows_in s.Loads notes.report) notes.counts.loads ++ rest_html (scene_in tables notes) lists notes.counts in
    (top ++ (sums ++ (seen ++ (calls ++ (promises ++ (todo_open ++ note))))), last ++ rest, placed top sums seen calls promises todo_open note (kinds_html (scene_in tables notes) messages) last rest)

pub kinds-are : (scene : SceneView) (messages : List RowView) → kinds_html scene messages ≡ flat_map (kind_part scene messages) kinds ++ other_part scene messages
unfolding kinds_html
kinds-are scene messages = sym (simp (append_assoc, append-nil))

-- the messages of a kind, one by one
pub kind-lines : (kind : Kind) (scene : SceneView) (state : List ℕ) (r : RowView) (rows : List RowView) → (front : List ℕ) × (between : List ℕ) × (back : List ℕ) × (kind_html kind scene state (r ∷ rows)
    ≡ row_html kind.head (count_row (length (r ∷ rows)) state state) ++ (front ++ (flat_map (task_line kind scene) (take SOME_ROWS (take MOST_LINES (r ∷ rows))) ++ (between ++ (flat_map (task_line kind scene) (drop SOME_ROWS (take MOST_LINES (r ∷ rows))) ++ back)))))
unfolding kind_html capped_html
kind-lines kind scene state r rows =
    let kept : List RowView = take MOST_LINES (r ∷ rows) in
    let line : RowView → List ℕ = task_line kind scene in
    let head : List ℕ = row_html kind.head (count_row (length (r ∷ rows)) state state) in
    let past : List ℕ = more_html (length (drop MOST_LINES (r ∷ rows))) (codes "is") (codes "are") in
    let (front, between, back, is) = folded-is (kind_listing kind scene) SOME_ROWS kept in (
      front,
      between,
      back ++ (past ++ rest_end),
      rw (some-rows r rows) (ap (λ (t : List ℕ). head ++ ((t ++ past) ++ rest_end)) is ∙ ending head front (flat_map line (take SOME_ROWS kept)) between (flat_map line (drop SOME_ROWS kept)) back past rest_end),
    )
  where
    ending : (h f l b n e p z : List ℕ) → h ++ (((f ++ (l ++ (b ++ (n ++ e)))) ++ p) ++ z) ≡ h ++ (f ++ (l ++ (b ++ (n ++ (e ++ (p ++ z))))))
    ending h f l b n e p z = simp append_assoc

-- the order that a message is about
pub order-is : (kind : Kind) (scene : SceneView) (message order : RowView) → order_of scene message ≡ Some order
    → task_line kind scene message ≡ row_open ++ (item_name_html scene.shown (cell_at message 0) ++ (task_middle ++ (linked_html scene (Some order) (row_html task_supply message) ++ (codes "</td>" ++ (dated_html scene.tables kind.order order ++ dated_html scene.tables kind.value message)))))
unfolding task_line
order-is kind scene message order found =
    ap (λ (o : Option RowView). row_open ++ (item_name_html scene.shown (cell_at message 0) ++ (task_middle ++ (linked_html scene o (row_html task_supply message) ++ (codes "</td>" ++ (order_html kind scene message o ++ dated_html scene.tables kind.value message)))))) found

pub order-of-is : (scene : SceneView) (message : RowView) → order_of scene message
    ≡ ordered scene (cell_at message (column s.Messages (codes "item"))) (cell_at message (column s.Messages (codes "supply"))) (cell_at message (column s.Messages (codes "source")))
order-of-is scene message = refl

pub is-order-is : (name kind number : List ℕ) (order : RowView) → is_order name kind number order
    ≡ (same_text (cell_at order (column s.Orders (codes "item"))) name && (same_text (cell_at order (column s.Orders (codes "order"))) number && same_text (cell_at order (column s.Orders (codes "kind"))) kind))
is-order-is name kind number order = refl

-- the pieces of an open order are those of its pegs
pub open-is : (scene : SceneView) (message : RowView) → receipt_of scene.tables message ≡ None → scene.whole ≡ true → cell_at message (column s.Messages (codes "supply")) ≡ codes "open" → open_html scene message ≡ number_html (decimal (open_count scene message)) ++ (codes "<td></td><td></td>" ++ [])
unfolding row_html open_pieces
open-is scene message none whole is =
    let opened : has_word 1 (codes "open") message ≡ true = rw is refl in
    ap (received_html scene message) none ∙ rw (opened, whole) refl

-- or of its receipt
pub received-is : (scene : SceneView) (message : RowView) (receipt : Receipt) → receipt_of scene.tables message ≡ Some receipt
    → open_html scene message ≡ number_html (decimal receipt.quantity) ++ (codes "<td></td>" ++ (week_at scene.tables 1 (receipt_row receipt) ++ []))
unfolding dated_html open_receipt
received-is scene message receipt is = ap (received_html scene message) is

pub receipt-is : (facts : Facts) (message : RowView) → cell_at message (column s.Messages (codes "supply")) ≡ codes "open"
    → receipt_of (Some facts) message ≡ open_order facts.tables (cell_at message (column s.Messages (codes "item"))) (cell_at message (column s.Messages (codes "source")))
receipt-is facts message is =
    let opened : has_word 1 (codes "open") message ≡ true = rw is refl in
    rw opened refl

pub start-is : (tables : Option Facts) (order : RowView) → dated_html tables order_start order ≡ number_at (column s.Orders (codes "quantity")) order ++ (number_at (column s.Orders (codes "start")) order ++ (week_at tables (column s.Orders (codes "due")) order ++ []))
unfolding dated_html order_start
start-is tables order = refl

pub week-is : (tables : Option Facts) (order : RowView) → dated_html tables order_week order ≡ number_at (column s.Orders (codes "quantity")) order ++ (codes "<td></td>" ++ (week_at tables (column s.Orders (codes "due")) order ++ []))
unfolding dated_html order_week
week-is tables order = refl

-- the head of each kind, with how many messages it has
module _ (n : ℕ) (state : List ℕ) where
  pub head-late : row_html late.head (count_row n state state) ≡ codes "<details class=\"kind late\" id=late open><summary><b>Past due: " ++ (escaped (decimal n) ++ (codes "</b> <small>release now and expedite; from version 2 on, late by shop days</small></summary>\n" ++ []))
  unfolding row_html late_open
  head-late = refl

  pub head-release : row_html release.head (count_row n state state) ≡ codes "<details class=\"kind release\" id=release open><summary><b>Release: " ++ (escaped (decimal n) ++ (codes "</b> <small>release this week</small></summary>\n" ++ []))
  unfolding row_html release_open
  head-release = refl

  pub head-in : (front : List ℕ) × (row_html earlier.head (count_row n state state) ≡ front ++ (codes "><summary><b>Reschedule in: " ++ (escaped (decimal n) ++ (codes "</b> <small>needed before its week</small></summary>\n" ++ []))))
  unfolding row_html in_open
  head-in = (codes "<details class=\"kind in\" id=in" ++ markup_if (has_word 1 (codes "open") (count_row n state state)) (codes " open"), sym (append_assoc (codes "<details class=\"kind in\" id=in") (markup_if (has_word 1 (codes "open") (count_row n state state)) (codes " open")) (codes "><summary><b>Reschedule in: " ++ (escaped (decimal n) ++ (codes "</b> <small>needed before its week</small></summary>\n" ++ [])))))

  pub head-out : (front : List ℕ) × (row_html later.head (count_row n state state) ≡ front ++ (codes "><summary><b>Reschedule out: " ++ (escaped (decimal n) ++ (codes "</b> <small>needed only after its week</small></summary>\n" ++ []))))
  unfolding row_html out_open
  head-out = (codes "<details class=\"kind out\" id=out" ++ markup_if (has_word 1 (codes "open") (count_row n state state)) (codes " open"), sym (append_assoc (codes "<details class=\"kind out\" id=out") (markup_if (has_word 1 (codes "open") (count_row n state state)) (codes " open")) (codes "><summary><b>Reschedule out: " ++ (escaped (decimal n) ++ (codes "</b> <small>needed only after its week</small></summary>\n" ++ [])))))

  pub head-cancel : (front : List ℕ) × (row_html cancel.head (count_row n state state) ≡ front ++ (codes "><summary><b>Cancel: " ++ (escaped (decimal n) ++ (codes "</b> <small>not needed within these weeks</small></summary>\n" ++ []))))
  unfolding row_html cancel_open
  head-cancel = (codes "<details class=\"kind cancel\" id=cancel" ++ markup_if (has_word 1 (codes "open") (count_row n state state)) (codes " open"), sym (append_assoc (codes "<details class=\"kind cancel\" id=cancel") (markup_if (has_word 1 (codes "open") (count_row n state state)) (codes " open")) (codes "><summary><b>Cancel: " ++ (escaped (decimal n) ++ (codes "</b> <small>not needed within these weeks</small></summary>\n" ++ [])))))
