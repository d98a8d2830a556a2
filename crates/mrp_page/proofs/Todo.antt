-- Each message of an item is said once, under its own word.
use Rattle.std.proofs.Common.{◌≡◌, ◌∙◌, ℕ, Bool, true, false, not, List, [], ◌∷◌, ◌++◌, Option, Some, None, codes, decimal, drop, refl, ap, subst, take}
use Rattle.std.specs.Prelude.{◌||◌, IsPermutation, if◌then◌else◌}
use Rattle.std.specs.List.{flat_map}
use Rattle.std.proofs.lemmas.List.Elements.{filter_agree}
use Rattle.mrp_page.specs.ByWord.{by_word, has_one_of}
use Rattle.mrp_page.specs.Columns.{column}
use Rattle.mrp_page.specs.Draw.{is_plain}
use Rattle.mrp_page.specs.Escaped.{escaped}
use Rattle.mrp_facts.specs.Facts.{Facts}
use Rattle.mrp_page.specs.ItemRows.{ItemLists}
use Rattle.mrp_page.specs.Kinds.{open_count, order_of}
use Rattle.mrp_page.specs.layout.Said.{said_back, said_front, said_other_back, said_other_front, said_pieces, said_receipt, said_start, said_week}
use Rattle.mrp_page.specs.layout.Todo.{task_supply}
use Rattle.mrp_page.specs.Orders.{linked_html}
use Rattle.mrp_page.specs.Receipts.{receipt_of, receipt_row}
use Rattle.mrp_page.specs.Row.{RowView, cell_at}
use Rattle.mrp_page.specs.Said.{back_of, by_urgency, front_of, is_release, item_messages, messages_at, pieces_row, said_html, said_known, said_listing, said_of_open, said_of_receipt, said_or_none, said_order, said_received, urgent_words}
use Rattle.mrp_page.specs.Scene.{SceneView}
use Rattle.mrp_page.specs.Template.{date_at, dated_html, has_word, row_html}
use Rattle.mrp_page.specs.Todo.{value_of_message, word_of}
use Rattle.mrp_page.specs.declared.limits.TheConstants.{FEW_ROWS}
use Rattle.mrp_tables.specs.declared.rows.Receipt.{Receipt}
use Rattle.mrp_day.specs.declared.section.Section.TheVariants as s
use Rattle.mrp_page.proofs.ByWord.{Differ, word-by-word}
use Rattle.mrp_page.proofs.Folds.{folded-is, some-rows}

urgent-differ : Differ urgent_words
urgent-differ = ((refl, (refl, (refl, (refl, tt)))), ((refl, (refl, (refl, tt))), ((refl, (refl, tt)), ((refl, tt), (tt, tt)))))

or-nil : (a : Bool) → (a || false) ≡ a
or-nil true = refl
or-nil false = refl

plain-any : (message : RowView) → has_one_of 3 urgent_words message ≡ is_plain message
plain-any message =
    ap (λ (b : Bool). has_word 3 (codes "PAST-DUE") message || (has_word 3 (codes "RELEASE") message || (has_word 3 (codes "IN") message || (has_word 3 (codes "OUT") message || b)))) (or-nil (has_word 3 (codes "CANCEL") message))

pub stand-once : (messages : List RowView) → IsPermutation messages (by_urgency messages)
unfolding by_urgency by_word
stand-once messages =
    subst (λ (t : List RowView). IsPermutation messages (by_word 3 urgent_words messages ++ t)) (filter_agree (λ message. not (has_one_of 3 urgent_words message)) (λ message. not (is_plain message)) (λ message. ap not (plain-any message)) messages)
    (word-by-word 3 urgent_words urgent-differ messages)

-- the sentences of an item's messages
pub item-sentences : (scene : SceneView) (rows : ItemLists) (leader r : RowView) (rest : List RowView) → messages_at rows leader ≡ r ∷ rest
    → (front : List ℕ) × (between : List ℕ) × (back : List ℕ) × (item_messages scene rows leader ≡ front ++ (flat_map (said_html scene) (take FEW_ROWS (r ∷ rest)) ++ (between ++ (flat_map (said_html scene) (drop FEW_ROWS (r ∷ rest)) ++ back))))
unfolding item_messages said_or_none
item-sentences scene rows leader r rest is =
    let (front, between, back, drawn) = folded-is (said_listing scene) FEW_ROWS (r ∷ rest) in
    (front, between, back, ap (said_or_none scene) is ∙ rw (some-rows r rest) drawn)

pub sentence-is : (scene : SceneView) (message : RowView) → said_html scene message
    ≡ row_html (front_of message) message ++ (linked_html scene (order_of scene message) (row_html task_supply message) ++ (said_known scene message (order_of scene message) ++ dated_html scene.tables (back_of message) message))
unfolding said_html
sentence-is scene message = refl

pub pieces-are : (pieces : List ℕ) → row_html said_pieces (pieces_row pieces) ≡ codes ", " ++ (escaped pieces ++ (escaped (cell_at (pieces_row pieces) 1) ++ []))
unfolding row_html said_pieces
pieces-are pieces = refl

pub released-is : (tables : Option Facts) (message order : RowView) → is_release message ≡ true → said_order tables message order
    ≡ row_html said_pieces (pieces_row (cell_at order (column s.Orders (codes "quantity")))) ++ (codes ", " ++ (escaped (cell_at order (column s.Orders (codes "start"))) ++ (codes " to start, due week " ++ (escaped (cell_at order (column s.Orders (codes "due"))) ++ (date_at tables (column s.Orders (codes "due")) order ++ [])))))
unfolding dated_html row_html said_order said_start said_pieces
released-is tables message order is = rw is refl

pub moved-is : (tables : Option Facts) (message order : RowView) → is_release message ≡ false → said_order tables message order
    ≡ row_html said_pieces (pieces_row (cell_at order (column s.Orders (codes "quantity")))) ++ (codes ", week " ++ (escaped (cell_at order (column s.Orders (codes "due"))) ++ (date_at tables (column s.Orders (codes "due")) order ++ [])))
unfolding dated_html row_html said_order said_week said_pieces
moved-is tables message order is = rw is refl

pub open-said : (scene : SceneView) (message : RowView) → scene.whole ≡ true → cell_at message (column s.Messages (codes "supply")) ≡ codes "open" → said_of_open scene message ≡ row_html said_pieces (pieces_row (decimal (open_count scene message)))
unfolding said_of_open
open-said scene message whole is =
    let opened : has_word 1 (codes "open") message ≡ true = rw is refl in
    rw (opened, whole) refl

pub received-said : (scene : SceneView) (message : RowView) (receipt : Receipt) → receipt_of scene.tables message ≡ Some receipt → said_known scene message None ≡ row_html said_pieces (pieces_row (decimal receipt.quantity)) ++ (codes ", week " ++ (escaped (decimal receipt.week) ++ (date_at scene.tables 1 (receipt_row receipt) ++ [])))
unfolding dated_html row_html said_received said_receipt said_pieces
received-said scene message receipt is = ap (said_of_receipt scene message) is

-- what a message begins and ends with, word by word
module _ (tables : Option Facts) (message : RowView) where
  plain-front : is_plain message ≡ true → row_html (front_of message) message ≡ row_html said_front message
  plain-front plain = ap (λ (b : Bool). row_html (if b then said_front else said_other_front) message) plain

  plain-back : is_plain message ≡ true → dated_html tables (back_of message) message ≡ dated_html tables said_back message
  plain-back plain = ap (λ (b : Bool). dated_html tables (if b then said_back else said_other_back) message) plain

  front-late : word_of message ≡ codes "PAST-DUE" → row_html said_front message ≡ codes "<li class=\"late\">Past due: "
  unfolding row_html said_front
  front-late e = rw e refl

  back-late : word_of message ≡ codes "PAST-DUE" → dated_html tables said_back message ≡ codes ", weeks late (shop days from version 2 on): " ++ (escaped (value_of_message message) ++ codes "</li>\n")
  unfolding dated_html said_back
  back-late e = rw e refl

  pub said-late : word_of message ≡ codes "PAST-DUE" → (row_html (front_of message) message ≡ codes "<li class=\"late\">Past due: ") × (dated_html tables (back_of message) message ≡ codes ", weeks late (shop days from version 2 on): " ++ (escaped (value_of_message message) ++ codes "</li>\n"))
  said-late e =
      let plain : is_plain message ≡ true = rw e refl in
      (plain-front plain ∙ front-late e, plain-back plain ∙ back-late e)

  front-release : word_of message ≡ codes "RELEASE" → row_html said_front message ≡ codes "<li class=\"release\">Release: "
  unfolding row_html said_front
  front-release e = rw e refl

  back-release : word_of message ≡ codes "RELEASE" → dated_html tables said_back message ≡ escaped (value_of_message message) ++ codes "</li>\n"
  unfolding dated_html said_back
  back-release e = rw e refl

  pub said-release : word_of message ≡ codes "RELEASE" → (row_html (front_of message) message ≡ codes "<li class=\"release\">Release: ") × (dated_html tables (back_of message) message ≡ escaped (value_of_message message) ++ codes "</li>\n")
  said-release e =
      let plain : is_plain message ≡ true = rw e refl in
      (plain-front plain ∙ front-release e, plain-back plain ∙ back-release e)

  front-in : word_of message ≡ codes "IN" → row_html said_front message ≡ codes "<li class=\"in\">Reschedule in: "
  unfolding row_html said_front
  front-in e = rw e refl

  back-in : word_of message ≡ codes "IN" → dated_html tables said_back message ≡ codes " to week " ++ (escaped (value_of_message message) ++ (date_at tables 4 message ++ codes "</li>\n"))
  unfolding dated_html said_back
  back-in e = rw e refl

  pub said-in : word_of message ≡ codes "IN" → (row_html (front_of message) message ≡ codes "<li class=\"in\">Reschedule in: ") × (dated_html tables (back_of message) message ≡ codes " to week " ++ (escaped (value_of_message message) ++ (date_at tables 4 message ++ codes "</li>\n")))
  said-in e =
      let plain : is_plain message ≡ true = rw e refl in
      (plain-front plain ∙ front-in e, plain-back plain ∙ back-in e)

  front-out : word_of message ≡ codes "OUT" → row_html said_front message ≡ codes "<li class=\"out\">Reschedule out: "
  unfolding row_html said_front
  front-out e = rw e refl

  back-out : word_of message ≡ codes "OUT" → dated_html tables said_back message ≡ codes " to week " ++ (escaped (value_of_message message) ++ (date_at tables 4 message ++ codes "</li>\n"))
  unfolding dated_html said_back
  back-out e = rw e refl

  pub said-out : word_of message ≡ codes "OUT" → (row_html (front_of message) message ≡ codes "<li class=\"out\">Reschedule out: ") × (dated_html tables (back_of message) message ≡ codes " to week " ++ (escaped (value_of_message message) ++ (date_at tables 4 message ++ codes "</li>\n")))
  said-out e =
      let plain : is_plain message ≡ true = rw e refl in
      (plain-front plain ∙ front-out e, plain-back plain ∙ back-out e)

  front-cancel : word_of message ≡ codes "CANCEL" → row_html said_front message ≡ codes "<li class=\"cancel\">Cancel: "
  unfolding row_html said_front
  front-cancel e = rw e refl

  back-cancel : word_of message ≡ codes "CANCEL" → dated_html tables said_back message ≡ escaped (value_of_message message) ++ codes "</li>\n"
  unfolding dated_html said_back
  back-cancel e = rw e refl

  pub said-cancel : word_of message ≡ codes "CANCEL" → (row_html (front_of message) message ≡ codes "<li class=\"cancel\">Cancel: ") × (dated_html tables (back_of message) message ≡ escaped (value_of_message message) ++ codes "</li>\n")
  said-cancel e =
      let plain : is_plain message ≡ true = rw e refl in
      (plain-front plain ∙ front-cancel e, plain-back plain ∙ back-cancel e)

  other-front : row_html said_other_front message ≡ codes "<li>" ++ (escaped (word_of message) ++ codes ": ")
  unfolding row_html said_other_front
  other-front = refl

  other-back : dated_html tables said_other_back message ≡ codes " " ++ (escaped (value_of_message message) ++ codes "</li>\n")
  unfolding dated_html said_other_back
  other-back = refl

  pub said-other : is_plain message ≡ false → (row_html (front_of message) message ≡ codes "<li>" ++ (escaped (word_of message) ++ codes ": ")) × (dated_html tables (back_of message) message ≡ codes " " ++ (escaped (value_of_message message) ++ codes "</li>\n"))
  said-other e = (
    ap (λ (b : Bool). row_html (if b then said_front else said_other_front) message) e ∙ other-front,
    ap (λ (b : Bool). dated_html tables (if b then said_back else said_other_back) message) e ∙ other-back,
  )
