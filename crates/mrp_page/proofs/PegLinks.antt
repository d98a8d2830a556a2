-- Where pegs stand on a page, and where they lead.
use Rattle.std.proofs.Common.{◌≡◌, ℕ, true, false, Some, List, ◌∷◌, ◌++◌, codes, refl}
use Rattle.std.specs.Prelude.{◌&&◌}
use Rattle.std.specs.List.{filter, flat_map}
use Rattle.mrp_page.specs.Columns.{column}
use Rattle.mrp_page.specs.Draw.{has_item}
use Rattle.mrp_page.specs.Items.{need_html, peg_html, pegs_html, wait_html, waits_html}
use Rattle.mrp_page.specs.layout.Items.{peg_booking, peg_parent, pegs_open, waits_open}
use Rattle.mrp_page.specs.layout.Lists.{grid_end, link_end}
use Rattle.mrp_page.specs.Orders.{linked_html, numbered, order_link, order_words}
use Rattle.mrp_page.specs.Pegs.{waits_for}
use Rattle.mrp_page.specs.Refused.{entry_name_html}
use Rattle.mrp_page.specs.Row.{RowView, cell_at, same_text}
use Rattle.mrp_page.specs.Scene.{SceneView}
use Rattle.mrp_page.specs.Template.{has_word, row_html}
use Rattle.mrp_day.specs.declared.section.Section.TheVariants as s
use Rattle.mrp_page.proofs.Folds.{some-rows}

pub goes-are : (scene : SceneView) (pegs : List RowView) → pegs_html scene pegs ≡ pegs_open ++ (flat_map (peg_html scene) pegs ++ grid_end)
unfolding pegs_html
goes-are scene pegs = refl

pub up-is : (scene : SceneView) (peg : RowView) → cell_at peg (column s.Pegs (codes "need")) ≡ codes "parent"
    → need_html scene peg ≡ linked_html scene (numbered scene (cell_at peg (column s.Pegs (codes "parent"))) (cell_at peg (column s.Pegs (codes "number")))) (row_html peg_parent peg)
unfolding need_html
up-is scene peg is =
    let other : has_word 2 (codes "booking") peg ≡ false = rw is refl in
    let parent : has_word 2 (codes "parent") peg ≡ true = rw is refl in
    rw (other, parent) refl

pub booking-is : (scene : SceneView) (peg : RowView) → cell_at peg (column s.Pegs (codes "need")) ≡ codes "booking"
    → need_html scene peg ≡ codes "booking " ++ entry_name_html scene.history (cell_at peg (column s.Pegs (codes "number")))
unfolding need_html peg_booking
booking-is scene peg is =
    let booked : has_word 2 (codes "booking") peg ≡ true = rw is refl in
    rw booked refl

pub waits-are : (scene : SceneView) (name : List ℕ) → waits_for scene.pegs name
    ≡ filter (λ peg. same_text (cell_at peg (column s.Pegs (codes "parent"))) name && same_text (cell_at peg (column s.Pegs (codes "need"))) (codes "parent")) scene.pegs
waits-are scene name = refl

pub down-is : (scene : SceneView) (peg : RowView) (pegs : List RowView) → waits_html scene (peg ∷ pegs) ≡ waits_open ++ (flat_map (wait_html scene) (peg ∷ pegs) ++ grid_end)
unfolding waits_html
down-is scene peg pegs = rw (some-rows peg pegs) refl

pub linked-is : (scene : SceneView) (order : RowView) (words : List ℕ) → has_item scene.shown (cell_at order 0) ≡ true → linked_html scene (Some order) words ≡ order_link (cell_at order 1) (cell_at order 0) ++ (words ++ codes "</a>")
unfolding link_end order_words
linked-is scene order words has = rw has refl
