-- A folded list shows each of its rows once.
use Rattle.std.proofs.Common.{◌≡◌, ◌∙◌, ℕ, false, List, [], ◌∷◌, ◌++◌, codes, decimal, drop, length, take, refl, ap, ap₂, append_assoc, arith}
use Rattle.std.proofs.lemmas.Bool.{ne_eqb}
use Rattle.std.specs.List.{flat_map}
use Rattle.mrp_page.specs.Draw.{has_none}
use Rattle.mrp_page.specs.Escaped.{escaped}
use Rattle.mrp_page.specs.Folded.{Listing, folded_html, hidden_html, listed_html}
use Rattle.mrp_page.specs.Frame.{count_row}
use Rattle.mrp_page.specs.layout.Lists.{rest_end, rest_open}
use Rattle.mrp_page.specs.Row.{RowView}
use Rattle.mrp_page.specs.Template.{row_html}

pub some-rows : (r : RowView) (rows : List RowView) → has_none (r ∷ rows) ≡ false
some-rows r rows = ne_eqb (length (r ∷ rows)) 0 (λ e. omega arith)

listed-is : (listing : Listing) (rows : List RowView) → (front : List ℕ) × (back : List ℕ) × (listed_html listing rows ≡ front ++ (flat_map listing.line rows ++ back))
unfolding listed_html
listed-is listing [] = ([], [], refl)
listed-is listing (r ∷ rows) = (listing.front, listing.back, rw (some-rows r rows) refl)

placed : (h a f b z : List ℕ) → h ++ ((a ++ (f ++ b)) ++ z) ≡ (h ++ a) ++ (f ++ (b ++ z))
placed h a f b z = simp append_assoc

hidden-is : (listing : Listing) (rows : List RowView) → (front : List ℕ) × (back : List ℕ) × (hidden_html listing rows ≡ front ++ (flat_map listing.line rows ++ back))
unfolding hidden_html
hidden-is listing [] = ([], [], refl)
hidden-is listing (r ∷ rows) =
    let (front, back, is) = listed-is listing (r ∷ rows) in
    let head : List ℕ = row_html rest_open (count_row (length (r ∷ rows)) [] []) in (
      head ++ front,
      back ++ rest_end,
      rw (some-rows r rows) (ap (λ (t : List ℕ). head ++ (t ++ rest_end)) is ∙ placed head front (flat_map listing.line (r ∷ rows)) back rest_end),
    )

beside : (a f b c g d : List ℕ) → (a ++ (f ++ b)) ++ (c ++ (g ++ d)) ≡ a ++ (f ++ ((b ++ c) ++ (g ++ d)))
beside a f b c g d = simp append_assoc

pub folded-is : (listing : Listing) (most : ℕ) (rows : List RowView) → (front : List ℕ) × (between : List ℕ) × (back : List ℕ) × (folded_html listing most rows
    ≡ front ++ (flat_map listing.line (take most rows) ++ (between ++ (flat_map listing.line (drop most rows) ++ back))))
unfolding folded_html
folded-is listing most rows =
    let (a, b, first) = listed-is listing (take most rows) in
    let (c, d, rest) = hidden-is listing (drop most rows) in
    (a, b ++ c, d, ap₂ (λ (s t : List ℕ). s ++ t) first rest ∙ beside a (flat_map listing.line (take most rows)) b c (flat_map listing.line (drop most rows)) d)

pub counted-is : (listing : Listing) (r : RowView) (rows : List RowView) → hidden_html listing (r ∷ rows)
    ≡ codes "<details class=rest><summary>and " ++ (escaped (decimal (length (r ∷ rows))) ++ (codes " more</summary>\n" ++ (listed_html listing (r ∷ rows) ++ codes "</details>\n")))
unfolding hidden_html row_html rest_open rest_end
counted-is listing r rows =
    let n : List ℕ = escaped (decimal (length (r ∷ rows))) in
    rw (some-rows r rows) (ap (λ (t : List ℕ). codes "<details class=rest><summary>and " ++ t) (append_assoc n (codes " more</summary>\n" ++ []) (listed_html listing (r ∷ rows) ++ codes "</details>\n")))
