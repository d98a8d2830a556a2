-- The markup that a page may have.
use Rattle.std.proofs.Common.{◌≡◌, ◌<◌, ℕ, List, ◌++◌, get_or, length}
use Rattle.std.proofs.lemmas.List.Elements.{All-contains_itself, Contains-append_left, Contains-append_right}
use Rattle.std.specs.List.{All, Contains, flat_map}
use Rattle.mrp_page.specs.Known.{layouts, marks_of, own_words, plain, tables_layouts, tables_plain}
use Rattle.mrp_page.specs.Template.{Drawn}
use Rattle.mrp_page.proofs.made.Rows.{contains-flat}

-- the markup of a part is the page's own
abbrev pub IsOwn : Drawn → Type 0
IsOwn part = All (Contains own_words) (marks_of part)

pub own-mark : (parts : List Drawn) (part : Drawn) (mark : List ℕ) → Contains layouts parts → Contains parts part → Contains (marks_of part) mark → Contains own_words mark
unfolding own_words
own-mark parts part mark laid has is =
    Contains-append_left (plain ++ flat_map (flat_map marks_of) layouts) (tables_plain ++ flat_map (flat_map marks_of) tables_layouts) mark
    (Contains-append_right plain (flat_map (flat_map marks_of) layouts) mark
    (contains-flat (flat_map marks_of) layouts parts mark laid.0 laid.1 laid.2 (contains-flat marks_of parts part mark has.0 has.1 has.2 is)))

-- so is that of what the tables add
pub own-table-mark : (parts : List Drawn) (part : Drawn) (mark : List ℕ) → Contains tables_layouts parts → Contains parts part → Contains (marks_of part) mark → Contains own_words mark
unfolding own_words
own-table-mark parts part mark laid has is =
    Contains-append_right (plain ++ flat_map (flat_map marks_of) layouts) (tables_plain ++ flat_map (flat_map marks_of) tables_layouts) mark
    (Contains-append_right tables_plain (flat_map (flat_map marks_of) tables_layouts) mark
    (contains-flat (flat_map marks_of) tables_layouts parts mark laid.0 laid.1 laid.2 (contains-flat marks_of parts part mark has.0 has.1 has.2 is)))

pub own-parts : (parts : List Drawn) → Contains layouts parts → All IsOwn parts
own-parts parts laid = λ k d within.
    let has : Contains parts (get_or parts k d) = All-contains_itself parts k d within in
    λ i m inside. own-mark parts (get_or parts k d) (get_or (marks_of (get_or parts k d)) i m) laid has (All-contains_itself (marks_of (get_or parts k d)) i m inside)

pub own-table-parts : (parts : List Drawn) → Contains tables_layouts parts → All IsOwn parts
own-table-parts parts laid = λ k d within.
    let has : Contains parts (get_or parts k d) = All-contains_itself parts k d within in
    λ i m inside. own-table-mark parts (get_or parts k d) (get_or (marks_of (get_or parts k d)) i m) laid has (All-contains_itself (marks_of (get_or parts k d)) i m inside)

pub own-plain : (m : List ℕ) (k : ℕ) → k < length plain → get_or plain k m ≡ m → Contains own_words m
unfolding own_words
own-plain m k within is =
    Contains-append_left (plain ++ flat_map (flat_map marks_of) layouts) (tables_plain ++ flat_map (flat_map marks_of) tables_layouts) m
    (Contains-append_left plain (flat_map (flat_map marks_of) layouts) m (k, within, is))

pub own-table : (m : List ℕ) (k : ℕ) → k < length tables_plain → get_or tables_plain k m ≡ m → Contains own_words m
unfolding own_words
own-table m k within is =
    Contains-append_right (plain ++ flat_map (flat_map marks_of) layouts) (tables_plain ++ flat_map (flat_map marks_of) tables_layouts) m
    (Contains-append_left tables_plain (flat_map (flat_map marks_of) tables_layouts) m (k, within, is))
