use Rattle.std.proofs.Common.{◌≡◌, ◌∙◌, ℕ, List, Bor, ap, map}
use Rattle.std.proofs.lemmas.Result.{on_ok_weaker}
use Rattle.std.specs.Prelude.{option_map, string_bytes}
use Rattle.std.specs.Io.KnownBytes.{Appends}
use Rattle.std.specs.Option.{option_copied}
use Rattle.mrp_rows.specs.Streams.{WritesFront}
use Rattle.mrp_rows.specs.Told.{inner_of}
use Rattle.mrp_commands.specs.PageEnds.{names_in, title_of}
use Rattle.mrp_commands.proofs.PageEnds.{both-ok, page-by}
use Rattle.mrp_commands.proofs.page.write_asked.Goals as goal

abbrev texts_of : List (Bor (List ℕ)) → List (List ℕ)
texts_of names = map (λ name. name.now) names

pub returns-clause-whole : goal.returns-clause-whole
returns-clause-whole g c =
    let titled : c.as_bytes.result.now ≡ title_of (option_map string_bytes c.args.words.now.title) = c.as_bytes.ensures.value ∙ c.title_of.ensures in
    let asked : texts_of c.as_slice.result.now ≡ names_in (option_map string_bytes c.args.words.now.items) = ap texts_of c.as_slice.ensures.value ∙ c.in_ok-slices.ensures ∙ c.in_ok-names.ensures in
    on_ok_weaker c.write_page.result
    (λ page text known. page-by c.args.words.now (option_copied c.args.tables) c.as_slice.result.now c.as_bytes.result.now text
    (λ whole. Appends (g.W.Write.contents (inner_of c.args.output.now)) (g.W.Write.contents (inner_of c.write_page.new.writer)) whole) titled asked (page text known))
    c.write_page.ensures.whole

pub returns-clause-run : goal.returns-clause-run
returns-clause-run g c lacks text known =
    let asked : texts_of c.as_slice.result.now ≡ names_in (option_map string_bytes c.args.words.now.items) = ap texts_of c.as_slice.ensures.value ∙ c.in_ok-slices.ensures ∙ c.in_ok-names.ensures in
    (c.as_slice.result.now, asked, c.write_page.ensures.run lacks text known)

pub returns-clause-tables : goal.returns-clause-tables
returns-clause-tables g c other text known =
    let asked : texts_of c.as_slice.result.now ≡ names_in (option_map string_bytes c.args.words.now.items) = ap texts_of c.as_slice.ensures.value ∙ c.in_ok-slices.ensures ∙ c.in_ok-names.ensures in
    (c.as_slice.result.now, asked, c.write_page.ensures.tables other text known)

pub returns-clause-front : goal.returns-clause-front
returns-clause-front g c wrote text known =
    let titled : c.as_bytes.result.now ≡ title_of (option_map string_bytes c.args.words.now.title) = c.as_bytes.ensures.value ∙ c.title_of.ensures in
    let asked : texts_of c.as_slice.result.now ≡ names_in (option_map string_bytes c.args.words.now.items) = ap texts_of c.as_slice.ensures.value ∙ c.in_ok-slices.ensures ∙ c.in_ok-names.ensures in
    page-by c.args.words.now (option_copied c.args.tables) c.as_slice.result.now c.as_bytes.result.now text
    (λ whole. WritesFront (g.W.Write.contents (inner_of c.args.output.now)) (g.W.Write.contents (inner_of c.write_page.new.writer)) whole) titled asked (c.write_page.ensures.front wrote text known)

pub returns-clause-gone_on : goal.returns-clause-gone_on
returns-clause-gone_on g c = both-ok c.write_page.result _ _ c.write_page.ensures.unfailed c.write_page.ensures.interrupted
