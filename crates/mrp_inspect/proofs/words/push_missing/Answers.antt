use Rattle.std.proofs.Common.{◌≡◌, ◌∙◌, ◌+◌, ◌++◌, ℕ, List, [], Option, ap, get_or, refl, sym, take}
use Rattle.std.specs.Prelude.{filter_map}
use Rattle.std.specs.Option.{option_to_list}
use Rattle.std.proofs.lemmas.List.{take_all}
use Rattle.mrp_rows.specs.declared.fault.Table.{Table}
use Rattle.mrp_rows.specs.declared.fault.Table.TheVariants.{Calendar}
use Rattle.mrp_advice.specs.Listing.{Listed, listed_in, with_lines}
use Rattle.mrp_advice.proofs.Listings.{lines-both, no_lines}
use Rattle.mrp_words.specs.Folder.{all_tables}
use Rattle.mrp_inspect.specs.Words.{missing_of}
use Rattle.mrp_inspect.proofs.Growing.{filter-more}
use Rattle.mrp_inspect.proofs.words.push_missing.Goals as goal

pub loop-table-init : goal.loop-table-init
loop-table-init c = sym (no_lines (listed_in c.args.lines.now))

pub loop-table-preserved : goal.loop-table-preserved
loop-table-preserved c =
    let f : Table → Option (List ℕ) = missing_of c.args.firsts.now c.args.others.now in
    let old : Listed = listed_in c.args.lines.now in
    let k = c.loop-table.table-index in
    let so_far : List (List ℕ) = filter_map f (take k all_tables) in
    let here : List (List ℕ) = option_to_list (f (get_or all_tables k Calendar)) in
    let more : so_far ++ here ≡ filter_map f (take (k + 1) all_tables) = filter-more f all_tables k Calendar [] so_far _ c.loop-table-test.true refl refl in
    c.in_ok-push_some.ensures
    ∙ ap (λ (o : Option (List ℕ)). with_lines (listed_in c.loop-table.lines) (option_to_list o)) c.in_ok-missing.ensures
    ∙ ap (λ (l : Listed). with_lines l here) c.loop-table.invariant
    ∙ sym (lines-both old so_far here) ∙ ap (with_lines old) more

pub returns : goal.returns
returns c =
    c.loop-table.invariant ∙ ap (λ (ts : List Table). with_lines (listed_in c.args.lines.now) (filter_map (missing_of c.args.firsts.now c.args.others.now) ts)) (take_all c.loop-table.table-index all_tables c.loop-table-test.false)
