-- A report's text, section by section, and a section's, item by item or work centre by work centre.
use Rattle.std.proofs.Common.{◌≡◌, ◌∙◌, List, [], ◌∷◌, ◌++◌, ℕ, length, sym, ap}
use Rattle.std.proofs.lemmas.List.{append-nil, flat_map_more}
use Rattle.std.specs.List.{flat_map}
use Rattle.mrp_item.specs.Inputs.{Inputs}
use Rattle.mrp_report.specs.ReportText.{loads_text, messages_text, orders_text, pegs_text, plan_text, promises_text, report_text}
use Rattle.mrp_report.specs.section.RunText.{run_text}
use Rattle.mrp_report.specs.section.Sections.{section_text}
use Rattle.mrp_report.specs.declared.section.Section.{Section}
use Rattle.mrp_report.specs.declared.section.Section.TheVariants as section

-- these sections, in the order in which they are written
abbrev pub in_order : List Section
in_order = section.Promises ∷ section.Plan ∷ section.Orders ∷ section.Pegs ∷ section.Messages ∷ section.Loads ∷ []

-- a text with one more section after it
next : (text start : List ℕ) (f : Section → List ℕ) (xs : List Section) (x : Section) → text ≡ start ++ flat_map f xs → text ++ f x ≡ start ++ flat_map f (xs ++ x ∷ [])
next text start f xs x is = ap (λ (t : List ℕ). t ++ f x) is ∙ flat_map_more f start xs x

-- the report is the section `run`, and then these
pub report-is : (s : Inputs) → report_text s ≡ run_text s.front (length s.standing) ++ flat_map (section_text s) in_order
unfolding report_text promises_text plan_text orders_text pegs_text messages_text loads_text
report-is s =
    let run : List ℕ = run_text s.front (length s.standing) in
    let f : Section → List ℕ = section_text s in
    let one = next run run f [] section.Promises (sym (append-nil run)) in
    let two = next (run ++ f section.Promises) run f (section.Promises ∷ []) section.Plan one in
    let three = next (run ++ f section.Promises ++ f section.Plan) run f (section.Promises ∷ section.Plan ∷ []) section.Orders two in
    let four = next (run ++ f section.Promises ++ f section.Plan ++ f section.Orders) run f (section.Promises ∷ section.Plan ∷ section.Orders ∷ []) section.Pegs three in
    let five = next (run ++ f section.Promises ++ f section.Plan ++ f section.Orders ++ f section.Pegs) run f (section.Promises ∷ section.Plan ∷ section.Orders ∷ section.Pegs ∷ []) section.Messages four in
    next (run ++ f section.Promises ++ f section.Plan ++ f section.Orders ++ f section.Pegs ++ f section.Messages) run f
    (section.Promises ∷ section.Plan ∷ section.Orders ∷ section.Pegs ∷ section.Messages ∷ []) section.Loads five
