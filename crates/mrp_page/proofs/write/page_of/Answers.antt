use Rattle.std.proofs.Common.{◌∙◌, ◌++◌, ℕ, List, ap, rules, sym}
use Rattle.std.specs.Option.{option_copied}
use Rattle.mrp_page.specs.Page.{page_html}
use Rattle.mrp_page.proofs.write.page_of.Goals as goal

pub returns-then-fits-clause-page : goal.returns-then-fits-clause-page
returns-then-fits-clause-page g c text known =
    let (risks, are, drawn) = c.in_ok-put_page.ensures in (
      c.in_ok-notes.notes,
      risks,
      c.in_ok-notes.ensures.kept text known,
      sym c.fits.ensures ∙ c.if-fits.true,
      are,
      drawn ∙ ap (λ (t : List ℕ). t ++ page_html c.args.options.now.title.now (option_copied c.args.options.now.tables) c.in_ok-notes.notes risks) c.new-page.ensures,
    )

pub returns-in_err-notes-clause-tables : goal.returns-in_err-notes-clause-tables
returns-in_err-notes-clause-tables g c other text known = absurd (c.in_err-notes.ensures.tables (search rules))
