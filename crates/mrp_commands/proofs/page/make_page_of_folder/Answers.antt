use Rattle.std.proofs.Common.{ℕ, List, Ok, Err, refl, subst}
use Rattle.mrp_commands.specs.PageEnds.{BundlePageEnds}
use Rattle.mrp_commands.proofs.page.make_page_of_folder.Goals as goal

pub returns-in-Ok : goal.returns-in-Ok
returns-in-Ok g c = record {
  bundle = Ok c.in-Ok.bundle.items;
  is_read = c.in-Ok.ensures;
  ends = subst
      (λ (bundle : List ℕ). BundlePageEnds c.args.words.now bundle g.R.Read.remaining g.W.Write.contents c.args.input.now c.make_page_of_bundle.new.input c.args.output.now c.make_page_of_bundle.new.output c.make_page_of_bundle.result)
      c.as_slice.ensures.value c.make_page_of_bundle.ensures;
}

pub returns-in-Err : goal.returns-in-Err
returns-in-Err g c = record { bundle = Err c.in-Err.fault; is_read = c.in-Err.ensures; ends = (c.of_read.ensures, refl, refl) }
