use Rattle.std.proofs.Common.{◌∙◌, codes}
use Rattle.std.specs.Str.Parse.{ExplainsUnsignedError, HasUnsignedDigitsIfOk, ParsesUnsigned}
use Rattle.clap.specs.Matches.{found_of}
use Rattle.clap.specs.Walk.{rows_of}
use Rattle.clap.proofs.WalkLemmas.{first_value-rows, one_text-rows}
use Rattle.mrp_words.proofs.AskedPage.{run-of}
use Rattle.mrp_words.proofs.page_words.page_words.Goals as goal

pub returns : goal.returns
returns c =
    let found = found_of c.args.found.now in
    record {
      named = λ number p. run-of (λ t r. ParsesUnsigned 64 10 t r × ExplainsUnsignedError 10 t r × HasUnsignedDigitsIfOk t r) (rows_of found) number p c.get_one-run.result (λ t r g. g.0)
          (c.get_one-run.ensures.value p.text (one_text-rows found (codes "run") ∙ p.given));
      last = λ none. c.get_one-run.ensures.none (one_text-rows found (codes "run") ∙ none);
      of_items = c.in_ok-items.ensures ∙ first_value-rows found (codes "items");
      titled = c.in_ok-title.ensures ∙ first_value-rows found (codes "title");
      of_tables = c.in_ok-folder.ensures ∙ first_value-rows found (codes "dir");
    }
