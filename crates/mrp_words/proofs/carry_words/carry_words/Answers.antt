use Rattle.std.proofs.Common.{◌∙◌, codes}
use Rattle.clap.specs.Matches.{found_of}
use Rattle.clap.proofs.WalkLemmas.{first_value-rows, one_text-rows}
use Rattle.mrp_words.proofs.carry_words.carry_words.Goals as goal

pub returns : goal.returns
returns c =
    let found = found_of c.args.found.now in
    record {
      of_folder = c.in_ok-folder.ensures ∙ first_value-rows found (codes "dir");
      from = c.in_ok-start.ensures ∙ first_value-rows found (codes "start");
      flagged = λ is. c.get_flag-numbers.ensures.value (one_text-rows found (codes "numbers") ∙ is);
      bare = λ is. c.get_flag-numbers.ensures.other (one_text-rows found (codes "numbers") ∙ is);
      absent = λ is. c.get_flag-numbers.ensures.none (one_text-rows found (codes "numbers") ∙ is);
    }
