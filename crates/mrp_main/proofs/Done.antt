-- How an order desk is done that was asked for.
use Rattle.std.proofs.Common.{◌≡◌, ◌∙◌, ℕ, List, Option, Some, Result, Ok, String, ap, string_bytes, subst, sym}
use Rattle.std.specs.declared.alloc.Global.{Global}
use Rattle.mrp_rows.specs.declared.told.Told.{Told}
use Rattle.mrp_words.specs.Folder.{Known}
use Rattle.mrp_words.specs.declared.command.NoRequest.{NoRequest}
use Rattle.mrp_words.specs.declared.command.Request.{Request}
use Rattle.mrp_words.specs.declared.command.Request.TheVariants.{Desk}
use Rattle.mrp_commands.specs.declared.ending.Ending.{Ending}
use Rattle.mrp_open.specs.Ends.{DeskEnds}
use Rattle.mrp_open.specs.Opening.{Opening, unopened}
use Rattle.mrp_main.specs.Ends.{IsDoneAs}

-- an order desk that was asked for, on the folder that was named, is done as it ends
pub desk-done : {R W E : Type 0} (known : Known) (remaining : R → Option (List ℕ)) (contents : W → Option (List ℕ)) (heard : E → Option (List ℕ)) (input read : Told R) (output written : Told W) (errors told : Told E)
    (asked : Result Request NoRequest) (request : Request) (workers : ℕ) (named : Option (String Global)) (folder : String Global) (before opened : Opening) (bytes : List ℕ) (end : Ending)
    → asked ≡ Ok request → request ≡ Desk workers named → named ≡ Some folder → before ≡ unopened → bytes ≡ string_bytes folder
    → DeskEnds before opened known bytes remaining contents heard input read output written errors told end → IsDoneAs known remaining contents heard input read output written errors told asked end
desk-done known remaining contents heard input read output written errors told asked request workers named folder before opened bytes end is-asked is-desk is-named is-unopened is-bytes ends =
    subst (λ (a : Result Request NoRequest). IsDoneAs known remaining contents heard input read output written errors told a end) (sym (is-asked ∙ ap Ok (is-desk ∙ ap (Desk workers) is-named))) (
      opened,
      subst (λ (o : Opening). DeskEnds o opened known (string_bytes folder) remaining contents heard input read output written errors told end) is-unopened
          (subst (λ (b : List ℕ). DeskEnds before opened known b remaining contents heard input read output written errors told end) is-bytes ends),
    )
