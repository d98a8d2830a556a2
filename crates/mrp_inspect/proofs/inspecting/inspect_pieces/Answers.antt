use Rattle.std.proofs.Common.{ℕ, List, subst}
use Rattle.std.specs.Prelude.{flat_map, string_bytes}
use Rattle.std.proofs.lemmas.Result.{IfOk-weaker}
use Rattle.mrp_inspect.specs.Inspected.{Tells}
use Rattle.mrp_inspect.specs.Pieces.{FilePiece}
use Rattle.mrp_inspect.specs.Strays.{AreSources}
use Rattle.mrp_inspect.proofs.inspecting.inspect_pieces.Goals as goal

pub returns : goal.returns
returns g c =
    IfOk-weaker c.inspect_sources.result _ _
    (λ inspected tells. (
      c.sources_of-sources.result,
      subst (λ (ps : List FilePiece). AreSources ps c.sources_of-sources.result) c.requires.pieces c.sources_of-sources.ensures,
      subst (λ (b : List ℕ). Tells inspected.has_faults b c.args.found.now c.sources_of-sources.result (flat_map string_bytes inspected.texts.items)) c.requires.bundle tells,
    ))
    c.inspect_sources.ensures
