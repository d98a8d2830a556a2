use Rattle.std.proofs.Common.{◌≡◌, ◌∙◌, ◌+◌, ◌++◌, ℕ, List, ap, length, refl}
use Rattle.mrp_rows.specs.FaultText.{table_name}
use Rattle.mrp_inspect.specs.Pieces.{content_of}
use Rattle.mrp_inspect.proofs.FileTexts.{below-line, content-is}
use Rattle.mrp_inspect.proofs.contents.next_content.Goals as goal

pub returns-clause-text : goal.returns-clause-text
returns-clause-text c =
    let (more, is) = c.requires in
    let bytes : List ℕ = c.args.bytes.now in
    let long : length c.name.result.now + 3 ≡ length (table_name c.args.table) + 3 = ap (λ (t : List ℕ). length t + 3) c.name.ensures in
    let below : c.split_at.result.1.now ≡ content_of bytes ++ more = c.split_at.ensures.back ∙ below-line c.args.bundle.now more c.args.table bytes (length c.name.result.now + 3) long is in
    c.split_at-2.ensures.front ∙ content-is c.split_at.result.1.now more bytes (length bytes + 1) refl below
