use Rattle.std.proofs.Common.{◌≡◌, ℕ, List, subst, rules}
use Rattle.mrp_report.specs.wave.Chunks.{rows_from}
use Rattle.mrp_report.specs.Written.{Writes}
use Rattle.mrp_report.proofs.lemmas.wave.PlacesWritten.{found-is}
use Rattle.mrp_report.proofs.wave.write_chunk.Goals as goal

pub returns-in-Some : goal.returns-in-Some
returns-in-Some g c =
    let chunks = c.args.chunks.now in
    let is : c.in-Some.page.now ≡ rows_from chunks c.args.from 1 = found-is (λ (text : List ℕ). text ≡ rows_from chunks c.args.from 1) c.page_of.result c.in-Some.page (c.page_of.ensures chunks c.requires.made) (search rules) in
    subst (λ (text : List ℕ). Writes g.W.Write.contents c.args.writer.now c.write.new.writer text c.args.tries.now c.write.new.tries c.write.result) is c.write.ensures
