use Rattle.std.proofs.Common.{◌∙◌, ℕ, List, subst}
use Rattle.std.specs.Io.KnownBytes.{Appends}
use Rattle.mrp_rows.specs.Streams.{WritesFront}
use Rattle.mrp_rows.specs.Told.{inner_of}
use Rattle.mrp_page.proofs.write.write_page.Goals as goal

pub returns-clause-whole : goal.returns-clause-whole
returns-clause-whole g c text known =
    let (notes, risks, kept, fit, are, is) = c.in_ok-page.ensures.page text known in (
      notes,
      risks,
      kept,
      fit,
      are,
      subst (λ (t : List ℕ). Appends (g.W.Write.contents (inner_of c.args.writer.now)) (g.W.Write.contents (inner_of c.write_text.new.writer)) t) (c.as_bytes.ensures ∙ is) c.in_ok-write_text.ensures.whole,
    )

pub returns-in_err-write_text-clause-front : goal.returns-in_err-write_text-clause-front
returns-in_err-write_text-clause-front g c wrote text known =
    let (notes, risks, kept, fit, are, is) = c.in_ok-page.ensures.page text known in (
      notes,
      risks,
      kept,
      fit,
      are,
      subst (λ (t : List ℕ). WritesFront (g.W.Write.contents (inner_of c.args.writer.now)) (g.W.Write.contents (inner_of c.write_text.new.writer)) t) (c.as_bytes.ensures ∙ is) c.in_err-write_text.ensures.front,
    )
