use Rattle.std.proofs.Common.{◌≡◌, ◌++◌, ◌∷◌, ◌∙◌, [], arith, length, refl}
use Rattle.std.proofs.lemmas.List.{drop_all, map-append}
use Rattle.mrp_rows.specs.CellTexts.{bytes_at}
use Rattle.mrp_rows.proofs.HeldCells.{at-end, within-next}
use Rattle.mrp_rows.proofs.cell_texts.CellTexts.close.Goals as goal

pub returns : goal.returns
returns c =
    let places = c.self.inside.places.items in
    let bytes = c.self.inside.bytes.items in
    let start = c.self.inside.begun in
    let size : c.len-end.result ≡ length bytes = c.len-end.ensures ∙ c.self.inside.bytes.ok.0 in
    let e : c.push.new.self.items ≡ places ++ ((start, length bytes) ∷ []) = rw size at c.in_ok-push.ensures.items in
    let none = drop_all (length bytes) bytes (omega arith) in
    rw (← c.self.view_is, e, size, map-append (bytes_at bytes) places ((start, length bytes) ∷ []), at-end bytes start, none) refl

pub invariant_of-self-2 : goal.invariant_of-self-2
invariant_of-self-2 c =
    let places = c.self.inside.places.items in
    let bytes = c.self.inside.bytes.items in
    let start = c.self.inside.begun in
    let size : c.len-end.result ≡ length bytes = c.len-end.ensures ∙ c.self.inside.bytes.ok.0 in
    let e : c.push.new.self.items ≡ places ++ ((start, length bytes) ∷ []) = rw size at c.in_ok-push.ensures.items in
    rw (e, size) (record {
      within = within-next (length bytes) places (start, length bytes) c.self.invariant.within (record { ordered = c.self.invariant.start; inside = omega arith });
      start = omega arith;
    })
