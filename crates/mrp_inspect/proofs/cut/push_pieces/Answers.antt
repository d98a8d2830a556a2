use Rattle.std.proofs.Common.{arith, ◌≡◌, ◌≢◌, ◌<◌, ◌-◌, ◌∙◌, ℕ, List, [], ◌∷◌, ap, sym, get_or, length, add-zero}
use Rattle.std.proofs.lemmas.Bool.{eqb-true, eqb-false}
use Rattle.std.proofs.lemmas.List.{nil_from_length, get_or-drop, length-drop, length-take-le}
use Rattle.mrp_rows.specs.Bundle.{Section, sections_in}
use Rattle.mrp_rows.proofs.SplitPlaces.{first-section}
use Rattle.mrp_inspect.proofs.Cutting.{piece-end, piece-next}
use Rattle.mrp_inspect.proofs.cut.push_pieces.Goals as goal

pub loop-rest-preserved : goal.loop-rest-preserved
loop-rest-preserved c =
    let rest = c.loop-rest.rest.now in
    let ne : length rest ≢ 0 = eqb-false _ _ (sym c.is_empty.ensures ∙ c.loop-rest-test.true) in
    let some : 0 < length rest = omega arith in
    let n = c.line_len.result in
    let line : List ℕ = c.split_at.result.0.now in
    let after = c.split_at.result.1.now in
    let text : List ℕ = c.split_at-in-loop-rest.result.0.now in
    let next = c.split_at-in-loop-rest.result.1.now in
    let m = c.before_section.result in
    let front = c.before_section.ensures.before ∙ sym c.split_at-in-loop-rest.ensures.front in
    let more = c.before_section.ensures.sections ∙ ap (λ t. (sections_in t).1) (sym c.split_at-in-loop-rest.ensures.back) in
    let first = first-section rest after next text n (c.loop-rest.invariant.front some) c.line_len.ensures.some c.line_len.ensures.line c.split_at.ensures.back front more in
    let with : List ℕ → List Section = λ l. record { line = l; text = text } ∷ (sections_in next).1 in
    let is : (sections_in rest).1 ≡ with line = first ∙ ap with (sym c.split_at.ensures.front) in
    let long_line : length line ≡ n = ap (length {A = ℕ}) c.split_at.ensures.front ∙ length-take-le n rest c.line_len.ensures.within in
    let long_after : length after ≡ length rest - n = ap (length {A = ℕ}) c.split_at.ensures.back ∙ length-drop n rest in
    let long_text : length text ≡ m = ap (length {A = ℕ}) c.split_at-in-loop-rest.ensures.front ∙ length-take-le m after c.before_section.ensures.within in
    let long_next : length next ≡ length after - m = ap (length {A = ℕ}) c.split_at-in-loop-rest.ensures.back ∙ length-drop m after in
    record {
      pieces = piece-next c.args.file c.loop-rest.here c.in_ok-here.here (sections_in rest).1 (sections_in next).1 line text c.loop-rest.pieces.items _ _ is c.in_ok-here.ensures.behind c.in_ok-here.ensures.pushed c.loop-rest.invariant.pieces;
      front = λ lt.
          let long : m < length after = omega (arith, long_next, lt) in
          rw (c.split_at-in-loop-rest.ensures.back) (get_or-drop m after 0 0 ∙ ap (λ k. get_or after k 0) (add-zero m) ∙ c.before_section.ensures.front long);
      small = omega (arith, long_line, long_after, long_text, long_next, c.in_ok-here.ensures.most, c.line_len.ensures.within, c.before_section.ensures.within, c.loop-rest.invariant.small);
    }

pub returns : goal.returns
returns c =
    let rest = c.loop-rest.rest.now in
    let none : rest ≡ [] = nil_from_length rest (eqb-true _ _ (sym c.is_empty.ensures ∙ c.loop-rest-test.false)) in
    piece-end c.args.file c.loop-rest.here rest c.loop-rest.pieces.items _ none c.loop-rest.invariant.pieces
