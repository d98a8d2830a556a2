use Rattle.std.proofs.Common.{arith, ◌≡◌, ◌≢◌, ◌<◌, ◌∙◌, ap, sym, refl, get_or, length, take, [], add-zero}
use Rattle.std.proofs.lemmas.Bool.{eqb-true, eqb-false}
use Rattle.std.proofs.lemmas.Result.{err_from_is_err_and}
use Rattle.std.proofs.lemmas.List.{nil_from_length, get_or-drop, length-drop}
use Rattle.mrp_rows.specs.Bundle.{sections_in, put_all, no_texts, lines_of, parts_of}
use Rattle.mrp_rows.specs.Placing.{texts_of}
use Rattle.mrp_rows.proofs.SplitPlaces.{first-section, places-on, places-not}
use Rattle.mrp_rows.proofs.bundle.place_all.Goals as goal

pub returns-in_err-put_section : goal.returns-in_err-put_section
returns-in_err-put_section c =
    let rest = c.loop-rest.rest.now in
    let p = err_from_is_err_and c.from_residual.result c.from_residual.ensures.1 in
    let ne : length rest ≢ 0 = eqb-false _ _ (sym c.is_empty.ensures ∙ c.loop-rest-test.true) in
    let some : 0 < length rest = omega arith in
    let n = c.line_len.result in
    let after = c.split_at.result.1.now in
    let text = c.split_at-in-loop-rest.result.0.now in
    let next = c.split_at-in-loop-rest.result.1.now in
    let front = c.before_section.ensures.before ∙ sym c.split_at-in-loop-rest.ensures.front in
    let more = c.before_section.ensures.sections ∙ ap (λ t. (sections_in t).1) (sym c.split_at-in-loop-rest.ensures.back) in
    let is = first-section rest after next text n (c.loop-rest.invariant.front some) c.line_len.ensures.some c.line_len.ensures.line c.split_at.ensures.back front more in
    let placed = rw (c.split_at.ensures.front, c.text_after.ensures) at c.in_err-put_section.ensures.placed in
    rw (p.1, p.2) (places-not (texts_of c.loop-rest.texts) (texts_of c.put_section.new.texts) c.loop-rest.count (sections_in rest).1 (sections_in next).1 (take n rest) text (put_all no_texts 0 (sections_in c.args.sections.now).1) c.in_err-put_section.field-0.0 is placed c.loop-rest.invariant.left)

pub loop-rest-preserved : goal.loop-rest-preserved
loop-rest-preserved c =
    let rest = c.loop-rest.rest.now in
    let ne : length rest ≢ 0 = eqb-false _ _ (sym c.is_empty.ensures ∙ c.loop-rest-test.true) in
    let some : 0 < length rest = omega arith in
    let n = c.line_len.result in
    let after = c.split_at.result.1.now in
    let text = c.split_at-in-loop-rest.result.0.now in
    let next = c.split_at-in-loop-rest.result.1.now in
    let m = c.before_section.result in
    let front = c.before_section.ensures.before ∙ sym c.split_at-in-loop-rest.ensures.front in
    let more = c.before_section.ensures.sections ∙ ap (λ t. (sections_in t).1) (sym c.split_at-in-loop-rest.ensures.back) in
    let is = first-section rest after next text n (c.loop-rest.invariant.front some) c.line_len.ensures.some c.line_len.ensures.line c.split_at.ensures.back front more in
    let placed = rw (c.split_at.ensures.front, c.text_after.ensures) at c.in_ok-put_section.ensures.placed in
    let left = places-on (texts_of c.loop-rest.texts) (texts_of c.put_section.new.texts) c.loop-rest.count (sections_in rest).1 (sections_in next).1 (take n rest) text (put_all no_texts 0 (sections_in c.args.sections.now).1) tt is placed c.loop-rest.invariant.left in
    record {
      left = left;
      count = rw c.loop-rest.invariant.count (sym c.in_ok-put_section.ensures.count);
      within = c.in_ok-put_section.ensures.within;
      front = λ lt.
          let long : m < length after = omega (arith, length-drop m after, ap length c.split_at-in-loop-rest.ensures.back) in
          rw (c.split_at-in-loop-rest.ensures.back) (get_or-drop m after 0 0 ∙ ap (λ k. get_or after k 0) (add-zero m) ∙ c.before_section.ensures.front long);
    }

pub returns : goal.returns
unfolding lines_of parts_of put_all
returns c =
    let rest = c.loop-rest.rest.now in
    let none : rest ≡ [] = nil_from_length rest (eqb-true _ _ (sym c.is_empty.ensures ∙ c.loop-rest-test.false)) in
    c.loop-rest.invariant.left ∙ rw none refl
