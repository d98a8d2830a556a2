use Rattle.std.proofs.Common.{◌≡◌, ◌∙◌, ◌-◌, ◌<◌, ℕ, List, [], None, ap, add-zero, arith, get_or, length, refl, sym}
use Rattle.std.proofs.lemmas.Bool.{eqb-true}
use Rattle.std.proofs.lemmas.List.{get_or-drop, length-drop, nil_from_length}
use Rattle.std.proofs.lemmas.Result.{on_ok_weaker}
use Rattle.mrp_rows.specs.Bundle.{sections_in}
use Rattle.mrp_inspect.specs.Lines.{at_front, counted_all}
use Rattle.mrp_inspect.specs.Pieces.{piece_from}
use Rattle.mrp_inspect.specs.declared.lines.Counter.{Counter}
use Rattle.mrp_inspect.proofs.Cutting.{file-pieces, piece-end}
use Rattle.mrp_inspect.proofs.cut.cut_file.Goals as goal

pub push_pieces-requires-clause-section : goal.push_pieces-requires-clause-section
push_pieces-requires-clause-section c = λ lt.
    let content = c.args.content.now in
    let n = c.before_section.result in
    let long : length c.split_at.result.1.now ≡ length content - n = ap (length {A = ℕ}) c.split_at.ensures.back ∙ length-drop n content in
    let within : n < length content = omega (arith, long, lt) in
    rw (c.split_at.ensures.back) (get_or-drop n content 0 0 ∙ ap (λ (k : ℕ). get_or content k 0) (add-zero n) ∙ c.before_section.ensures.front within)

pub returns-then-is_empty : goal.returns-then-is_empty
returns-then-is_empty c =
    let file = c.args.file in
    let text : List ℕ = c.split_at.result.0.now in
    let sections : List ℕ = c.split_at.result.1.now in
    let front = c.before_section.ensures.before ∙ sym c.split_at.ensures.front in
    let rest = c.before_section.ensures.sections ∙ ap (λ (t : List ℕ). (sections_in t).1) (sym c.split_at.ensures.back) in
    let own : c.from.result ≡ piece_from file at_front at_front None text = c.from.ensures ∙ ap (λ (k : Counter). piece_from file k k None text) c.new-front.ensures in
    let none : sections ≡ [] = nil_from_length sections (eqb-true _ _ (sym c.is_empty.ensures ∙ c.if-is_empty.true)) in
    file-pieces file c.args.content.now text sections c.args.pieces.now.items c.push.new.self.items c.push.new.self.items c.from.result (counted_all at_front text) front rest own c.in_ok-push.ensures.items refl
    (piece-end file (counted_all at_front text) sections c.push.new.self.items _ none refl)

pub returns : goal.returns
returns c =
    let file = c.args.file in
    let text : List ℕ = c.split_at.result.0.now in
    let sections : List ℕ = c.split_at.result.1.now in
    let front = c.before_section.ensures.before ∙ sym c.split_at.ensures.front in
    let rest = c.before_section.ensures.sections ∙ ap (λ (t : List ℕ). (sections_in t).1) (sym c.split_at.ensures.back) in
    let own : c.from.result ≡ piece_from file at_front at_front None text = c.from.ensures ∙ ap (λ (k : Counter). piece_from file k k None text) c.new-front.ensures in
    let here : c.behind.result ≡ counted_all at_front text = c.behind.ensures.all ∙ ap (λ (k : Counter). counted_all k text) c.new-front.ensures in
    on_ok_weaker c.push_pieces.result
    (λ e. file-pieces file c.args.content.now text sections c.args.pieces.now.items c.push.new.self.items c.push_pieces.new.pieces.items c.from.result c.behind.result front rest own c.in_ok-push.ensures.items here e)
    c.push_pieces.ensures
