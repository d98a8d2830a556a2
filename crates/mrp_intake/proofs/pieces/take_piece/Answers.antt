use Rattle.std.proofs.Common.{◌≡◌, ◌∙◌, ◌++◌, ◌+◌, ℕ, List, [], drop, ap, sym, subst}
use Rattle.std.proofs.lemmas.List.{take-append-drop}
use Rattle.mrp_intake.specs.Intake.{IsEnded, IsInLine}
use Rattle.mrp_intake.specs.Lines.{told_lines}
use Rattle.mrp_intake.proofs.ToldLines.{ended-behind, ended-last, in-after, none-found, piece-brings, told-none}
use Rattle.mrp_intake.proofs.pieces.take_piece.Goals as goal

pub go_on-requires-clause-more : goal.go_on-requires-clause-more
go_on-requires-clause-more c = none-found c.args.given.now c.memrchr.result c.memrchr.ensures c.in_default.not-Some

pub returns-in_default-clause-brings : goal.returns-in_default-clause-brings
returns-in_default-clause-brings c = λ after. c.in_ok-go_on.ensures.same after ∙ told-none c.args.batch.now.items (c.go_on.new.begun.items ++ after) c.requires.batch

pub go_on-requires-2-clause-more : goal.go_on-requires-2-clause-more
go_on-requires-2-clause-more c = subst IsInLine (sym c.split_at.ensures.back) (in-after c.args.given.now c.in-Some.at c.in-Some.ensures.0)

pub returns-clause-brings : goal.returns-clause-brings
returns-clause-brings c = λ after.
    let lines = c.split_at.result.0.now in
    let more = c.split_at.result.1.now in
    let ended : IsEnded lines = subst IsEnded (sym c.split_at.ensures.front) (ended-last c.args.given.now c.in-Some.at c.in-Some.ensures.0 c.in-Some.ensures.1) in
    let cut : c.args.given.now ≡ lines ++ more =
    sym (take-append-drop (c.in-Some.at + 1) c.args.given.now) ∙ ap (λ (l : List ℕ). l ++ drop (c.in-Some.at + 1) c.args.given.now) (sym c.split_at.ensures.front) ∙ ap (λ (l : List ℕ). lines ++ l) (sym c.split_at.ensures.back) in
    let begun : c.append.new.other.items ≡ [] = c.in_ok-append.ensures.other_items in
    let same : told_lines (more ++ after) ≡ told_lines (c.go_on-2.new.begun.items ++ after) =
    ap (λ (l : List ℕ). told_lines (l ++ more ++ after)) (sym begun) ∙ c.in_ok-go_on-2.ensures.same after in
    let batch : c.extend_from_slice.new.self.items ≡ c.args.begun.now.items ++ lines =
    c.in_ok-extend_from_slice.ensures.items ∙ ap (λ (l : List ℕ). l ++ lines) (c.in_ok-append.ensures.items ∙ ap (λ (l : List ℕ). l ++ c.args.begun.now.items) c.requires.batch) in
    piece-brings c.args.begun.now.items c.args.given.now lines more c.go_on-2.new.begun.items after cut ended same
    ∙ ap (λ (l : List ℕ). told_lines l ++ told_lines (c.go_on-2.new.begun.items ++ after)) (sym batch)

pub returns-clause-some : goal.returns-clause-some
returns-clause-some c e =
    let lines = c.split_at.result.0.now in
    let ended : IsEnded lines = subst IsEnded (sym c.split_at.ensures.front) (ended-last c.args.given.now c.in-Some.at c.in-Some.ensures.0 c.in-Some.ensures.1) in
    let batch : c.extend_from_slice.new.self.items ≡ c.args.begun.now.items ++ lines =
    c.in_ok-extend_from_slice.ensures.items ∙ ap (λ (l : List ℕ). l ++ lines) (c.in_ok-append.ensures.items ∙ ap (λ (l : List ℕ). l ++ c.args.begun.now.items) c.requires.batch) in
    subst IsEnded (sym batch) (ended-behind c.args.begun.now.items lines ended)

pub returns-in_default-clause-waits : goal.returns-in_default-clause-waits
returns-in_default-clause-waits c = λ e. none-found c.args.given.now c.memrchr.result c.memrchr.ensures c.in_default.not-Some
