use Rattle.std.proofs.Common.{◌≡◌, ◌∙◌, ◌++◌, ℕ, List, codes, subst}
use Rattle.std.specs.Prelude.{decimal}
use Rattle.std.proofs.lemmas.Result.{on_err_weaker, on_ok_weaker}
use Rattle.mrp_report.specs.Taken.{HasTakenAll}
use Rattle.mrp_report.specs.Written.{HasTakenFront}
use Rattle.mrp_report.proofs.Progress.{on-err}
use Rattle.mrp_report.proofs.TakenAll.{all-both, front-of-more, front-then}
use Rattle.mrp_runs.specs.Notes.{rest_of}
use Rattle.mrp_runs.proofs.telling.tell_run.Goals as goal

pub returns-clause-whole : goal.returns-clause-whole
returns-clause-whole g c =
    let contents = g.W.Write.contents in
    let start = c.args.writer.now in
    let named = c.write_whole.new.writer in
    let numbered = c.write_whole-2.new.writer in
    let parted = c.write_whole-3.new.writer in
    let end = c.write_note.new.writer in
    let number : List ℕ = decimal c.args.front in
    let digits : c.as_bytes.result.now ≡ number = c.as_bytes.ensures.value ∙ c.format.ensures.text in
    let second : HasTakenAll contents named numbered number = subst (HasTakenAll contents named numbered) digits c.in_ok-write_whole-2.ensures.whole in
    let two = all-both contents start named numbered (codes "run ") number c.in_ok-write_whole.ensures.whole second in
    let three = all-both contents start numbered parted (codes "run " ++ number) (codes ": ") two c.in_ok-write_whole-3.ensures.whole in
    on_ok_weaker c.write_note.result
    (λ (taken : HasTakenAll contents parted end (rest_of c.args.note)). all-both contents start parted end (codes "run " ++ number ++ codes ": ") (rest_of c.args.note) three taken)
    c.write_note.ensures.whole

pub returns-in_err-write_whole-clause-front : goal.returns-in_err-write_whole-clause-front
returns-in_err-write_whole-clause-front g c =
    let contents = g.W.Write.contents in
    let start = c.args.writer.now in
    let end = c.write_whole.new.writer in
    let number : List ℕ = decimal c.args.front in
    on-err c.from_residual.result
    (front-of-more contents start end (codes "run " ++ number ++ codes ": ") (rest_of c.args.note)
    (front-of-more contents start end (codes "run " ++ number) (codes ": ")
    (front-of-more contents start end (codes "run ") number c.in_err-write_whole.ensures.front)))

pub returns-in_err-write_whole-2-clause-front : goal.returns-in_err-write_whole-2-clause-front
returns-in_err-write_whole-2-clause-front g c =
    let contents = g.W.Write.contents in
    let start = c.args.writer.now in
    let named = c.write_whole.new.writer in
    let end = c.write_whole-2.new.writer in
    let number : List ℕ = decimal c.args.front in
    let digits : c.as_bytes.result.now ≡ number = c.as_bytes.ensures.value ∙ c.format.ensures.text in
    let second : HasTakenFront contents named end number = subst (HasTakenFront contents named end) digits c.in_err-write_whole-2.ensures.front in
    on-err c.from_residual-in_err-write_whole-2.result
    (front-of-more contents start end (codes "run " ++ number ++ codes ": ") (rest_of c.args.note)
    (front-of-more contents start end (codes "run " ++ number) (codes ": ")
    (front-then contents start named end (codes "run ") number c.in_ok-write_whole.ensures.whole second)))

pub returns-in_err-write_whole-3-clause-front : goal.returns-in_err-write_whole-3-clause-front
returns-in_err-write_whole-3-clause-front g c =
    let contents = g.W.Write.contents in
    let start = c.args.writer.now in
    let named = c.write_whole.new.writer in
    let numbered = c.write_whole-2.new.writer in
    let end = c.write_whole-3.new.writer in
    let number : List ℕ = decimal c.args.front in
    let digits : c.as_bytes.result.now ≡ number = c.as_bytes.ensures.value ∙ c.format.ensures.text in
    let second : HasTakenAll contents named numbered number = subst (HasTakenAll contents named numbered) digits c.in_ok-write_whole-2.ensures.whole in
    let two = all-both contents start named numbered (codes "run ") number c.in_ok-write_whole.ensures.whole second in
    on-err c.from_residual-in_err-write_whole-3.result
    (front-of-more contents start end (codes "run " ++ number ++ codes ": ") (rest_of c.args.note)
    (front-then contents start numbered end (codes "run " ++ number) (codes ": ") two c.in_err-write_whole-3.ensures.front))

pub returns-clause-front : goal.returns-clause-front
returns-clause-front g c =
    let contents = g.W.Write.contents in
    let start = c.args.writer.now in
    let named = c.write_whole.new.writer in
    let numbered = c.write_whole-2.new.writer in
    let parted = c.write_whole-3.new.writer in
    let end = c.write_note.new.writer in
    let number : List ℕ = decimal c.args.front in
    let digits : c.as_bytes.result.now ≡ number = c.as_bytes.ensures.value ∙ c.format.ensures.text in
    let second : HasTakenAll contents named numbered number = subst (HasTakenAll contents named numbered) digits c.in_ok-write_whole-2.ensures.whole in
    let two = all-both contents start named numbered (codes "run ") number c.in_ok-write_whole.ensures.whole second in
    let three = all-both contents start numbered parted (codes "run " ++ number) (codes ": ") two c.in_ok-write_whole-3.ensures.whole in
    on_err_weaker c.write_note.result
    (λ (front : HasTakenFront contents parted end (rest_of c.args.note)). front-then contents start parted end (codes "run " ++ number ++ codes ": ") (rest_of c.args.note) three front)
    c.write_note.ensures.front
