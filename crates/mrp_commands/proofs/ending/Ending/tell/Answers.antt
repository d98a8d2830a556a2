use Rattle.std.proofs.Common.{◌∙◌, ◌++◌, [], ◌∷◌, ℕ, List, ap, codes, subst, sym}
use Rattle.std.specs.Prelude.{OnErr, OnOk}
use Rattle.mrp_report.specs.Written.{HasTakenFront}
use Rattle.mrp_report.specs.Taken.{HasTakenAll}
use Rattle.mrp_commands.specs.Telling.{words_of}
use Rattle.mrp_commands.proofs.ending.Ending.tell.Goals as goal

pub returns-in-TooLarge-clause-whole : goal.returns-in-TooLarge-clause-whole
returns-in-TooLarge-clause-whole g c =
    subst (λ (t : List ℕ). OnOk c.write_line-in-TooLarge.result (HasTakenAll g.E.Write.contents c.args.errors.now c.write_line-in-TooLarge.new.errors t))
    (ap (λ (name : List ℕ). codes "too large: " ++ name ++ 10 ∷ []) c.as_bytes-in-TooLarge.ensures.text ∙ sym (ap words_of c.in-TooLarge.is)) c.write_line-in-TooLarge.ensures.whole

pub returns-in-TooLarge-clause-front : goal.returns-in-TooLarge-clause-front
returns-in-TooLarge-clause-front g c =
    subst (λ (t : List ℕ). OnErr c.write_line-in-TooLarge.result (HasTakenFront g.E.Write.contents c.args.errors.now c.write_line-in-TooLarge.new.errors t))
    (ap (λ (name : List ℕ). codes "too large: " ++ name ++ 10 ∷ []) c.as_bytes-in-TooLarge.ensures.text ∙ sym (ap words_of c.in-TooLarge.is)) c.write_line-in-TooLarge.ensures.front

pub returns-in-Read-clause-whole : goal.returns-in-Read-clause-whole
returns-in-Read-clause-whole g c =
    subst (λ (t : List ℕ). OnOk c.write_line-in-Read.result (HasTakenAll g.E.Write.contents c.args.errors.now c.write_line-in-Read.new.errors t)) (sym (ap words_of c.in-Read.is))
    c.write_line-in-Read.ensures.whole

pub returns-in-Write-clause-whole : goal.returns-in-Write-clause-whole
returns-in-Write-clause-whole g c =
    subst (λ (t : List ℕ). OnOk c.write_line-in-Write.result (HasTakenAll g.E.Write.contents c.args.errors.now c.write_line-in-Write.new.errors t)) (sym (ap words_of c.in-Write.is))
    c.write_line-in-Write.ensures.whole

pub returns-in-WrongShape-clause-whole : goal.returns-in-WrongShape-clause-whole
returns-in-WrongShape-clause-whole g c =
    subst (λ (t : List ℕ). OnOk c.write_line-in-WrongShape.result (HasTakenAll g.E.Write.contents c.args.errors.now c.write_line-in-WrongShape.new.errors t)) (sym (ap words_of c.in-WrongShape.is))
    c.write_line-in-WrongShape.ensures.whole

pub returns-in-WrongShape-clause-front : goal.returns-in-WrongShape-clause-front
returns-in-WrongShape-clause-front g c =
    subst (λ (t : List ℕ). OnErr c.write_line-in-WrongShape.result (HasTakenFront g.E.Write.contents c.args.errors.now c.write_line-in-WrongShape.new.errors t)) (sym (ap words_of c.in-WrongShape.is))
    c.write_line-in-WrongShape.ensures.front

pub returns-in-WrongTables-clause-whole : goal.returns-in-WrongTables-clause-whole
returns-in-WrongTables-clause-whole g c =
    subst (λ (t : List ℕ). OnOk c.write_line-in-WrongTables.result (HasTakenAll g.E.Write.contents c.args.errors.now c.write_line-in-WrongTables.new.errors t)) (sym (ap words_of c.in-WrongTables.is))
    c.write_line-in-WrongTables.ensures.whole

pub returns-in-WrongTables-clause-front : goal.returns-in-WrongTables-clause-front
returns-in-WrongTables-clause-front g c =
    subst (λ (t : List ℕ). OnErr c.write_line-in-WrongTables.result (HasTakenFront g.E.Write.contents c.args.errors.now c.write_line-in-WrongTables.new.errors t)) (sym (ap words_of c.in-WrongTables.is))
    c.write_line-in-WrongTables.ensures.front

pub returns-in-InUse-clause-whole : goal.returns-in-InUse-clause-whole
returns-in-InUse-clause-whole g c =
    subst (λ (t : List ℕ). OnOk c.write_line-in-InUse.result (HasTakenAll g.E.Write.contents c.args.errors.now c.write_line-in-InUse.new.errors t)) (sym (ap words_of c.in-InUse.is))
    c.write_line-in-InUse.ensures.whole

pub returns-in-InUse-clause-front : goal.returns-in-InUse-clause-front
returns-in-InUse-clause-front g c =
    subst (λ (t : List ℕ). OnErr c.write_line-in-InUse.result (HasTakenFront g.E.Write.contents c.args.errors.now c.write_line-in-InUse.new.errors t)) (sym (ap words_of c.in-InUse.is))
    c.write_line-in-InUse.ensures.front

pub returns-in-TablesChanged-clause-whole : goal.returns-in-TablesChanged-clause-whole
returns-in-TablesChanged-clause-whole g c =
    subst (λ (t : List ℕ). OnOk c.write_line-in-TablesChanged.result (HasTakenAll g.E.Write.contents c.args.errors.now c.write_line-in-TablesChanged.new.errors t)) (sym (ap words_of c.in-TablesChanged.is))
    c.write_line-in-TablesChanged.ensures.whole

pub returns-in-TablesChanged-clause-front : goal.returns-in-TablesChanged-clause-front
returns-in-TablesChanged-clause-front g c =
    subst (λ (t : List ℕ). OnErr c.write_line-in-TablesChanged.result (HasTakenFront g.E.Write.contents c.args.errors.now c.write_line-in-TablesChanged.new.errors t)) (sym (ap words_of c.in-TablesChanged.is))
    c.write_line-in-TablesChanged.ensures.front

pub returns-in-NoRun-clause-whole : goal.returns-in-NoRun-clause-whole
returns-in-NoRun-clause-whole g c =
    subst (λ (t : List ℕ). OnOk c.write_line-in-NoRun.result (HasTakenAll g.E.Write.contents c.args.errors.now c.write_line-in-NoRun.new.errors t)) (sym (ap words_of c.in-NoRun.is))
    c.write_line-in-NoRun.ensures.whole

pub returns-in-NoRun-clause-front : goal.returns-in-NoRun-clause-front
returns-in-NoRun-clause-front g c =
    subst (λ (t : List ℕ). OnErr c.write_line-in-NoRun.result (HasTakenFront g.E.Write.contents c.args.errors.now c.write_line-in-NoRun.new.errors t)) (sym (ap words_of c.in-NoRun.is))
    c.write_line-in-NoRun.ensures.front

pub returns-in-NoStart-clause-whole : goal.returns-in-NoStart-clause-whole
returns-in-NoStart-clause-whole g c =
    subst (λ (t : List ℕ). OnOk c.write_line-in-NoStart.result (HasTakenAll g.E.Write.contents c.args.errors.now c.write_line-in-NoStart.new.errors t))
    (ap (λ (range : List ℕ). codes "no such start: expected a Monday from " ++ range ++ 10 ∷ []) c.as_bytes-in-NoStart.ensures.value ∙ sym (ap words_of c.in-NoStart.is)) c.write_line-in-NoStart.ensures.whole

pub returns-in-NoStart-clause-front : goal.returns-in-NoStart-clause-front
returns-in-NoStart-clause-front g c =
    subst (λ (t : List ℕ). OnErr c.write_line-in-NoStart.result (HasTakenFront g.E.Write.contents c.args.errors.now c.write_line-in-NoStart.new.errors t))
    (ap (λ (range : List ℕ). codes "no such start: expected a Monday from " ++ range ++ 10 ∷ []) c.as_bytes-in-NoStart.ensures.value ∙ sym (ap words_of c.in-NoStart.is)) c.write_line-in-NoStart.ensures.front
