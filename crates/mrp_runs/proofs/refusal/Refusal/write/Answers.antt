use Rattle.std.proofs.Common.{◌∙◌, ◌++◌, [], ◌∷◌, ℕ, List, ap, codes, subst, sym}
use Rattle.std.specs.Prelude.{OnErr, OnOk}
use Rattle.mrp_report.specs.Taken.{HasTakenAll}
use Rattle.mrp_report.specs.Written.{HasTakenFront}
use Rattle.mrp_runs.specs.File.{refusal_text}
use Rattle.mrp_runs.proofs.refusal.Refusal.write.Goals as goal

pub returns-in-TooLarge-clause-whole : goal.returns-in-TooLarge-clause-whole
returns-in-TooLarge-clause-whole g c =
    subst (λ (t : List ℕ). OnOk c.write_line.result (HasTakenAll g.W.Write.contents c.args.writer.now c.write_line.new.writer t))
    (ap (λ (name : List ℕ). codes "too large: " ++ name ++ 10 ∷ []) c.as_bytes.ensures.text ∙ sym (ap refusal_text c.in-TooLarge.is)) c.write_line.ensures.whole

pub returns-in-NoMemory-clause-whole : goal.returns-in-NoMemory-clause-whole
returns-in-NoMemory-clause-whole g c =
    subst (λ (t : List ℕ). OnOk c.write_line-in-NoMemory.result (HasTakenAll g.W.Write.contents c.args.writer.now c.write_line-in-NoMemory.new.writer t)) (sym (ap refusal_text c.in-NoMemory.is))
    c.write_line-in-NoMemory.ensures.whole

pub returns-in-TooLarge-clause-front : goal.returns-in-TooLarge-clause-front
returns-in-TooLarge-clause-front g c =
    subst (λ (t : List ℕ). OnErr c.write_line.result (HasTakenFront g.W.Write.contents c.args.writer.now c.write_line.new.writer t))
    (ap (λ (name : List ℕ). codes "too large: " ++ name ++ 10 ∷ []) c.as_bytes.ensures.text ∙ sym (ap refusal_text c.in-TooLarge.is)) c.write_line.ensures.front

pub returns-in-NoMemory-clause-front : goal.returns-in-NoMemory-clause-front
returns-in-NoMemory-clause-front g c =
    subst (λ (t : List ℕ). OnErr c.write_line-in-NoMemory.result (HasTakenFront g.W.Write.contents c.args.writer.now c.write_line-in-NoMemory.new.writer t)) (sym (ap refusal_text c.in-NoMemory.is))
    c.write_line-in-NoMemory.ensures.front
