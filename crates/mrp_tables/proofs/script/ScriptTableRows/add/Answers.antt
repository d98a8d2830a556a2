use Rattle.std.proofs.Common.{rules, ◌≡◌, ◌++◌, ◌∷◌, [], subst}
use Rattle.std.proofs.lemmas.List.Elements.{All-append, All-cons, All-nil}
use Rattle.mrp_tables.specs.declared.rows.ScriptRow.{ScriptRow}
use Rattle.mrp_tables.specs.Facts.{IsScriptRow}
use Rattle.mrp_tables.proofs.script.ScriptTableRows.add.Goals as goal

pub invariant_of-self-2 : goal.invariant_of-self-2
invariant_of-self-2 c =
    let old = c.self.inside.rows.items in
    let row : ScriptRow = record { desk = c.in_ok-desk.desk; call = c.in_ok-desk.call } in
    let Of : ScriptRow → Type 0 = IsScriptRow c.self.inside.calendar.now.weeks c.self.inside.items.now in
    let pushed : c.push.new.self.items ≡ old ++ row ∷ [] = search rules in
    let same : c.in_ok-desk.field-0 ≡ row = λ i. record { desk = c.in_ok-desk.desk-is i; call = c.in_ok-desk.call-is i } in
    let read : Of row = subst Of same c.in_ok-desk.ensures.within in
    rw pushed (All-append Of old (row ∷ []) c.self.invariant (All-cons Of row [] read (All-nil Of)))
