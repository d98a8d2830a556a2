use Rattle.std.proofs.Common.{rules, ◌≡◌, ◌∙◌, [], List, false, ap, sym, fold}
use Rattle.mrp_peg.specs.declared.peg.Peg.{Peg}
use Rattle.mrp_peg.specs.Walk.{followed, with_item, with_order, with_told}
use Rattle.mrp_peg.proofs.Skipped.{unfollowed}
use Rattle.mrp_peg.proofs.walking.follow.Goals as goal

pub returns-then-not-contains-clause-orders : goal.returns-then-not-contains-clause-orders
returns-then-not-contains-clause-orders c =
    let s = c.args.plan.now.inputs in
    let none : c.contains.result ≡ false = search rules in
    let nothing : followed s c.args.orders.now.keys c.args.item ≡ [] = unfollowed s c.args.orders.now.keys c.args.items.now.keys c.args.item c.requires.marked (sym c.contains.ensures ∙ none) in
    sym (ap (λ (l : List Peg). fold (with_order s.tables.bills) c.args.orders.now.keys l) nothing)

pub returns-then-not-contains-clause-items : goal.returns-then-not-contains-clause-items
returns-then-not-contains-clause-items c =
    let s = c.args.plan.now.inputs in
    let none : c.contains.result ≡ false = search rules in
    let nothing : followed s c.args.orders.now.keys c.args.item ≡ [] = unfollowed s c.args.orders.now.keys c.args.items.now.keys c.args.item c.requires.marked (sym c.contains.ensures ∙ none) in
    sym (ap (λ (l : List Peg). fold (with_item s.tables.bills) c.args.items.now.keys l) nothing)

pub returns-then-not-contains-clause-causes : goal.returns-then-not-contains-clause-causes
returns-then-not-contains-clause-causes c =
    let s = c.args.plan.now.inputs in
    let none : c.contains.result ≡ false = search rules in
    let nothing : followed s c.args.orders.now.keys c.args.item ≡ [] = unfollowed s c.args.orders.now.keys c.args.items.now.keys c.args.item c.requires.marked (sym c.contains.ensures ∙ none) in
    sym (ap (λ (l : List Peg). fold with_told c.args.causes.now.keys l) nothing)
