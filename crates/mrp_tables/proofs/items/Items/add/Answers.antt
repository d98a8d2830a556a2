use Rattle.std.proofs.Common.{rules, arith, ◌≡◌, ◌++◌, ◌∷◌, [], ◌∙◌, sym, ap, false, true}
use Rattle.std.specs.Prelude.{is_err, nat_eq}
use Rattle.std.proofs.lemmas.Grind.{common_steps}
use Rattle.std.specs.Cmp.Lexicographic.{pointwise, nat_list_eq_equiv}
use Rattle.std.specs.List.{list_any}
use Rattle.mrp_tables.specs.Items.{names_of}
use Rattle.mrp_tables.proofs.Distinct.{grown_field, popped, where_refused}
use Rattle.mrp_tables.proofs.Stocked.{more_items}
use Rattle.mrp_tables.proofs.items.Items.add.Goals as goal

pub invariant_of-self-else-is_err-2 : goal.invariant_of-self-else-is_err-2
invariant_of-self-else-is_err-2 c =
    let old = c.self.inside.items.items in
    let item = c.args.item in
    let pushed : c.push.new.self.items ≡ old ++ item ∷ [] = search rules in
    let fresh : list_any (pointwise nat_eq item.name) (names_of old) ≡ false =
    sym (ap (list_any (pointwise nat_eq item.name)) c.self.invariant.keys) ∙ sym c.contains.ensures ∙ c.if-contains.false in
    record {
      keys = grind (arith, common_steps);
      within = rw pushed (more_items old item c.self.invariant.within c.requires (sym c.is_stocked_master.ensures ∙ c.if-is_stocked_master.false));
      distinct = grown_field nat_list_eq_equiv (λ i. i.name) old c.push.new.self.items item pushed c.self.invariant.distinct fresh;
    }

pub invariant_of-self-then-is_err-2 : goal.invariant_of-self-then-is_err-2
invariant_of-self-then-is_err-2 c =
    let old = c.self.inside.items.items in
    let pushed : c.push.new.self.items ≡ old ++ c.args.item ∷ [] = search rules in
    let kept : c.pop.new.self.items ≡ old = popped old c.push.new.self.items c.pop.new.self.items c.args.item c.push.new.self.len pushed c.push.new.self.ok.0 c.pop.ensures.rest in
    let refused : is_err c.insert.result ≡ true = sym c.is_err-2.ensures.value ∙ c.if-is_err-2.true in
    record {
      keys = where_refused c.insert.result refused c.insert.ensures.err ∙ c.self.invariant.keys ∙ ap names_of (sym kept);
      within = rw kept c.self.invariant.within;
      distinct = rw kept c.self.invariant.distinct;
    }
