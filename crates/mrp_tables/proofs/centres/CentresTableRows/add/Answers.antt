use Rattle.std.proofs.Common.{rules, ◌≡◌, ◌++◌, ◌∷◌, [], ◌∙◌, sym, ap, false, true}
use Rattle.std.specs.Prelude.{is_err, nat_eq}
use Rattle.std.specs.Cmp.Lexicographic.{pointwise, nat_list_eq_equiv}
use Rattle.std.specs.List.{list_any}
use Rattle.std.proofs.lemmas.List.{map-append}
use Rattle.std.proofs.lemmas.List.Elements.{All-append, All-cons, All-nil}
use Rattle.mrp_tables.specs.declared.rows.Centre.{Centre}
use Rattle.mrp_tables.specs.Centres.{centre_names}
use Rattle.mrp_tables.specs.Facts.{IsCentre}
use Rattle.mrp_tables.proofs.Distinct.{added_key, grown_field, popped, where_refused}
use Rattle.mrp_tables.proofs.centres.CentresTableRows.add.Goals as goal

pub invariant_of-self-else-is_err-2 : goal.invariant_of-self-else-is_err-2
invariant_of-self-else-is_err-2 c =
    let old = c.self.inside.centres.items in
    let centre = c.in_ok-centre.centre in
    let pushed : c.push.new.self.items ≡ old ++ centre ∷ [] = search rules in
    let unseen : list_any (pointwise nat_eq centre.name) c.self.inside.names.keys ≡ false = sym c.contains.ensures ∙ c.if-contains.false in
    let fresh : list_any (pointwise nat_eq centre.name) (centre_names old) ≡ false = sym (ap (list_any (pointwise nat_eq centre.name)) c.self.invariant.keys) ∙ unseen in
    let keys = added_key (pointwise nat_eq) c.insert.result c.self.inside.names.keys c.insert.new.self.keys centre.name (sym c.is_err-2.ensures.value ∙ c.if-is_err-2.false) c.insert.ensures.keys unseen in
    record {
      keys = keys ∙ ap (λ ks. ks ++ centre.name ∷ []) c.self.invariant.keys ∙ sym (ap centre_names pushed ∙ map-append (λ (k : Centre). k.name) old (centre ∷ []));
      within = rw pushed (All-append IsCentre old (centre ∷ []) c.self.invariant.within (All-cons IsCentre centre [] c.in_ok-centre.ensures.within (All-nil IsCentre)));
      distinct = grown_field nat_list_eq_equiv (λ (k : Centre). k.name) old c.push.new.self.items centre pushed c.self.invariant.distinct fresh;
    }

pub invariant_of-self-then-is_err-2 : goal.invariant_of-self-then-is_err-2
invariant_of-self-then-is_err-2 c =
    let old = c.self.inside.centres.items in
    let pushed : c.push.new.self.items ≡ old ++ c.in_ok-centre.centre ∷ [] = search rules in
    let kept : c.pop.new.self.items ≡ old = popped old c.push.new.self.items c.pop.new.self.items c.in_ok-centre.centre c.push.new.self.len pushed c.push.new.self.ok.0 c.pop.ensures.rest in
    let refused : is_err c.insert.result ≡ true = sym c.is_err-2.ensures.value ∙ c.if-is_err-2.true in
    record {
      keys = where_refused c.insert.result refused c.insert.ensures.err ∙ c.self.invariant.keys ∙ ap centre_names (sym kept);
      within = rw kept c.self.invariant.within;
      distinct = rw kept c.self.invariant.distinct;
    }
