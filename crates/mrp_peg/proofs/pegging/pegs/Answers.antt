use Rattle.std.proofs.Common.{◌≡◌, ◌∙◌, ◌++◌, ◌∷◌, [], ℕ, List, length, inl, inr, ap, sym, subst, arith}
use Rattle.std.specs.Prelude.{flat_map}
use Rattle.std.specs.List.{range_with_len}
use Rattle.std.proofs.lemmas.Bool.{cases_lt}
use Rattle.std.proofs.lemmas.List.{append-nil}
use Rattle.std.proofs.lemmas.List.Concat.{flat_map-append}
use Rattle.mrp_tables.specs.Tables.{Tables}
use Rattle.mrp_tables.specs.declared.item.Item.{Item}
use Rattle.mrp_item.specs.Inputs.{Inputs, count}
use Rattle.mrp_item.proofs.OutcomeLists.{places-more}
use Rattle.mrp_peg.specs.declared.peg.Peg.{Peg}
use Rattle.mrp_peg.specs.Laws.{AddUpToRequirements, AddUpToSupplies}
use Rattle.mrp_peg.specs.Pegging.{pegs_for, pegs_of, plan_pegs}
use Rattle.mrp_peg.proofs.PlanSums.{plan-requirements, plan-supplies}
use Rattle.mrp_peg.proofs.pegging.pegs.Goals as goal

pub loop-item-preserved : goal.loop-item-preserved
loop-item-preserved c =
    let s = c.args.plan.now.inputs in
    let i = c.loop-item.item in
    record {
      whole = c.in_ok-append.ensures.items
          ∙ ap (λ l. c.loop-item.all.items ++ l) (c.in_ok-pegs.ensures.pegs ∙ sym (append-nil (pegs_of s i)))
          ∙ ap (λ l. l ++ (pegs_of s i ++ [])) c.loop-item.invariant.whole
          ∙ sym (flat_map-append (pegs_of s) (range_with_len 0 i) (i ∷ []))
          ∙ ap (flat_map (pegs_of s)) (places-more i);
      sums = λ j below. elim (cases_lt j i) [
        | inl before ↦ c.loop-item.invariant.sums j before
        | inr last ↦
            let same : j ≡ i = omega arith in
            subst (λ (k : ℕ). AddUpToRequirements s k (pegs_of s k)) (sym same) (subst (AddUpToRequirements s i) c.in_ok-pegs.ensures.pegs c.in_ok-pegs.ensures.requirements)
      ];
    }

pub returns-clause-requirements : goal.returns-clause-requirements
returns-clause-requirements c = λ i within.
    let s = c.args.plan.now.inputs in
    let items = c.items-item-end.ensures.rows ∙ ap (λ (t : Tables). t.items) (c.tables.ensures.value ∙ c.shop.ensures.tables ∙ ap (λ (x : Inputs). x.tables) (c.deref.ensures ∙ c.inputs.ensures.inputs)) in
    let all : c.loop-item.item ≡ count s = omega (arith, c.loop-item-test.false, c.loop-item.auto.item-end, ap (length {A = Item}) items) in
    let whole : c.loop-item.all.items ≡ plan_pegs s = c.loop-item.invariant.whole ∙ ap (λ (n : ℕ). flat_map (pegs_of s) (range_with_len 0 n)) all in
    subst (λ (pegs : List Peg). AddUpToRequirements s i (pegs_for i pegs)) (sym whole) (plan-requirements s i within (c.loop-item.invariant.sums i (omega (arith, within, all))))

pub returns-clause-supplies : goal.returns-clause-supplies
returns-clause-supplies c = λ i within.
    let s = c.args.plan.now.inputs in
    let items = c.items-item-end.ensures.rows ∙ ap (λ (t : Tables). t.items) (c.tables.ensures.value ∙ c.shop.ensures.tables ∙ ap (λ (x : Inputs). x.tables) (c.deref.ensures ∙ c.inputs.ensures.inputs)) in
    let all : c.loop-item.item ≡ count s = omega (arith, c.loop-item-test.false, c.loop-item.auto.item-end, ap (length {A = Item}) items) in
    let whole : c.loop-item.all.items ≡ plan_pegs s = c.loop-item.invariant.whole ∙ ap (λ (n : ℕ). flat_map (pegs_of s) (range_with_len 0 n)) all in
    subst (λ (pegs : List Peg). AddUpToSupplies s i (pegs_for i pegs)) (sym whole) (plan-supplies s i within)
