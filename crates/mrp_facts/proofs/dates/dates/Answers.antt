use Rattle.std.proofs.Common.{rules, arith, ◌≡◌, ◌∙◌, ℕ, List, [], ◌∷◌, ◌++◌, ap, length, length-append, map, subst, sym}
use Rattle.std.specs.Prelude.{string_bytes}
use Rattle.std.proofs.lemmas.List.{map-append}
use Rattle.mrp_facts.specs.Dates.{IsDateOf, in_week}
use Rattle.mrp_facts.proofs.Weekly.{dated-more}
use Rattle.mrp_facts.proofs.dates.dates.Goals as goal

pub loop-week-preserved : goal.loop-week-preserved
loop-week-preserved c =
    let before = c.loop-week.dates.items in
    let date = c.in_ok-date.date in
    let texts : List (List ℕ) = map string_bytes before in
    let pushed : c.push.new.self.items ≡ before ++ date ∷ [] = search rules in
    let shown : map string_bytes c.push.new.self.items ≡ texts ++ string_bytes date ∷ [] = ap (map string_bytes) pushed ∙ map-append string_bytes before (date ∷ []) in
    record {
      count = omega (arith, ap length shown, length-append texts (string_bytes date ∷ []), c.loop-week.invariant.count);
      each = λ week range.
          subst (λ (ts : List (List ℕ)). IsDateOf c.args.calendar.now week (in_week ts week)) (sym shown)
          (dated-more c.args.calendar.now texts (string_bytes date) c.loop-week.week c.loop-week.invariant.count c.loop-week.invariant.each c.in_ok-date.ensures week range);
    }
