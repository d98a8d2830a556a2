-- Each line of the item adds its pieces in its week; no sum passes the item's supply.
use Rattle.std.proofs.Common.{ℕ, ◌≡◌, ◌<◌, ◌+◌, ◌-◌, List, [], length, get_or, replicate, ap, ◌∙◌, arith}
use Rattle.std.proofs.lemmas.List.{get_or_read}
use Rattle.mrp_master.specs.declared.line.Line.{Line}
use Rattle.mrp_master.specs.Supply.{Supply, IsWeek}
use Rattle.mrp_master.proofs.Openings.{line_inside, opened_add, opened_all, opened_little, opened_skip, opened_start}
use Rattle.mrp_master.proofs.supply.Supply.openings.Goals as goal
use Rattle.mrp_master.proofs.supply.Supply.openings.Goals.{then-line-item, else-line-item}

pub loop-line-init : goal.loop-line-init
loop-line-init c =
    let s : Supply = c.args.self.now in
    let weeks : c.self.inside.weeks ≡ s.weeks = ap (λ (x : Supply). x.weeks) c.self.view_is in
    opened_start s c.args.item c.firm_of-line-items.result.now c.in_ok-openings.openings.items c.on_hand.result c.on_hand.ensures.kept.first
    (c.in_ok-openings.ensures.items_if_clones_equal (λ y e. e) ∙ ap (λ n. replicate n c.quantity.result) (c.from.ensures ∙ weeks) ∙ ap (λ (q : ℕ). replicate s.weeks q) c.quantity.ensures)
    c.on_hand.ensures.value

pub quantity-requires-then-line-item : goal.quantity-requires-then-line-item
quantity-requires-then-line-item c =
    let s : Supply = c.args.self.now in
    let item : ℕ = c.args.item in
    let lines : List Line = c.firm_of-line-items.result.now in
    let k : ℕ = c.loop-line.line-index in
    let l : Line = c.line-item.result in
    let openings : List ℕ = c.loop-line.openings.items in
    let own_lines : lines ≡ get_or s.firm item [] = c.firm_of-line-items.ensures in
    let inside : IsWeek s l.week = line_inside s item k lines l c.on_hand.ensures.kept c.loop-line-test.true c.line-item.is own_lines in
    let place : c.from-place.result - 1 ≡ l.week - 1 = omega (arith, c.from-place.ensures) in
    let there : c.from-place.result - 1 < length openings = omega (arith, inside.0, inside.1, c.loop-line.invariant.size, c.from-place.ensures) in
    omega (
      arith,
      opened_little s item k lines openings l c.loop-line.invariant c.loop-line-test.true c.line-item.is c.if-line-item.true inside.0 inside.1 own_lines,
      c.on_hand.ensures.kept.little item l.week,
      get_or_read openings (c.from-place.result - 1) c.index.result.now there c.index.ensures 0,
      ap (λ i. get_or openings i 0) place,
      c.value.ensures.pieces,
      c.value-then-line-item.ensures.pieces,
    )

pub loop-line-preserved : goal.loop-line-preserved
loop-line-preserved c =
    let s : Supply = c.args.self.now in
    let item : ℕ = c.args.item in
    let lines : List Line = c.firm_of-line-items.result.now in
    let k : ℕ = c.loop-line.line-index in
    let l : Line = c.line-item.result in
    let openings : List ℕ = c.loop-line.openings.items in
    let own_lines : lines ≡ get_or s.firm item [] = c.firm_of-line-items.ensures in
    let inside : IsWeek s l.week = line_inside s item k lines l c.on_hand.ensures.kept c.loop-line-test.true c.line-item.is own_lines in
    elim c.if-line-item.branch [
      | then-line-item w ↦
          let place : w.from-place.result - 1 ≡ l.week - 1 = omega (arith, w.from-place.ensures) in
          let there : w.from-place.result - 1 < length openings = omega (arith, inside.0, inside.1, c.loop-line.invariant.size, w.from-place.ensures) in
          let sum : w.quantity-then-line-item.result ≡ get_or openings (l.week - 1) 0 + l.quantity =
          omega (
            arith,
            w.quantity-then-line-item.ensures,
            get_or_read openings (w.from-place.result - 1) w.index.result.now there w.index.ensures 0,
            ap (λ i. get_or openings i 0) place,
            w.value.ensures.pieces,
            w.value-then-line-item.ensures.pieces,
          ) in
          rw w.openings-is
          (opened_add s item k lines openings l c.loop-line.invariant c.loop-line-test.true c.line-item.is w.from-place.result w.quantity-then-line-item.result w.if-line-item.true inside.0 inside.1 w.from-place.ensures sum)
      | else-line-item w ↦
          rw w.openings-is (opened_skip s item k lines openings l c.loop-line.invariant c.loop-line-test.true c.line-item.is w.if-line-item.false)
    ]

pub returns-clause-value : goal.returns-clause-value
returns-clause-value c =
    opened_all c.args.self.now c.args.item c.loop-line.line-index c.firm_of-line-items.result.now c.loop-line.openings.items c.loop-line.invariant c.loop-line-test.false
    c.firm_of-line-items.ensures
