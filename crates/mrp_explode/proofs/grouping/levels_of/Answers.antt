use Rattle.std.proofs.Common.{◌≡◌, ◌∙◌, ℕ, ap, subst, length, arith}
use Rattle.mrp_tables.specs.Tables.{Tables}
use Rattle.mrp_tables.specs.declared.item.Item.{Item}
use Rattle.mrp_explode.proofs.LevelLists.{AreGrouped, depth-low, none-grouped, one-grouped, all-grouped}
use Rattle.mrp_explode.proofs.grouping.levels_of.Goals as goal

pub overflow_add-depth : goal.overflow_add-depth
overflow_add-depth c =
    let rows = ap (length {A = Item}) (c.items-count.ensures.rows ∙ ap (λ (t : Tables). t.items) c.tables.ensures.value) in
    omega (arith, depth-low c.args.shop.now c.depth.result c.tables.ensures.accepted c.depth.ensures, rows, c.items-count.ensures.count)

pub loop-item-init : goal.loop-item-init
loop-item-init c =
    none-grouped c.args.shop.now.tables.bills (length c.args.shop.now.tables.items) c.depth.result c.in_ok-levels.levels.items c.depth.ensures c.in_ok-levels.ensures.size c.in_ok-levels.ensures.empty

pub append-requires : goal.append-requires
append-requires c =
    let rows = ap (length {A = Item}) (c.items-count.ensures.rows ∙ ap (λ (t : Tables). t.items) c.tables.ensures.value) in
    c.loop-item.invariant.whole c.loop-item.item c.code.result (omega (arith, c.loop-item-test.true, rows)) c.code.ensures

pub loop-item-preserved : goal.loop-item-preserved
loop-item-preserved c =
    let rows = ap (length {A = Item}) (c.items-count.ensures.rows ∙ ap (λ (t : Tables). t.items) c.tables.ensures.value) in
    one-grouped c.args.shop.now.tables.bills (length c.args.shop.now.tables.items) c.loop-item.item c.code.result c.loop-item.levels.items c.append.new.lists.items
    (omega (arith, c.loop-item-test.true, rows)) c.code.ensures c.in_ok-append.ensures c.loop-item.invariant

pub returns : goal.returns
returns c =
    let s = c.args.shop.now in
    let rows = ap (length {A = Item}) (c.items-count.ensures.rows ∙ ap (λ (t : Tables). t.items) c.tables.ensures.value) in
    let end : c.loop-item.item ≡ length s.tables.items = omega (arith, c.loop-item-test.false, c.loop-item.auto.item-end, rows) in
    all-grouped s c.loop-item.levels.items c.tables.ensures.accepted
    (subst (λ (n : ℕ). AreGrouped s.tables.bills (length s.tables.items) n c.loop-item.levels.items) end c.loop-item.invariant)
