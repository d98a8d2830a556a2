-- What is in the range of the tables is a line, a spot or a wish of theirs.
use Rattle.std.proofs.Common.{◌≡◌, ◌<◌, ℕ, zero, suc, true, false, List, [], ◌∷◌, length, map, Ok, Result, arith}
use Rattle.std.specs.Prelude.{IsTrue}
use Rattle.std.specs.List.{slice_index_or}
use Rattle.std.proofs.lemmas.Bool.Decides.{nat_tests}
use Rattle.std.specs.Int.{IsInRange}
use Rattle.mrp_tables.specs.declared.item.Item.{Item}
use Rattle.mrp_tables.specs.Items.{is_master, is_master_at}
use Rattle.mrp_tables.specs.Tables.{Tables}
use Rattle.mrp_master.specs.declared.line.LineFault.{LineFault}
use Rattle.mrp_master.specs.declared.line.Line.{Line}
use Rattle.mrp_master.specs.declared.spot.Spot.{Spot}
use Rattle.mrp_master.specs.declared.wish.Wish.{Wish}
use Rattle.mrp_master.specs.Supply.{supply_of}
use Rattle.mrp_master.specs.Lines.{IsBookable, IsLine, IsSpot, IsWish, in_horizon, line_of, of_master, of_pieces, spot_of, wish_of}

module _ {X : Type 0} (t : Tables) (answer : Result X LineFault) where
  pub of_master-is : (item : ℕ) → item < length t.items → is_master_at t.items item ≡ true → of_master t item answer ≡ answer
  of_master-is item h m = grind (arith, nat_tests)

  pub in_horizon-is : (week : ℕ) → IsInRange 1 t.calendar.weeks week → in_horizon t week answer ≡ answer
  in_horizon-is week h = grind (arith, nat_tests)

  pub of_pieces-is : (quantity : ℕ) → IsBookable quantity → of_pieces quantity answer ≡ answer
  of_pieces-is quantity h = grind (arith, nat_tests)

module _ (t : Tables) (item : ℕ) (h : item < length t.items) (m : is_master_at t.items item ≡ true) where
  pub line_accepted : (week quantity : ℕ) → IsInRange 1 t.calendar.weeks week → IsBookable quantity
      → line_of t item week quantity ≡ Ok (record { item = item; week = week; quantity = quantity })
  line_accepted week quantity w q = grind (arith, nat_tests)

  pub spot_accepted : (week : ℕ) → IsInRange 1 t.calendar.weeks week → spot_of t item week ≡ Ok (record { item = item; week = week })
  spot_accepted week w = grind (arith, nat_tests)

  pub wish_accepted : (quantity : ℕ) → IsBookable quantity → wish_of t item quantity ≡ Ok (record { item = item; quantity = quantity })
  wish_accepted quantity q = grind (arith, nat_tests)

-- a master item of the supply is one of the tables
master_at : (items : List Item) (item : ℕ) → IsTrue (slice_index_or (map (λ i. is_master i.class) items) item false) → (item < length items) × (is_master_at items item ≡ true)
master_at [] zero h = absurd (cc)
master_at [] (suc item) h = absurd (cc)
master_at (i ∷ items) zero h = (omega arith, h)
master_at (i ∷ items) (suc item) h =
    let rest = master_at items item h in
    (omega (arith, rest.0), rest.1)

module _ (t : Tables) where
  -- a line, a spot or a wish of the supply is constructed as it is
  pub line_made : (l : Line) → IsLine (supply_of t) l → line_of t l.item l.week l.quantity ≡ Ok l
  line_made l is =
      let there = master_at t.items l.item is.item in
      line_accepted t l.item there.0 there.1 l.week l.quantity is.week is.quantity

  pub spot_made : (p : Spot) → IsSpot (supply_of t) p → spot_of t p.item p.week ≡ Ok p
  spot_made p is =
      let there = master_at t.items p.item is.item in
      spot_accepted t p.item there.0 there.1 p.week is.week

  pub wish_made : (w : Wish) → IsWish (supply_of t) w → wish_of t w.item w.quantity ≡ Ok w
  wish_made w is =
      let there = master_at t.items w.item is.item in
      wish_accepted t w.item there.0 there.1 w.quantity is.quantity
