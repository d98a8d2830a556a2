-- What holds of requirements and supplies that are matched piece by piece, and of the pegs of an item.
use Rattle.std.specs.Prelude.{ℕ, ◌≡◌, ◌≢◌, ◌≤◌, ◌<◌, ◌-◌, ◌&&◌, Bool, true, min, List, AllPairs, Contains, filter, sum_by, count_by}
use Rattle.std.specs.List.{range_with_len}
use Rattle.mrp_tables.specs.Facts.{NumbersRise, RowsRise}
use Rattle.mrp_item.specs.Inputs.{Inputs, item_at}
use Rattle.mrp_item.specs.Limits.{IsSized}
use Rattle.mrp_item.specs.Plan.{IsRanked, ItemPlan, Planned, outcome_of}
use Rattle.mrp_peg.specs.declared.peg.Need.{Need}
use Rattle.mrp_peg.specs.declared.peg.Peg.{Peg}
use Rattle.mrp_peg.specs.declared.peg.Cause.{Cause}
use Rattle.mrp_peg.specs.Causes.{IsTrace}
use Rattle.mrp_item.specs.declared.supplies.Supplied.{Supplied}
use Rattle.mrp_peg.specs.Pegging.{pegs_of, requirements, supplies}
use Rattle.mrp_peg.specs.Units.{Amount, is_for, matches, serves, spans, total, units}

-- between any requirements and any supplies as many pieces are matched as there are k for which the k-th required piece
-- belongs to those requirements and the k-th supplied piece to those supplies
abbrev pub MatchesAreUnits : Type 0
MatchesAreUnits = (test : Need → Bool) (other : Supplied → Bool) (needs : List (Amount Need)) (supplies : List (Amount Supplied))
    → sum_by (λ m. m.quantity) (filter (λ m. is_for test m.need && other m.supply) (matches needs supplies)) ≡ count_by (serves test other (units needs) (units supplies)) (range_with_len 0 (total needs))

-- the matches of any requirements add up to those of their pieces that are supplied
abbrev pub RequirementsAddUp : Type 0
RequirementsAddUp = (test : Need → Bool) (needs : List (Amount Need)) (supplies : List (Amount Supplied))
    → sum_by (λ m. m.quantity) (filter (λ m. is_for test m.need) (matches needs supplies)) ≡ sum_by (λ n. min n.past (total supplies) - n.first) (filter (λ n. test n.of) (spans needs))

-- the pegs of any requirements of an item add up to them
abbrev pub AddUpToRequirements : Inputs → ℕ → List Peg → Type 0
AddUpToRequirements s i pegs = (test : Need → Bool)
    → sum_by (λ g. g.quantity) (filter (λ g. is_for test g.need) pegs) ≡ sum_by (λ a. a.quantity) (filter (λ a. test a.of) (requirements s i))

-- the pegs of any supplies of an item, with their surplus, add up to them
abbrev pub AddUpToSupplies : Inputs → ℕ → List Peg → Type 0
AddUpToSupplies s i pegs = (test : Supplied → Bool)
    → sum_by (λ g. g.quantity) (filter (λ g. test g.supply) pegs) ≡ sum_by (λ a. a.quantity) (filter (λ a. test a.of) (supplies s i))

-- if an item's supplies cover its requirements, the pegs of any requirements have exactly their pieces
abbrev pub RequirementsArePegged : Type 0
RequirementsArePegged = (s : Inputs) (i : ℕ) → total (requirements s i) ≤ total (supplies s i) → AddUpToRequirements s i (pegs_of s i)

-- the pegs of any supplies of an item, with their surplus, have exactly their pieces
abbrev pub SuppliesArePegged : Type 0
SuppliesArePegged = (s : Inputs) (i : ℕ) → AddUpToSupplies s i (pegs_of s i)

-- the supplies of a planned item cover its requirements
abbrev pub RequirementsAreCovered : Type 0
RequirementsAreCovered = (s : Inputs) (i : ℕ) (code : ℕ → ℕ) (plan : ItemPlan) → IsRanked s code → outcome_of s i ≡ Planned plan → IsSized (item_at s i) → total (requirements s i) ≤ total (supplies s i)

-- if the numbers of the bookings and of the master schedule's rows rise, the needs of an item differ
abbrev pub NeedsDiffer : Type 0
NeedsDiffer = (s : Inputs) (i : ℕ) → AllPairs (λ a b. a.number < b.number) s.standing → RowsRise s.tables.master
    → AllPairs (λ a b. a.of ≢ b.of) (requirements s i)

-- if the numbers of the open receipts rise, the supplies of an item are of different sources
abbrev pub SuppliesDiffer : Type 0
SuppliesDiffer = (s : Inputs) (i : ℕ) → NumbersRise s.tables.receipts → AllPairs (λ a b. a.of ≢ b.of) (supplies s i)

-- a test that this value passes and no other
abbrev pub IsTestOf : {A : Type 0} → (A → Bool) → A → Type 0
IsTestOf {A} test x = (test x ≡ true) × ((y : A) → test y ≡ true → y ≡ x)

-- so the pegs of one requirement that supplies cover add up to it
abbrev pub NeedIsPegged : Type 0
NeedIsPegged = (s : Inputs) (i : ℕ) (test : Need → Bool) (a : Amount Need) → AllPairs (λ a b. a.number < b.number) s.standing → RowsRise s.tables.master → total (requirements s i) ≤ total (supplies s i)
    → Contains (requirements s i) a → IsTestOf test a.of → sum_by (λ g. g.quantity) (filter (λ g. is_for test g.need) (pegs_of s i)) ≡ a.quantity

-- and the pegs of one supply, with its surplus, add up to that supply
abbrev pub SupplyIsPegged : Type 0
SupplyIsPegged = (s : Inputs) (i : ℕ) (test : Supplied → Bool) (a : Amount Supplied) → NumbersRise s.tables.receipts
    → Contains (supplies s i) a → IsTestOf test a.of → sum_by (λ g. g.quantity) (filter (λ g. test g.supply) (pegs_of s i)) ≡ a.quantity

-- a requirement has one trace
abbrev pub OneTrace : Type 0
OneTrace = (s : Inputs) (n : Need) (one other : List Cause) → IsTrace s n one → IsTrace s n other → one ≡ other

-- and each cause is in it once
abbrev pub EachOnce : Type 0
EachOnce = (s : Inputs) (n : Need) (causes : List Cause) → IsTrace s n causes → AllPairs (λ c d. c ≢ d) causes
