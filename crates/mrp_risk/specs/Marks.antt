-- Orders are marked with the latest of the late orders that they lead to.
use Rattle.std.specs.Prelude.{ℕ, ◌≡◌, ◌⊎◌, ◌+◌, ◌≤◌, ◌<◌, List, [], ◌∷◌, ◌++◌, Option, Some, None, length, replicate, slice_index, slice_index_or, slice_set, sum_by}
use Rattle.mrp_risk.specs.declared.peg.Need.{Need}
use Rattle.mrp_risk.specs.declared.peg.Need.TheVariants.{Booking, Order, Other}
use Rattle.mrp_risk.specs.declared.peg.Peg.{Peg}
use Rattle.mrp_risk.specs.declared.marking.Marking.{Marking}
use Rattle.mrp_risk.specs.Chains.{IsServed, LeadsTo, IsLatest, weeks_late}

abbrev pub mark_at : List (Option ℕ) → ℕ → Option ℕ
mark_at marks order = slice_index_or marks order None

abbrev pub IsMarked : List (Option ℕ) → ℕ → Type 0
IsMarked marks order = (late : ℕ) × (mark_at marks order ≡ Some late)

-- a mark is the latest order that its order leads to; without a mark it leads to no late one
pub record AreMarks (lateness : List ℕ) (pegs : List Peg) (marks : List (Option ℕ)) : Type 0 where
  pub size : length marks ≡ length lateness
  pub marked : (order late : ℕ) → mark_at marks order ≡ Some late → IsLatest lateness (LeadsTo pegs order) late
  pub unmarked : (order other : ℕ) → mark_at marks order ≡ None → LeadsTo pegs order other → weeks_late lateness other ≡ 0

abbrev pub one_if_unmarked : Option ℕ → ℕ
one_if_unmarked None = 1
one_if_unmarked (Some late) = 0

-- the number of orders that are not marked
abbrev pub unmarked : List (Option ℕ) → ℕ
unmarked marks = sum_by one_if_unmarked marks

-- all orders that need pieces of an order are marked
abbrev pub HasPassed : List Peg → List (Option ℕ) → ℕ → Type 0
HasPassed pegs marks order = (parent : ℕ) → IsServed pegs (Order parent) order → IsMarked marks parent

-- nothing is marked
pub record IsNew (orders : ℕ) (m : Marking) : Type 0 where
  pub marks : m.marks.items ≡ replicate orders None
  pub queue : m.queue.items ≡ []
  pub passed : m.passed ≡ 0

-- the queue has the marked orders, and the first of them have passed their mark on
pub record IsQueue (pegs : List Peg) (m : Marking) : Type 0 where
  pub queued : (order : ℕ) → IsMarked m.marks.items order → (k : ℕ) × (k < length m.queue.items) × (slice_index m.queue.items k ≡ order)
  pub marked : (k : ℕ) → k < length m.queue.items → IsMarked m.marks.items (slice_index m.queue.items k)
  pub work : unmarked m.marks.items + length m.queue.items ≡ length m.marks.items
  pub within : m.passed ≤ length m.queue.items
  pub passed : (k : ℕ) → k < m.passed → HasPassed pegs m.marks.items (slice_index m.queue.items k)

-- while a late order spreads its mark, those that are to pass theirs on have its, and lead to it
pub record IsRound (pegs : List Peg) (late : ℕ) (m : Marking) : Type 0 where
  pub queue : IsQueue pegs m
  pub own : (k : ℕ) → m.passed ≤ k → k < length m.queue.items
      → (mark_at m.marks.items (slice_index m.queue.items k) ≡ Some late) × LeadsTo pegs (slice_index m.queue.items k) late

-- marks stay, and new ones are those of a late order, on orders that lead to it
pub record Grows (pegs : List Peg) (late : ℕ) (old new : Marking) : Type 0 where
  pub size : length new.marks.items ≡ length old.marks.items
  pub kept : (order other : ℕ) → mark_at old.marks.items order ≡ Some other → mark_at new.marks.items order ≡ Some other
  pub own : (order other : ℕ) → mark_at new.marks.items order ≡ Some other
      → (mark_at old.marks.items order ≡ Some other) ⊎ ((mark_at old.marks.items order ≡ None) × (other ≡ late) × LeadsTo pegs order late)
  pub longer : length old.queue.items ≤ length new.queue.items
  pub queue : (k : ℕ) → k < length old.queue.items → slice_index new.queue.items k ≡ slice_index old.queue.items k

-- an order is marked
pub record Marks (old new : Marking) (order late : ℕ) : Type 0 where
  pub marks : new.marks.items ≡ slice_set old.marks.items order (Some late)
  pub queue : new.queue.items ≡ old.queue.items ++ (order ∷ [])
  pub passed : new.passed ≡ old.passed

-- an order is marked if it was not
abbrev pub MarksNew : Marking → Marking → ℕ → ℕ → Type 0
MarksNew old new order late = (IsMarked old.marks.items order × (new ≡ old)) ⊎ ((mark_at old.marks.items order ≡ None) × Marks old new order late)

-- the order that a need is, if it is one, is marked if it was not
abbrev pub MarksNeed : Marking → Marking → Need → ℕ → Type 0
MarksNeed old new (Order order) late = MarksNew old new order late
MarksNeed old new (Booking booking) late = new ≡ old
MarksNeed old new Other late = new ≡ old
