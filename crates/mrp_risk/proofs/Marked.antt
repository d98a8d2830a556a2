-- How marks spread.
use Rattle.std.proofs.Common.{◌≡◌, ◌⊎◌, inl, inr, ℕ, zero, suc, ◌+◌, ◌<◌, ◌≤◌, List, [], ◌∷◌, length, refl, sym, ap, subst, ◌∙◌, arith}
use Rattle.std.specs.Prelude.{Option, Some, None, replicate, slice_index}
use Rattle.std.proofs.lemmas.Bool.{cases_eq, cases_lt}
use Rattle.std.proofs.lemmas.List.{get_or-replicate, get_or-set_same, get_or-set_other, length-set, length-append, length-replicate, get_or_push, get_or_append_left, get_or_past}
use Rattle.std.proofs.lemmas.List.Folds.{sum_by-replicate}
use Rattle.std.proofs.lemmas.List.Sums.{sum_by-set}
use Rattle.std.proofs.lemmas.Option.{none-some, same_Some}
use Rattle.mrp_risk.specs.declared.late.Late.{Late}
use Rattle.mrp_risk.specs.declared.marking.Marking.{Marking}
use Rattle.mrp_risk.specs.declared.peg.Need.{Need}
use Rattle.mrp_risk.specs.declared.peg.Need.TheVariants.{Booking, Order, Other}
use Rattle.mrp_risk.specs.declared.peg.Peg.{Peg}
use Rattle.mrp_risk.specs.Chains.{IsServed, IsWithin, Chain, LeadsTo, ComesFirst, IsLatest, weeks_late}
use Rattle.mrp_risk.specs.Late.{row_at, AreLateOrders}
use Rattle.mrp_risk.specs.Marks.{mark_at, IsMarked, AreMarks, HasPassed, IsNew, IsQueue, IsRound, Grows, Marks, MarksNeed, MarksNew, one_if_unmarked, unmarked}

-- an order has a mark or not
abbrev pub IsKnown : Option ℕ → Type 0
IsKnown mark = (mark ≡ None) ⊎ ((late : ℕ) × (mark ≡ Some late))

pub known : (mark : Option ℕ) → IsKnown mark
known None = inl refl
known (Some late) = inr (late, refl)

-- what is marked is an order
pub marked-inside : (marks : List (Option ℕ)) (order : ℕ) → IsMarked marks order → order < length marks
marked-inside marks order (late, is) = by (cases_lt order (length marks))
  where
    by : (order < length marks) ⊎ (length marks ≤ order) → order < length marks
    by (inl inside) = inside
    by (inr past) = absurd (none-some late (sym (get_or_past marks order None past) ∙ is))

-- Marks that stay.

pub grows-refl : (pegs : List Peg) (late : ℕ) (m : Marking) → Grows pegs late m m
grows-refl pegs late m = record {
  size = refl;
  kept = λ order other is. is;
  own = λ order other is. inl is;
  longer = omega arith;
  queue = λ k below. refl;
}

pub grows-on : (pegs : List Peg) (late : ℕ) (a b c : Marking) → Grows pegs late a b → Grows pegs late b c → Grows pegs late a c
grows-on pegs late a b c f g = record {
  size = g.size ∙ f.size;
  kept = λ order other is. g.kept order other (f.kept order other is);
  own = λ order other is. from order other (g.own order other is);
  longer = omega (arith, f.longer, g.longer);
  queue = λ k below. g.queue k (omega (arith, below, f.longer)) ∙ f.queue k below;
}
  where
    from : (order other : ℕ) → (mark_at b.marks.items order ≡ Some other) ⊎ ((mark_at b.marks.items order ≡ None) × (other ≡ late) × LeadsTo pegs order late)
        → (mark_at a.marks.items order ≡ Some other) ⊎ ((mark_at a.marks.items order ≡ None) × (other ≡ late) × LeadsTo pegs order late)
    from order other (inl is) = f.own order other is
    from order other (inr (none, same, leads)) = by (known (mark_at a.marks.items order))
      where
        by : IsKnown (mark_at a.marks.items order) → (mark_at a.marks.items order ≡ Some other) ⊎ ((mark_at a.marks.items order ≡ None) × (other ≡ late) × LeadsTo pegs order late)
        by (inl free) = inr (free, same, leads)
        by (inr (mark, is)) = absurd (none-some mark (sym none ∙ f.kept order mark is))

pub marked-on : (pegs : List Peg) (late : ℕ) (a b : Marking) → Grows pegs late a b → (order : ℕ) → IsMarked a.marks.items order → IsMarked b.marks.items order
marked-on pegs late a b g order (mark, is) = (mark, g.kept order mark is)

-- One more mark.

module _ (pegs : List Peg) (order late : ℕ) (s t : Marking) (free : mark_at s.marks.items order ≡ None) (m : Marks s t order late) (inside : order < length s.marks.items) where
  put : mark_at t.marks.items order ≡ Some late
  put = ap (λ (marks : List (Option ℕ)). mark_at marks order) m.marks ∙ get_or-set_same s.marks.items order (Some late) None inside

  apart : (one : ℕ) → (one ≡ order → ⊥) → mark_at t.marks.items one ≡ mark_at s.marks.items one
  apart one other = ap (λ (marks : List (Option ℕ)). mark_at marks one) m.marks ∙ get_or-set_other s.marks.items order one (Some late) None other

  kept : (one mark : ℕ) → mark_at s.marks.items one ≡ Some mark → mark_at t.marks.items one ≡ Some mark
  kept one mark is = by (cases_eq one order)
    where
      by : (one ≡ order) ⊎ (one ≡ order → ⊥) → mark_at t.marks.items one ≡ Some mark
      by (inl same) = absurd (none-some mark (sym free ∙ ap (mark_at s.marks.items) (sym same) ∙ is))
      by (inr other) = apart one other ∙ is

  stays : (one : ℕ) → IsMarked s.marks.items one → IsMarked t.marks.items one
  stays one (mark, is) = (mark, kept one mark is)

  longer : length t.queue.items ≡ length s.queue.items + 1
  longer = ap length m.queue ∙ length-append s.queue.items (order ∷ [])

  front : (k : ℕ) → k < length s.queue.items → slice_index t.queue.items k ≡ slice_index s.queue.items k
  front k below = ap (λ (q : List ℕ). slice_index q k) m.queue ∙ get_or_append_left s.queue.items (order ∷ []) 0 k below

  end : (k : ℕ) → length s.queue.items ≡ k → slice_index t.queue.items k ≡ order
  end k is = ap (λ (q : List ℕ). slice_index q k) m.queue ∙ get_or_push s.queue.items order 0 k is

  new-grows : LeadsTo pegs order late → Grows pegs late s t
  new-grows leads = record {
    size = ap length m.marks ∙ length-set s.marks.items order (Some late);
    kept = kept;
    own = λ one mark is. own one mark is (cases_eq one order);
    longer = omega (arith, longer);
    queue = front;
  }
    where
      own : (one mark : ℕ) → mark_at t.marks.items one ≡ Some mark → (one ≡ order) ⊎ (one ≡ order → ⊥)
          → (mark_at s.marks.items one ≡ Some mark) ⊎ ((mark_at s.marks.items one ≡ None) × (mark ≡ late) × LeadsTo pegs one late)
      own one mark is (inl same) =
          inr (ap (mark_at s.marks.items) same ∙ free, same_Some mark late (sym is ∙ ap (mark_at t.marks.items) same ∙ put), subst (λ (o : ℕ). LeadsTo pegs o late) (sym same) leads)
      own one mark is (inr other) = inl (sym (apart one other) ∙ is)

  new-queue : IsQueue pegs s → IsQueue pegs t
  new-queue q = record {
    queued = λ one marked. queued one marked (cases_eq one order);
    marked = λ k below. marked k (cases_lt k (length s.queue.items)) (omega (arith, below, longer));
    work = rw m.marks (omega (arith, longer, q.work, length-set s.marks.items order (Some late), sum_by-set one_if_unmarked s.marks.items order (Some late) None inside, ap one_if_unmarked free));
    within = omega (arith, q.within, longer, m.passed);
    passed = λ k below parent served. passed k (omega (arith, below, m.passed)) parent served;
  }
    where
      queued : (one : ℕ) → IsMarked t.marks.items one → (one ≡ order) ⊎ (one ≡ order → ⊥) → (k : ℕ) × (k < length t.queue.items) × (slice_index t.queue.items k ≡ one)
      queued one marked (inl same) = (length s.queue.items, omega (arith, longer), end (length s.queue.items) refl ∙ sym same)
      queued one (mark, is) (inr other) =
          let (k, below, there) = q.queued one (mark, sym (apart one other) ∙ is) in
          (k, omega (arith, below, longer), front k below ∙ there)

      marked : (k : ℕ) → (k < length s.queue.items) ⊎ (length s.queue.items ≤ k) → k ≤ length s.queue.items → IsMarked t.marks.items (slice_index t.queue.items k)
      marked k (inl less) most = subst (IsMarked t.marks.items) (sym (front k less)) (stays (slice_index s.queue.items k) (q.marked k less))
      marked k (inr least) most = subst (IsMarked t.marks.items) (sym (end k (omega (arith, least, most)))) (late, put)

      passed : (k : ℕ) → k < s.passed → HasPassed pegs t.marks.items (slice_index t.queue.items k)
      passed k below parent served =
          let less : k < length s.queue.items = omega (arith, below, q.within) in
          stays parent (q.passed k below parent (subst (λ (o : ℕ). IsServed pegs (Order parent) o) (front k less) served))

  new-round : LeadsTo pegs order late → IsRound pegs late s → IsRound pegs late t
  new-round leads r = record {
    queue = new-queue r.queue;
    own = λ k least below. own k (omega (arith, least, m.passed)) (cases_lt k (length s.queue.items)) (omega (arith, below, longer));
  }
    where
      own : (k : ℕ) → s.passed ≤ k → (k < length s.queue.items) ⊎ (length s.queue.items ≤ k) → k ≤ length s.queue.items
          → (mark_at t.marks.items (slice_index t.queue.items k) ≡ Some late) × LeadsTo pegs (slice_index t.queue.items k) late
      own k least (inl less) most =
          let (is, far) = r.own k least less in
          (ap (mark_at t.marks.items) (front k less) ∙ kept (slice_index s.queue.items k) late is, subst (λ (o : ℕ). LeadsTo pegs o late) (sym (front k less)) far)
      own k least (inr past) most =
          let here = end k (omega (arith, past, most)) in
          (ap (mark_at t.marks.items) here ∙ put, subst (λ (o : ℕ). LeadsTo pegs o late) (sym here) leads)

-- a chain that begins with one more peg
pub leads-up : (pegs : List Peg) (parent order late : ℕ) → IsServed pegs (Order parent) order → LeadsTo pegs order late → LeadsTo pegs parent late
leads-up pegs parent order late served (n, chain) = (suc n, (order, served, chain))

-- what marking a need gives
pub record IsMore (pegs : List Peg) (need : Need) (late : ℕ) (s t : Marking) : Type 0 where
  pub round : IsRound pegs late t
  pub grows : Grows pegs late s t
  pub passed : t.passed ≡ s.passed
  pub marked : (order : ℕ) → need ≡ Order order → IsMarked t.marks.items order

order-is : (a b : ℕ) → ◌≡◌ {A = Need} (Order a) (Order b) → a ≡ b
order-is a b is = cc

pub marks-new : (pegs : List Peg) (order late : ℕ) (s t : Marking) → MarksNew s t order late → order < length s.marks.items → LeadsTo pegs order late → IsRound pegs late s → IsMore pegs (Order order) late s t
marks-new pegs order late s t (inl (marked, same)) inside leads r =
    subst (λ (m : Marking). IsMore pegs (Order order) late s m) (sym same)
    (record { round = r; grows = grows-refl pegs late s; passed = refl; marked = λ one is. subst (IsMarked s.marks.items) (order-is order one is) marked })
marks-new pegs order late s t (inr (free, m)) inside leads r = record {
  round = new-round pegs order late s t free m inside leads r;
  grows = new-grows pegs order late s t free m inside leads;
  passed = m.passed;
  marked = λ one is. subst (IsMarked t.marks.items) (order-is order one is) (late, put pegs order late s t free m inside);
}

no-order : (need : Need) (s t : Marking) (pegs : List Peg) (late : ℕ) → t ≡ s → ((order : ℕ) → need ≡ Order order → ⊥) → IsRound pegs late s → IsMore pegs need late s t
no-order need s t pegs late same none r =
    subst (λ (m : Marking). IsMore pegs need late s m) (sym same) (record { round = r; grows = grows-refl pegs late s; passed = refl; marked = λ order is. absurd (none order is) })

pub marks-need : (pegs : List Peg) (need : Need) (late : ℕ) (s t : Marking) → MarksNeed s t need late → IsWithin (length s.marks.items) need → ((order : ℕ) → need ≡ Order order → LeadsTo pegs order late)
    → IsRound pegs late s → IsMore pegs need late s t
marks-need pegs (Order order) late s t m inside leads r = marks-new pegs order late s t m inside (leads order refl) r
marks-need pegs (Booking booking) late s t m inside leads r = no-order (Booking booking) s t pegs late m (λ order is. cc) r
marks-need pegs Other late s t m inside leads r = no-order Other s t pegs late m (λ order is. cc) r

-- Rounds.

-- a late order may begin its round once all others have passed their mark on
pub round-begins : (pegs : List Peg) (late : ℕ) (m : Marking) → IsQueue pegs m → m.passed ≡ length m.queue.items → IsRound pegs late m
round-begins pegs late m q all = record { queue = q; own = λ k least below. absurd (omega (arith, least, below, all)) }

-- one more order has passed its mark on
pub round-next : (pegs : List Peg) (late : ℕ) (m n : Marking) → n ≡ record m { passed = m.passed + 1 } → IsRound pegs late m → m.passed < length m.queue.items
    → HasPassed pegs m.marks.items (slice_index m.queue.items m.passed) → IsRound pegs late n
round-next pegs late m n is r below here = subst (IsRound pegs late) (sym is) (record {
  queue = record {
    queued = r.queue.queued;
    marked = r.queue.marked;
    work = r.queue.work;
    within = omega (arith, below);
    passed = λ k less. passed k (cases_lt k m.passed) (omega (arith, less));
  };
  own = λ k least inside. r.own k (omega (arith, least)) inside;
})
  where
    passed : (k : ℕ) → (k < m.passed) ⊎ (m.passed ≤ k) → k ≤ m.passed → HasPassed pegs m.marks.items (slice_index m.queue.items k)
    passed k (inl less) most = r.queue.passed k less
    passed k (inr least) most =
        let same : m.passed ≡ k = omega (arith, least, most) in
        subst (λ (j : ℕ). HasPassed pegs m.marks.items (slice_index m.queue.items j)) same here

pub grows-next : (pegs : List Peg) (late : ℕ) (a m n : Marking) → n ≡ record m { passed = m.passed + 1 } → Grows pegs late a m → Grows pegs late a n
grows-next pegs late a m n is g =
    subst (Grows pegs late a) (sym is) (record { size = g.size; kept = g.kept; own = g.own; longer = g.longer; queue = g.queue })

-- the queue is no longer than there are orders
pub queue-within : (pegs : List Peg) (m : Marking) → IsQueue pegs m → length m.queue.items ≤ length m.marks.items
queue-within pegs m q = omega (arith, q.work)

-- The late orders, one after the other.

-- the first of the late orders have spread their marks
pub record AreSpread (lateness : List ℕ) (pegs : List Peg) (rows : List Late) (end : ℕ) (m : Marking) : Type 0 where
  pub size : length m.marks.items ≡ length lateness
  pub queue : IsQueue pegs m
  pub all : m.passed ≡ length m.queue.items
  pub latest : (order late : ℕ) → mark_at m.marks.items order ≡ Some late → IsLatest lateness (LeadsTo pegs order) late
  pub done : (k : ℕ) → k < end → IsMarked m.marks.items (row_at rows k).order

none-marked : (orders order : ℕ) (marks : List (Option ℕ)) → marks ≡ replicate orders None → IsMarked marks order → ⊥
none-marked orders order marks is (late, mark) = by (cases_lt order orders)
  where
    read : mark_at marks order ≡ mark_at (replicate orders None) order
    read = ap (λ (ms : List (Option ℕ)). mark_at ms order) is

    by : (order < orders) ⊎ (orders ≤ order) → ⊥
    by (inl less) = none-some late (sym (read ∙ get_or-replicate orders order None None less) ∙ mark)
    by (inr past) = none-some late (sym (read ∙ get_or_past (replicate orders None) order None (omega (arith, past, length-replicate {A = Option ℕ} orders None))) ∙ mark)

pub none-spread : (lateness : List ℕ) (pegs : List Peg) (rows : List Late) (m : Marking) → IsNew (length lateness) m → AreSpread lateness pegs rows 0 m
none-spread lateness pegs rows m new = record {
  size = ap length new.marks ∙ length-replicate (length lateness) None;
  queue = record {
    queued = λ order marked. absurd (none-marked (length lateness) order m.marks.items new.marks marked);
    marked = λ k below. absurd (omega (arith, below, ap length new.queue));
    work = omega (arith, ap unmarked new.marks, sum_by-replicate one_if_unmarked (length lateness) None, ap length new.queue, ap length new.marks, length-replicate {A = Option ℕ} (length lateness) None);
    within = omega (arith, new.passed);
    passed = λ k below. absurd (omega (arith, below, new.passed));
  };
  all = omega (arith, new.passed, ap length new.queue);
  latest = λ order late is. absurd (none-marked (length lateness) order m.marks.items new.marks (late, is));
  done = λ k below. absurd (omega (arith, below));
}

-- marks have passed up each chain
pub chain-marked : (pegs : List Peg) (m : Marking) → IsQueue pegs m → m.passed ≡ length m.queue.items → (n order last : ℕ) → Chain pegs n order last → IsMarked m.marks.items last → IsMarked m.marks.items order
chain-marked pegs m q all zero order last same marked = subst (IsMarked m.marks.items) (sym same) marked
chain-marked pegs m q all (suc n) order last (next, served, chain) marked =
    let (k, below, there) = q.queued next (chain-marked pegs m q all n next last chain marked) in
    q.passed k (omega (arith, below, all)) order (subst (λ (o : ℕ). IsServed pegs (Order order) o) (sym there) served)

-- what is late is an order
pub late-inside : (lateness : List ℕ) (order : ℕ) → 0 < weeks_late lateness order → order < length lateness
late-inside lateness order late = by (cases_lt order (length lateness))
  where
    by : (order < length lateness) ⊎ (length lateness ≤ order) → order < length lateness
    by (inl less) = less
    by (inr past) = absurd (omega (arith, late, get_or_past lateness order 0 past))

module _ (lateness : List ℕ) (pegs : List Peg) (rows : List Late) (late : AreLateOrders lateness rows) (i : ℕ) (inside : i < length rows) (s : Marking) (are : AreSpread lateness pegs rows i s) where
  abbrev now : ℕ
  now = (row_at rows i).order

  now-late : 0 < weeks_late lateness now
  now-late = omega (arith, (late.each.late i inside).0, late.each.weeks i inside)

  -- an order that stands before this one in the list is marked
  listed : (other : ℕ) → 0 < weeks_late lateness other → ((k : ℕ) → i ≤ k → k < length rows → (row_at rows k).order ≡ other → ⊥) → IsMarked s.marks.items other
  listed other some none =
      let (k, below, is) = late.each.all other (late-inside lateness other some) some in
      by k below is (cases_lt k i)
    where
      by : (k : ℕ) → k < length rows → (row_at rows k).order ≡ other → (k < i) ⊎ (i ≤ k) → IsMarked s.marks.items other
      by k below is (inl less) = subst (IsMarked s.marks.items) is (are.done k less)
      by k below is (inr least) = absurd (none k least below is)

  -- an order with no mark leads to none that comes before this one
  first : (order other : ℕ) → mark_at s.marks.items order ≡ None → LeadsTo pegs order other → ComesFirst lateness now other
  first order other free (n, chain) = record { later = later (cases_lt (weeks_late lateness now) (weeks_late lateness other)); lesser = λ same. lesser same (cases_lt other now) }
    where
      clash : IsMarked s.marks.items other → ⊥
      clash marked =
          let (mark, is) = chain-marked pegs s are.queue are.all n order other chain marked in
          none-some mark (sym free ∙ is)

      later : (weeks_late lateness now < weeks_late lateness other) ⊎ (weeks_late lateness other ≤ weeks_late lateness now) → weeks_late lateness other ≤ weeks_late lateness now
      later (inr most) = most
      later (inl more) = absurd (clash (listed other (omega (arith, more)) (λ k least below is. omega (arith, more, (late.falling i k least below).later, ap (weeks_late lateness) is))))

      lesser : weeks_late lateness other ≡ weeks_late lateness now → (other < now) ⊎ (now ≤ other) → now ≤ other
      lesser same (inr least) = least
      lesser same (inl less) =
          absurd (clash (listed other (omega (arith, same, now-late)) (λ k least below is.
          let as-late : weeks_late lateness (row_at rows k).order ≡ weeks_late lateness now = ap (weeks_late lateness) is ∙ same in
          omega (arith, less, is, (late.falling i k least below).lesser as-late))))

  pub spread-more : (t : Marking) → IsQueue pegs t → t.passed ≡ length t.queue.items → Grows pegs now s t → IsMarked t.marks.items now → AreSpread lateness pegs rows (i + 1) t
  spread-more t q all g marked = record {
    size = g.size ∙ are.size;
    queue = q;
    all = all;
    latest = λ order mark is. latest order mark (g.own order mark is);
    done = λ k below. done k (cases_lt k i) (omega (arith, below));
  }
    where
      latest : (order mark : ℕ) → (mark_at s.marks.items order ≡ Some mark) ⊎ ((mark_at s.marks.items order ≡ None) × (mark ≡ now) × LeadsTo pegs order now) → IsLatest lateness (LeadsTo pegs order) mark
      latest order mark (inl is) = are.latest order mark is
      latest order mark (inr (free, same, leads)) =
          subst (IsLatest lateness (LeadsTo pegs order)) (sym same) (record { late = now-late; among = leads; first = λ other far. first order other free far })

      done : (k : ℕ) → (k < i) ⊎ (i ≤ k) → k ≤ i → IsMarked t.marks.items (row_at rows k).order
      done k (inl less) most = marked-on pegs now s t g (row_at rows k).order (are.done k less)
      done k (inr least) most =
          let same : i ≡ k = omega (arith, least, most) in
          subst (λ (j : ℕ). IsMarked t.marks.items (row_at rows j).order) same marked

-- all late orders have spread their marks
pub marks-are : (lateness : List ℕ) (pegs : List Peg) (rows : List Late) (end : ℕ) (m : Marking) → AreLateOrders lateness rows → length rows ≤ end → AreSpread lateness pegs rows end m → AreMarks lateness pegs m.marks.items
marks-are lateness pegs rows end m late past are = record {
  size = are.size;
  marked = are.latest;
  unmarked = λ order other free leads. none order other free leads (cases_lt 0 (weeks_late lateness other));
}
  where
    none : (order other : ℕ) → mark_at m.marks.items order ≡ None → LeadsTo pegs order other → (0 < weeks_late lateness other) ⊎ (weeks_late lateness other ≤ 0) → weeks_late lateness other ≡ 0
    none order other free leads (inr most) = omega (arith, most)
    none order other free (n, chain) (inl some) =
        let (k, below, is) = late.each.all other (late-inside lateness other some) some in
        let marked : IsMarked m.marks.items other = subst (IsMarked m.marks.items) is (are.done k (omega (arith, below, past))) in
        let (mark, there) = chain-marked pegs m are.queue are.all n order other chain marked in
        absurd (none-some mark (sym free ∙ there))
