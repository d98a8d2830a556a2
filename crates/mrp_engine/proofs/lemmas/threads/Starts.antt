-- Runs of snapshots, in their order, start one behind the other.
use Rattle.std.proofs.Common.{◌≡◌, ◌≢◌, ◌⊎◌, ◌∙◌, ◌<◌, ◌≤◌, ◌+◌, ℕ, zero, suc, List, [], ◌∷◌, ◌++◌, length, inl, inr, refl, ap, arith}
use Rattle.std.proofs.lemmas.Bool.{cases_order}
use Rattle.std.proofs.lemmas.List.{length-append}
use Rattle.std.specs.Prelude.{All, AllPairs}
use Rattle.std.specs.List.{slice_index_or}
use Rattle.mrp_turn.specs.declared.log.Entry.{Entry}
use Rattle.mrp_book.specs.declared.call.Call.{Call}
use Rattle.mrp_book.specs.declared.call.Call.TheVariants as call
use Rattle.mrp_book.specs.declared.reply.Reply.{Reply}
use Rattle.mrp_book.specs.Standing.{History}
use Rattle.mrp_engine.specs.event_core.Core.{Run}
use Rattle.mrp_board.proofs.Tests.{other-number, same-number}
use Rattle.mrp_engine.specs.event_core.Threads.{IsSnapshot}
use Rattle.mrp_engine.proofs.lemmas.threads.Entries.{StartIn}

apart : (i j : ℕ) → (i < j) ⊎ (j < i) → i ≢ j
apart i j (inl low) same = absurd (omega (arith, low, same))
apart i j (inr high) same = absurd (omega (arith, high, same))

-- an entry with this number is a snapshot, where the first entry has the number before it
pub record SnapshotIn (number : ℕ) (later : History) (front : ℕ) : Type 0 where
  pub before : History
  pub one : Entry Call Reply
  pub after : History
  pub place : later ≡ before ++ one ∷ after
  pub called : one.call ≡ call.Snapshot
  pub counted : front ≡ number + length before

pub snapshot-in : (h : History) (front : ℕ) → IsSnapshot h front → SnapshotIn 1 h front
snapshot-in h front is = record { before = is.is.before; one = _; after = is.is.after; place = is.is.place; called = refl; counted = omega (arith, is.is.counted) }

none-in : (number front : ℕ) → SnapshotIn number [] front → ⊥
none-in number front s =
    let n : 0 ≡ length s.before + suc (length s.after) = ap (λ (h : History). length h) s.place ∙ length-append s.before (s.one ∷ s.after) in
    absurd (omega (arith, n))

first-by : (number front : ℕ) (e : Entry Call Reply) (later before : History) (one : Entry Call Reply) (after : History) → e ∷ later ≡ before ++ one ∷ after → one.call ≡ call.Snapshot → front ≡ number + length before → front ≡ number
    → e.call ≡ call.Snapshot
first-by number front e later [] one after place called counted same = let s : e ≡ one = cc in ap (λ (x : Entry Call Reply). x.call) s ∙ called
first-by number front e later (x ∷ before) one after place called counted same = absurd (omega (arith, counted, same))

first-in : (number front : ℕ) (e : Entry Call Reply) (later : History) → SnapshotIn number (e ∷ later) front → front ≡ number → e.call ≡ call.Snapshot
first-in number front e later s same = first-by number front e later s.before s.one s.after s.place s.called s.counted same

later-by : (number front : ℕ) (e : Entry Call Reply) (later before : History) (one : Entry Call Reply) (after : History) → e ∷ later ≡ before ++ one ∷ after → one.call ≡ call.Snapshot → front ≡ number + length before → number < front
    → SnapshotIn (number + 1) later front
later-by number front e later [] one after place called counted above = absurd (omega (arith, counted, above))
later-by number front e later (x ∷ before) one after place called counted above =
    let rest : later ≡ before ++ one ∷ after = cc in
    record { before = before; one = one; after = after; place = rest; called = called; counted = omega (arith, counted) }

later-in : (number front : ℕ) (e : Entry Call Reply) (later : History) → SnapshotIn number (e ∷ later) front → number < front → SnapshotIn (number + 1) later front
later-in number front e later s above = later-by number front e later s.before s.one s.after s.place s.called s.counted above

below-other : (i j : ℕ) → i ≤ j → j ≢ i → i < j
below-other i j low other = elim (cases_order j i) [
  | inl same ↦ absurd (other same)
  | inr (inl less) ↦ absurd (omega (arith, less, low))
  | inr (inr more) ↦ more
]

from-first : (r : Run) (runs : List Run) (e : Entry Call Reply) (later : History) (number : ℕ) → number ≤ r.front → r.front ≢ number → SnapshotIn number (e ∷ later) r.front
    → All (λ (x : Run). SnapshotIn (number + 1) later x.front) runs → All (λ (x : Run). SnapshotIn (number + 1) later x.front) (r ∷ runs)
from-first r runs e later number low other here others zero d within = later-in number r.front e later here (below-other number r.front low other)
from-first r runs e later number low other here others (suc k) d within = others k d (omega (arith, within))

pub start-in : (number : ℕ) (later : History) (runs : List Run) → AllPairs (λ (a b : Run). a.front < b.front) runs → All (λ (r : Run). SnapshotIn number later r.front) runs → StartIn number later runs
start-in number [] [] rise all = tt
start-in number [] (r ∷ runs) rise all = none-in number r.front (all 0 r (omega arith))
start-in number (e ∷ later) [] rise all = tt
start-in number (e ∷ later) (r ∷ runs) rise all =
    let here : SnapshotIn number (e ∷ later) r.front = all 0 r (omega arith) in
    let low : number ≤ r.front = omega (arith, here.counted) in
    let others : All (λ (x : Run). SnapshotIn (number + 1) later x.front) runs =
    (λ k d within. let up : r.front < (slice_index_or runs k d).front = rise 0 (suc k) d (omega arith) (omega (arith, within)) in
    later-in number _ e later (all (suc k) d (omega (arith, within))) (omega (arith, low, up))) in
    elim (cases_order r.front number) [
      | inl same ↦ inl (
        same-number r.front number same,
        same,
        first-in number r.front e later here same,
        start-in (number + 1) later runs (λ i j d below within. rise (suc i) (suc j) d (omega (arith, below)) (omega (arith, within))) others,
      )
      | inr other ↦ inr (
        other-number r.front number (apart r.front number other),
        start-in (number + 1) later (r ∷ runs) rise (from-first r runs e later number low (apart r.front number other) here others),
      )
    ]
