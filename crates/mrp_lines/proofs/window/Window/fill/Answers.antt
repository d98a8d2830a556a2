use Rattle.std.proofs.Common.{◌≡◌, ◌∙◌, ◌+◌, ◌++◌, ◌≤◌, inl, inr, ap, arith, drop, length, List, ℕ, take}
use Rattle.std.specs.Prelude.{slice_range}
use Rattle.std.proofs.lemmas.Bool.{cases_lt}
use Rattle.mrp_lines.proofs.Windows.{keeps-front, keeps-more, more-full, more-room, more-size, moved-more, moved-same, moved-within}
use Rattle.mrp_lines.proofs.window.Window.fill.Goals as goal

pub invariant_of-self : goal.invariant_of-self
invariant_of-self g c =
    let w = c.self.inside in
    let moved = c.move_to_start-self-inside in
    let read = c.read_behind in
    moved-within w.start w.end moved.result w.is_plain w.buffer.items moved.new.buffer.items read.new.buffer.items c.self.invariant moved.ensures.count moved.ensures.long moved.ensures.moved read.ensures.long read.ensures.front

pub returns-in_err-count-clause-kept : goal.returns-in_err-count-clause-kept
returns-in_err-count-clause-kept g c =
    let w = c.self.inside in
    let moved = c.move_to_start-self-inside in
    let read = c.read_behind in
    let same : slice_range read.new.buffer.items 0 moved.result ≡ c.args.self.now =
    moved-same w.start w.end moved.result w.is_plain w.buffer.items moved.new.buffer.items read.new.buffer.items c.self.invariant moved.ensures.count moved.ensures.long moved.ensures.moved read.ensures.long read.ensures.front
    ∙ c.self.view_is in
    rw same (keeps-front (g.R.Read.remaining c.args.input.now) (g.R.Read.remaining read.new.input) c.args.self.now c.in_err-count.ensures.failed)

pub returns-clause-kept : goal.returns-clause-kept
returns-clause-kept g c =
    let w = c.self.inside in
    let moved = c.move_to_start-self-inside in
    let read = c.read_behind in
    let new = read.new.buffer.items in
    let n = c.in_ok-count.count in
    let same : slice_range new 0 (moved.result + n) ≡ c.args.self.now ++ take n (drop moved.result new) =
    moved-more w.start w.end moved.result w.is_plain w.buffer.items moved.new.buffer.items new c.self.invariant moved.ensures.count moved.ensures.long moved.ensures.moved read.ensures.long read.ensures.front n
    ∙ ap (λ (l : List ℕ). l ++ take n (drop moved.result new)) c.self.view_is in
    rw same (keeps-more (g.R.Read.remaining c.args.input.now) (g.R.Read.remaining read.new.input) c.args.self.now (take n (drop moved.result new)) c.in_ok-count.ensures.read)

pub returns-clause-more : goal.returns-clause-more
returns-clause-more g c =
    let w = c.self.inside in
    let moved = c.move_to_start-self-inside in
    let read = c.read_behind in
    let new = read.new.buffer.items in
    let n = c.in_ok-count.count in
    let fits : moved.result + n ≤ length new = omega (arith, c.in_ok-count.ensures.within, read.ensures.long) in record {
      bytes = take n (drop moved.result new);
      size = more-size w.start w.end moved.result w.is_plain w.buffer.items moved.new.buffer.items new c.self.invariant moved.ensures.count moved.ensures.long moved.ensures.moved read.ensures.long read.ensures.front n fits;
      behind =
          moved-more w.start w.end moved.result w.is_plain w.buffer.items moved.new.buffer.items new c.self.invariant moved.ensures.count moved.ensures.long moved.ensures.moved read.ensures.long read.ensures.front n
          ∙ ap (λ (l : List ℕ). l ++ take n (drop moved.result new)) c.self.view_is;
    }

pub returns-clause-room : goal.returns-clause-room
returns-clause-room g c =
    let w = c.self.inside in
    let moved = c.move_to_start-self-inside in
    let read = c.read_behind in
    let new = read.new.buffer.items in
    let n = c.in_ok-count.count in
    let fits : moved.result + n ≤ length new = omega (arith, c.in_ok-count.ensures.within, read.ensures.long) in
    more-room w.start w.end moved.result w.is_plain w.buffer.items moved.new.buffer.items new c.self.invariant moved.ensures.count moved.ensures.long moved.ensures.moved read.ensures.long read.ensures.front n fits

pub returns-clause-none : goal.returns-clause-none
returns-clause-none g c none =
    let w = c.self.inside in
    let moved = c.move_to_start-self-inside in
    let read = c.read_behind in
    let new = read.new.buffer.items in
    let n = c.in_ok-count.count in
    let fits : moved.result + n ≤ length new = omega (arith, c.in_ok-count.ensures.within, read.ensures.long) in
    elim (cases_lt moved.result (length moved.new.buffer.items)) [
      | inl within ↦ inr (c.in_ok-count.ensures.none none within)
      | inr full ↦
          let past : length new ≤ moved.result = omega (arith, read.ensures.long, full) in
          inl (more-full w.start w.end moved.result w.is_plain w.buffer.items moved.new.buffer.items new c.self.invariant moved.ensures.count moved.ensures.long moved.ensures.moved read.ensures.long read.ensures.front n fits past)
    ]
