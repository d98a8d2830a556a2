use Rattle.std.proofs.Common.{◌∙◌, ◌+◌, ◌≤◌, ap, drop, length, List, ℕ, subst, sym}
use Rattle.std.specs.Prelude.{slice_range}
use Rattle.mrp_lines.specs.Lines.{ArePlain, IsKnown}
use Rattle.mrp_lines.proofs.Windows.{advance-le, plain-after, range-drop}
use Rattle.mrp_lines.proofs.window.Window.advance.Goals as goal

pub are_still_plain-self-inside-requires : goal.are_still_plain-self-inside-requires
are_still_plain-self-inside-requires c known =
    let w = c.self.inside in
    let le = advance-le w.start w.end c.args.count w.is_plain w.buffer.items c.self.invariant (subst (λ l. c.args.count ≤ length l) (sym c.self.view_is) c.requires) in
    subst (λ (b : List ℕ). ArePlain (slice_range b (w.start + c.args.count) w.end)) (sym c.as_slice.ensures.value) (plain-after w.start w.end c.args.count w.is_plain w.buffer.items c.self.invariant le known)

pub invariant_of-self : goal.invariant_of-self
invariant_of-self c =
    let w = c.self.inside in
    let still = c.are_still_plain-self-inside in record {
      ordered = advance-le w.start w.end c.args.count w.is_plain w.buffer.items c.self.invariant (subst (λ l. c.args.count ≤ length l) (sym c.self.view_is) c.requires);
      inside = c.self.invariant.inside;
      room = c.self.invariant.room;
      known = subst (λ (b : List ℕ). IsKnown still.result (slice_range b (w.start + c.args.count) w.end)) c.as_slice.ensures.value still.ensures;
    }

pub returns : goal.returns
returns c =
    let w = c.self.inside in
    range-drop w.buffer.items w.start w.end c.args.count (advance-le w.start w.end c.args.count w.is_plain w.buffer.items c.self.invariant (subst (λ l. c.args.count ≤ length l) (sym c.self.view_is) c.requires)) ∙ ap (drop c.args.count) c.self.view_is
