use Rattle.std.proofs.Common.{◌≡◌, ◌≢◌, ◌≤◌, ◌⊎◌, ◌∙◌, ℕ, Bool, true, false, Result, Ok, Err, inl, inr, sym, arith}
use Rattle.std.specs.Prelude.{is_ok, not}
use Rattle.std.proofs.KnownBytes.{Keeps-trans}
use Rattle.std.specs.IoError.{error_kind}
use Rattle.std.specs.declared.io.Error.{Error}
use Rattle.mrp_rows.specs.Told.{HasRisenBy, counted_if, failures_of, greatest_count, has_failed, interrupted_of, is_interruption, was_interrupted}
use Rattle.mrp_rows.specs.declared.streams.TheConstants.{WRITE_TRIES}
use Rattle.mrp_journal.proofs.settling.flush.Goals as goal

-- a call that failed and was not counted as interrupted was counted as failed, unless no more interruptions can be counted
failed : (r : Result (Unit {0}) Error) (f f' i i' : ℕ) → is_ok r ≡ false → f' ≡ counted_if (has_failed r) f → i' ≡ counted_if (was_interrupted r) i → i' ≡ i → HasRisenBy 1 f f' ⊎ (greatest_count ≤ i')
failed (Ok done) f f' i i' err ef ei same = absurd cc
failed (Err e) f f' i i' err ef ei same = by (is_interruption (error_kind e)) ef ei
  where
    by : (b : Bool) → f' ≡ counted_if (not b) f → i' ≡ counted_if b i → HasRisenBy 1 f f' ⊎ (greatest_count ≤ i')
    by true ef ei = inr (omega arith)
    by false ef ei = inl (omega arith)

-- one that was counted as interrupted was not counted as failed
interrupted : (r : Result (Unit {0}) Error) (f f' i i' : ℕ) → f' ≡ counted_if (has_failed r) f → i' ≡ counted_if (was_interrupted r) i → i' ≢ i → (f' ≡ f) × HasRisenBy 1 i i'
interrupted (Ok done) f f' i i' ef ei other = absurd (other ei)
interrupted (Err e) f f' i i' ef ei other = by (is_interruption (error_kind e)) ef ei
  where
    by : (b : Bool) → f' ≡ counted_if (not b) f → i' ≡ counted_if b i → (f' ≡ f) × HasRisenBy 1 i i'
    by true ef ei = (ef, omega arith)
    by false ef ei = absurd (other ei)

-- a failure is one since the first call
since : (f₀ f f' i₀ i' : ℕ) → f ≡ f₀ → HasRisenBy 1 f f' ⊎ (greatest_count ≤ i') → HasRisenBy 1 f₀ f' ⊎ HasRisenBy WRITE_TRIES i₀ i'
since f₀ f f' i₀ i' same (inl risen) = inl (omega arith)
since f₀ f f' i₀ i' same (inr full) = inr (omega arith)

pub loop-preserved : goal.loop-preserved
loop-preserved g c =
    let other : interrupted_of c.flush.new.self ≢ interrupted_of c.loop.out = λ e. c.if-interrupted-before.false (c.interrupted.ensures ∙ e ∙ sym c.interrupted-before.ensures) in
    let counted : (failures_of c.flush.new.self ≡ failures_of c.loop.out) × HasRisenBy 1 (interrupted_of c.loop.out) (interrupted_of c.flush.new.self) =
    interrupted c.flush.result (failures_of c.loop.out) (failures_of c.flush.new.self) (interrupted_of c.loop.out) (interrupted_of c.flush.new.self) c.flush.ensures.failures c.flush.ensures.interrupted other in
    record {
      called = omega (arith, c.loop.invariant.called, c.flush.ensures.calls);
      same = Keeps-trans _ _ _ c.loop.invariant.same c.flush.ensures.bytes;
      failures = counted.0 ∙ c.loop.invariant.failures;
      risen = omega (arith, c.loop.invariant.risen, counted.1);
    }

pub returns-then-interrupted-before-clause-refused : goal.returns-then-interrupted-before-clause-refused
returns-then-interrupted-before-clause-refused g c =
    let same : interrupted_of c.flush.new.self ≡ interrupted_of c.loop.out = sym c.interrupted.ensures ∙ c.if-interrupted-before.true ∙ c.interrupted-before.ensures in
    since (failures_of c.args.out.now) (failures_of c.loop.out) (failures_of c.flush.new.self) (interrupted_of c.args.out.now) (interrupted_of c.flush.new.self) c.loop.invariant.failures
    (failed c.flush.result (failures_of c.loop.out) (failures_of c.flush.new.self) (interrupted_of c.loop.out) (interrupted_of c.flush.new.self) (sym c.is_ok.ensures.value ∙ c.if-is_ok.false) c.flush.ensures.failures c.flush.ensures.interrupted same)
