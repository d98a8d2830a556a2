use Rattle.std.proofs.Common.{◌≡◌, ◌∙◌, Bool, true, false, not, refl, sym, ap, arith, inl, inr, rules}
use Rattle.mrp_page.specs.Notes.{Noted, has_run}
use Rattle.mrp_page.specs.Spot.{is_end}
use Rattle.mrp_page.specs.declared.spot.Spot.{Spot}
use Rattle.mrp_page.proofs.Records.{kept-place}
use Rattle.mrp_page.proofs.read.read_day.Goals as goal

is-true : (b : Bool) → not b ≡ false → b ≡ true
is-true true e = refl
is-true false e = absurd cc

is-false : (b : Bool) → not b ≡ true → b ≡ false
is-false true e = absurd cc
is-false false e = refl

pub returns-in_err-notes-clause-wrong : goal.returns-in_err-notes-clause-wrong
returns-in_err-notes-clause-wrong g c shape text known = inl (c.in_err-notes.ensures.wrong (search rules) text known)

pub returns-then-not-is_end-clause-wrong : goal.returns-then-not-is_end-clause-wrong
returns-then-not-is_end-clause-wrong g c shape text known =
    let (records, are, kept) = c.in_ok-notes.ensures.noted text known in
    let ends : c.is_end.result ≡ false = first_of (search (c.if-not-is_end.true), search (is-false, c.if-not-is_end.true), grind (arith, c.if-not-is_end.true)) in
    inr (
      records,
      are,
      ap is_end (sym (kept-place c.args.items.now c.args.asked c.in_ok-notes.notes records kept)) ∙ ap (λ (s : Spot). is_end s.place) (sym c.spot-spot.ensures) ∙ sym c.is_end.ensures ∙ ends,
    )

pub returns-then-not-has_run-clause-run : goal.returns-then-not-has_run-clause-run
returns-then-not-has_run-clause-run g c none text known =
    let (records, are, kept) = c.in_ok-notes.ensures.noted text known in
    let lacks : c.has_run.result ≡ false = first_of (search (c.if-not-has_run.true), search (is-false, c.if-not-has_run.true), grind (arith, c.if-not-has_run.true)) in
    let ends : c.is_end.result ≡ true = first_of (search (c.if-not-is_end.false), search (is-true, c.if-not-is_end.false), grind (arith, c.if-not-is_end.false)) in (
      records,
      are,
      (
        ap is_end (sym (kept-place c.args.items.now c.args.asked c.in_ok-notes.notes records kept)) ∙ ap (λ (s : Spot). is_end s.place) (sym c.spot-spot.ensures) ∙ sym c.is_end.ensures ∙ ends,
        ap (λ (n : Noted). has_run c.args.asked n.spot.run) (sym kept) ∙ ap (λ (s : Spot). has_run c.args.asked s.run) (sym c.spot-spot.ensures) ∙ sym c.has_run.ensures ∙ lacks,
      ),
    )

pub returns-clause-kept : goal.returns-clause-kept
returns-clause-kept g c text known =
    let (records, are, kept) = c.in_ok-notes.ensures.noted text known in
    let ends : c.is_end.result ≡ true = first_of (search (c.if-not-is_end.false), search (is-true, c.if-not-is_end.false), grind (arith, c.if-not-is_end.false)) in
    let has : c.has_run.result ≡ true = first_of (search (c.if-not-has_run.false), search (is-true, c.if-not-has_run.false), grind (arith, c.if-not-has_run.false)) in (
      records,
      are,
      record {
        kept = kept;
        day = ap is_end (sym (kept-place c.args.items.now c.args.asked c.in_ok-notes.notes records kept)) ∙ ap (λ (s : Spot). is_end s.place) (sym c.spot-spot.ensures) ∙ sym c.is_end.ensures ∙ ends;
        run = ap (λ (s : Spot). has_run c.args.asked s.run) (sym c.spot-spot.ensures) ∙ sym c.has_run.ensures ∙ has;
      },
    )
