use Rattle.std.proofs.Common.{◌≡◌, ◌≢◌, ◌≤◌, ◌∙◌, ◌++◌, ◌∷◌, ℕ, zero, suc, List, [], Option, Some, None, length, take, refl, sym, ap, subst, arith, rules}
use Rattle.std.specs.Prelude.{IfSome}
use Rattle.std.specs.Io.KnownBytes.{Consumes}
use Rattle.std.proofs.lemmas.Grind.{common_steps}
use Rattle.mrp_rows.specs.Told.{HasRisenBy, inner_of}
use Rattle.mrp_intake.specs.Intake.{BringsKnown, Gives, ReadsOn, Taken, retries_of}
use Rattle.mrp_intake.specs.Lines.{told_lines}
use Rattle.mrp_intake.proofs.Calls.{gives-again, gives-last, gives-none, gives-part}
use Rattle.mrp_intake.proofs.ToldLines.{ToCome, behind-some, ended-some, front-some as some-front, line-left, reads-kept, reads-more, to-come-brings, to-come-end, to-come-kept, to-come-on}
use Rattle.mrp_intake.proofs.intake.Intake.next_batch.Goals as goal
use Rattle.mrp_intake.proofs.intake.Intake.next_batch.Goals.{in-Some+in_ok-take_piece-in-Some+else-branch, in-None}

-- what a read gave
given-some : (before after : Option (List ℕ)) (piece : List ℕ) (got : Option ℕ) (count : ℕ) → got ≡ Some count
    → IfSome got (λ n. (n ≤ length piece) × Consumes before after (take n piece)) → Consumes before after (take count piece)
given-some before after piece None count e given = absurd (let n : None ≡ Some count = e in cc)
given-some before after piece (Some n) count e given = let same : n ≡ count = cc in subst (λ (m : ℕ). Consumes before after (take m piece)) same given.1

-- how often a read was interrupted
retried-as : (old new : ℕ) (got known : Option ℕ) → got ≡ known → HasRisenBy (retries_of got) old new → HasRisenBy (retries_of known) old new
retried-as old new got known e risen = subst (λ (o : Option ℕ). HasRisenBy (retries_of o) old new) e risen

-- bytes that were read
front-some : (count : ℕ) (piece front : List ℕ) → front ≡ take count piece → count ≢ 0 → count ≤ length piece → front ≢ []
front-some zero piece front is some within = absurd (some refl)
front-some (suc count) [] front is some within = absurd (omega (arith, within))
front-some (suc count) (x ∷ piece) front is some within = λ none. let e : x ∷ take count piece ≡ [] = sym is ∙ none in cc

given-within : (before after : Option (List ℕ)) (piece : List ℕ) (got : Option ℕ) (count : ℕ) → got ≡ Some count
    → IfSome got (λ n. (n ≤ length piece) × Consumes before after (take n piece)) → count ≤ length piece
given-within before after piece None count e given = absurd (let n : None ≡ Some count = e in cc)
given-within before after piece (Some n) count e given = let same : n ≡ count = cc in subst (λ (m : ℕ). m ≤ length piece) same given.0

pub returns-in-Some-eq0-clause-once : goal.returns-in-Some-eq0-clause-once
returns-in-Some-eq0-clause-once g c =
    let zero : c.in_ok-read_once.field-0 ≡ Some 0 = grind (arith, common_steps) in ([], gives-last g.R.Read.remaining c.args.reader.now c.loop.reader c.read_once.new.reader [] c.loop.invariant.gives (given-some _ _ c.read_once.new.piece c.in_ok-read_once.field-0 0 zero c.in_ok-read_once.ensures.given) c.in_ok-read_once.ensures.calls (retried-as _ _ c.in_ok-read_once.field-0 (Some 0) zero c.in_ok-read_once.ensures.retried))

pub returns-then-branch-clause-once : goal.returns-then-branch-clause-once
returns-then-branch-clause-once g c =
    let consumed : Consumes (g.R.Read.remaining (inner_of c.loop.reader)) (g.R.Read.remaining (inner_of c.read_once.new.reader)) c.split_at.result.0.now =
    subst (Consumes (g.R.Read.remaining (inner_of c.loop.reader)) (g.R.Read.remaining (inner_of c.read_once.new.reader))) (sym c.split_at.ensures.front)
    (given-some _ _ c.read_once.new.piece c.in_ok-read_once.field-0 c.in-Some.count c.in-Some.is c.in_ok-read_once.ensures.given) in (c.split_at.result.0.now, gives-last g.R.Read.remaining c.args.reader.now c.loop.reader c.read_once.new.reader c.split_at.result.0.now c.loop.invariant.gives consumed c.in_ok-read_once.ensures.calls (retried-as _ _ c.in_ok-read_once.field-0 (Some c.in-Some.count) c.in-Some.is c.in_ok-read_once.ensures.retried))

pub returns-in-Some-eq0-clause-brings : goal.returns-in-Some-eq0-clause-brings
returns-in-Some-eq0-clause-brings g c =
    let zero : c.in_ok-read_once.field-0 ≡ Some 0 = grind (arith, common_steps) in
    let was = c.in_ok-read_once.was in
    to-come-end c.args.self.now c.end.new.self c.loop.self.begun (g.R.Read.remaining (inner_of c.args.reader.now)) (g.R.Read.remaining (inner_of c.loop.reader)) (g.R.Read.remaining (inner_of c.read_once.new.reader))
    c.loop.invariant.brings
    (given-some _ _ c.read_once.new.piece c.in_ok-read_once.field-0 0 zero c.in_ok-read_once.ensures.given)
    (c.in_ok-read_once.ensures.end (cc))
    c.in_ok-end-in-Some-eq0.ensures.last

pub returns-then-branch-clause-brings : goal.returns-then-branch-clause-brings
returns-then-branch-clause-brings g c =
    let new : Taken = record { batch = c.take_piece.new.batch.items; begun = c.take_piece.new.begun.items } in
    let inside : c.self-in-Some.inside.begun.items ≡ c.loop.self.begun = ap (λ (t : Taken). t.begun) c.self-in-Some.view_is in
    let consumed : Consumes (g.R.Read.remaining (inner_of c.loop.reader)) (g.R.Read.remaining (inner_of c.read_once.new.reader)) c.split_at.result.0.now =
    subst (Consumes (g.R.Read.remaining (inner_of c.loop.reader)) (g.R.Read.remaining (inner_of c.read_once.new.reader))) (sym c.split_at.ensures.front)
    (given-some _ _ c.read_once.new.piece c.in_ok-read_once.field-0 c.in-Some.count c.in-Some.is c.in_ok-read_once.ensures.given) in
    to-come-brings c.args.self.now new c.loop.self.begun c.split_at.result.0.now (g.R.Read.remaining (inner_of c.args.reader.now)) (g.R.Read.remaining (inner_of c.loop.reader)) (g.R.Read.remaining (inner_of c.read_once.new.reader))
    c.loop.invariant.brings consumed (λ after. ap (λ (l : List ℕ). told_lines (l ++ c.split_at.result.0.now ++ after)) (sym inside) ∙ c.in_ok-take_piece-in-Some.ensures.brings after)

pub loop-init : goal.loop-init
loop-init g c = record {
  batch = search rules;
  brings = search rules;
  waits = search rules;
  gives = gives-none g.R.Read.remaining c.args.reader.now;
  failures = search rules;
  calls = search rules;
}

pub loop-preserved : goal.loop-preserved
loop-preserved g c =
    let first = g.R.Read.remaining (inner_of c.args.reader.now) in
    let now = g.R.Read.remaining (inner_of c.loop.reader) in
    let next = g.R.Read.remaining (inner_of c.read_once.new.reader) in
    let kept : (c.match-branch-2.self.batch ≡ []) × ToCome c.args.self.now.begun first c.match-branch-2.self.begun next × ReadsOn first next × Gives g.R.Read.remaining c.args.reader.now c.read_once.new.reader 0 [] =
    elim c.match-branch-2.branch [
      | in-Some+in_ok-take_piece-in-Some+else-branch w ↦
          let new : Taken = record { batch = w.take_piece.new.batch.items; begun = w.take_piece.new.begun.items } in
          let is : c.match-branch-2.self ≡ new = w.self-is in
          let inside : w.self-in-Some.inside.begun.items ≡ c.loop.self.begun = ap (λ (t : Taken). t.begun) w.self-in-Some.view_is in
          let consumed : Consumes now next w.split_at.result.0.now =
          subst (Consumes now next) (sym w.split_at.ensures.front) (given-some now next c.read_once.new.piece c.in_ok-read_once.field-0 w.in-Some.count w.in-Some.is c.in_ok-read_once.ensures.given) in
          let brings : BringsKnown c.args.self.now new first next =
          to-come-brings c.args.self.now new c.loop.self.begun w.split_at.result.0.now first now next c.loop.invariant.brings consumed
          (λ after. ap (λ (l : List ℕ). told_lines (l ++ w.split_at.result.0.now ++ after)) (sym inside) ∙ w.in_ok-take_piece-in-Some.ensures.brings after) in
          let ended = w.if-branch.false in
          let was = w.in_ok-take_piece-in-Some.was in
          let none : new.batch ≡ [] = w.in_ok-take_piece-in-Some.ensures.none (cc) in
          let tested = w.in-Some.count-test in
          let some : w.in-Some.count ≢ 0 = grind (arith, common_steps) in (
            ap (λ (t : Taken). t.batch) is ∙ none,
            subst (λ (t : Taken). ToCome c.args.self.now.begun first t.begun next) (sym is) (to-come-on c.args.self.now new first next brings none),
            reads-more first now next w.split_at.result.0.now c.loop.invariant.waits consumed (w.in_ok-take_piece-in-Some.ensures.waits (cc)),
            gives-part g.R.Read.remaining c.args.reader.now c.loop.reader c.read_once.new.reader w.split_at.result.0.now c.loop.invariant.gives consumed (record {
              some = front-some w.in-Some.count c.read_once.new.piece w.split_at.result.0.now w.split_at.ensures.front some (given-within now next c.read_once.new.piece c.in_ok-read_once.field-0 w.in-Some.count w.in-Some.is c.in_ok-read_once.ensures.given);
              in_line = w.in_ok-take_piece-in-Some.ensures.waits (cc);
            }) c.in_ok-read_once.ensures.calls (retried-as _ _ c.in_ok-read_once.field-0 (Some w.in-Some.count) w.in-Some.is c.in_ok-read_once.ensures.retried),
          )
      | in-None w ↦
          let is : c.match-branch-2.self ≡ c.loop.self = w.self-is in
          let empty = w.in-None.is in
          let was = c.in_ok-read_once.was in (
            ap (λ (t : Taken). t.batch) is ∙ c.loop.invariant.batch,
            subst (λ (t : Taken). ToCome c.args.self.now.begun first t.begun next) (sym is) (to-come-kept c.args.self.now.begun c.loop.self.begun first now next c.loop.invariant.brings (c.in_ok-read_once.ensures.nothing (cc))),
            reads-kept first now next c.loop.invariant.waits (c.in_ok-read_once.ensures.nothing (cc)),
            gives-again g.R.Read.remaining c.args.reader.now c.loop.reader c.read_once.new.reader c.loop.invariant.gives (c.in_ok-read_once.ensures.nothing (cc)) c.in_ok-read_once.ensures.calls (retried-as _ _ c.in_ok-read_once.field-0 None empty c.in_ok-read_once.ensures.retried),
          )
    ] in
    record {
      batch = kept.0;
      brings = kept.1;
      waits = kept.2;
      gives = kept.3;
      failures = c.in_ok-read_once.ensures.failures ∙ c.loop.invariant.failures;
      calls = omega (arith, c.loop.invariant.calls, c.in_ok-read_once.ensures.calls);
    }

pub returns-then-branch-clause-some : goal.returns-then-branch-clause-some
returns-then-branch-clause-some g c e =
    let done = c.if-branch.true in
    let was = c.in_ok-take_piece-in-Some.was in
    ended-some c.take_piece.new.batch.items (c.in_ok-take_piece-in-Some.ensures.some (cc))

pub returns-in_err-end-in-Some-eq0-clause-left : goal.returns-in_err-end-in-Some-eq0-clause-left
returns-in_err-end-in-Some-eq0-clause-left g c memory =
    let zero : c.in_ok-read_once.field-0 ≡ Some 0 = grind (arith, common_steps) in
    line-left c.args.self.now.begun c.loop.self.begun [] (g.R.Read.remaining (inner_of c.args.reader.now)) (g.R.Read.remaining (inner_of c.loop.reader)) (g.R.Read.remaining (inner_of c.read_once.new.reader))
    c.loop.invariant.brings (given-some _ _ c.read_once.new.piece c.in_ok-read_once.field-0 0 zero c.in_ok-read_once.ensures.given) (some-front c.loop.self.begun [] c.in_err-end-in-Some-eq0.ensures.left)

pub returns-in_err-take_piece-in-Some-clause-left : goal.returns-in_err-take_piece-in-Some-clause-left
returns-in_err-take_piece-in-Some-clause-left g c memory =
    let now = g.R.Read.remaining (inner_of c.loop.reader) in
    let next = g.R.Read.remaining (inner_of c.read_once.new.reader) in
    let consumed : Consumes now next c.split_at.result.0.now =
    subst (Consumes now next) (sym c.split_at.ensures.front) (given-some now next c.read_once.new.piece c.in_ok-read_once.field-0 c.in-Some.count c.in-Some.is c.in_ok-read_once.ensures.given) in
    let tested = c.in-Some.count-test in
    let some : c.in-Some.count ≢ 0 = grind (arith, common_steps) in
    let given : c.split_at.result.0.now ≢ [] =
    front-some c.in-Some.count c.read_once.new.piece c.split_at.result.0.now c.split_at.ensures.front some (given-within now next c.read_once.new.piece c.in_ok-read_once.field-0 c.in-Some.count c.in-Some.is c.in_ok-read_once.ensures.given) in
    line-left c.args.self.now.begun c.loop.self.begun c.split_at.result.0.now (g.R.Read.remaining (inner_of c.args.reader.now)) now next c.loop.invariant.brings consumed (behind-some c.loop.self.begun c.split_at.result.0.now given)
