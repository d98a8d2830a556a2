-- A day is made of a bundle: it is refused, one of its runs is, or its texts are written.
use Rattle.std.proofs.Common.{◌≡◌, ◌≢◌, ◌∙◌, ℕ, ◌≤◌, List, length, Option, Some, None, Result, Ok, Err, IfSome, ap, arith, inl, inr, refl, subst, sym}
use Rattle.std.specs.Prelude.{All, IfErr, OnErr, ⊤, vec_len}
use Rattle.std.specs.Global.{Vec}
use Rattle.std.specs.Io.KnownBytes.{IsAtEnd}
use Rattle.std.proofs.lemmas.Result.{on_ok_weaker}
use Rattle.mrp_rows.specs.declared.fault.Fault.{Fault}
use Rattle.mrp_rows.specs.declared.faults.TheConstants as faults
use Rattle.mrp_rows.specs.declared.streams.ReadFault.{ReadFault}
use Rattle.mrp_rows.specs.declared.streams.ReadFault.TheVariants as read
use Rattle.mrp_rows.specs.declared.streams.TheConstants.{GREATEST_BUNDLE}
use Rattle.mrp_rows.specs.declared.told.Told.{Told}
use Rattle.mrp_rows.specs.Streams.{TakesFront}
use Rattle.mrp_rows.specs.Told.{inner_of, moved_of}
use Rattle.mrp_tables.specs.Tables.{Tables}
use Rattle.mrp_report.specs.Written.{HasTakenFront}
use Rattle.mrp_engine.specs.day.Day.{Answering, IsPlannable, IsTooLargeBy, day_text, runs_of}
use Rattle.mrp_script.specs.Opened.{IsAccepted, IsRefused, Opens}
use Rattle.mrp_engine.specs.day.Fault.{opening_fault, reading_fault}
use Rattle.mrp_engine.specs.day.Planned.{PlansDay, text_of}
use Rattle.mrp_report.specs.Taken.{HasTakenAll}
use Rattle.mrp_engine.specs.day.Run.{HasPassedLimits, IsBeforeWriting, IsRead, IsReadWithin, IsWhileWriting, MakesDay, TellsDayBy, WritesDay, WritesFrontBy, WritesText}
use Rattle.mrp_engine.specs.declared.day.Day.{Day}
use Rattle.mrp_engine.specs.declared.day.fault.DayFault.{DayFault}
use Rattle.mrp_engine.specs.declared.day.fault.DayFault.TheVariants.{Refused, TooLarge, Read, Write, NoMemory}
use Rattle.mrp_script.specs.declared.fault.OpenFault.{OpenFault}
use Rattle.mrp_script.specs.declared.fault.OpenFault.TheVariants as opening

-- nothing is written, for one of the causes that come before writing
nothing-written : {W : Type 0} (Answers : Answering) (contents : W → Option (List ℕ)) (given : Option (List ℕ)) (ended failed : Type 0) (w : Told W) (f : DayFault)
    → ((g : Fault) → f ≡ Refused g → (bundle : List ℕ) × IsRead given bundle × IsRefused bundle g × (g.code ≢ faults.NO_MEMORY))
    → ((name : List ℕ) → f ≡ TooLarge name → (bundle : List ℕ) × IsRead given bundle × IsTooLargeBy Answers bundle name)
    → (f ≡ Read → failed) → (f ≡ Write → ⊥) → WritesDay Answers contents given ended failed w w (Err f)
nothing-written Answers contents given ended failed w f refused too_large failing writing = record {
  day = tt;
  refused = λ g e. refused g (cc);
  too_large = λ name e. too_large name (cc);
  read = λ e. failing (cc);
  write = λ e. absurd (writing (cc));
  gave_up = λ e. absurd (writing (cc));
  memory = λ e. inl refl;
  unfailed = λ e. refl;
  unwritten = λ before. refl;
}

few-bytes : (bundle : Vec ℕ) → vec_len bundle ≤ GREATEST_BUNDLE → length bundle.items ≤ GREATEST_BUNDLE
few-bytes bundle few = omega (arith, few, bundle.ok.0)

no-shop : {W : Type 0} (Answers : Answering) (contents : W → Option (List ℕ)) (bundle : List ℕ) (w : Told W) (f : OpenFault) → length bundle ≤ GREATEST_BUNDLE → Opens bundle (Err f)
    → WritesDay Answers contents (Some bundle) ⊤ ⊥ w w (Err (opening_fault f))
no-shop Answers contents bundle w (opening.Refused f) few opens =
    nothing-written Answers contents (Some bundle) ⊤ ⊥ w (Refused f)
    (λ (g : Fault) e.
    let same : f ≡ g = cc in
    let (refused, other) = subst (λ (x : Fault). IsRefused bundle x × (x.code ≢ faults.NO_MEMORY)) same opens in
    (bundle, (refl, few), refused, other))
    (λ (name : List ℕ) e. (cc)) (λ e. (cc)) (λ e. (cc))
no-shop Answers contents bundle w opening.NoMemory few opens =
    nothing-written Answers contents (Some bundle) ⊤ ⊥ w NoMemory (λ (g : Fault) e. (cc)) (λ (name : List ℕ) e. (cc)) (λ e. (cc)) (λ e. (cc))

-- a shop that is not opened has no day
pub unopened : {W : Type 0} (Answers : Answering) (contents : W → Option (List ℕ)) (bundle : Vec ℕ) (bytes : List ℕ) (w : Told W) (f : OpenFault) (r : Result (Unit {0}) DayFault) → vec_len bundle ≤ GREATEST_BUNDLE
    → bytes ≡ bundle.items → Opens bytes (Err f) → r ≡ Err (opening_fault f) → WritesDay Answers contents (Some bundle.items) ⊤ ⊥ w w r
unopened Answers contents bundle bytes w f r few is opens fails =
    subst (λ (x : Result (Unit {0}) DayFault). WritesDay Answers contents (Some bundle.items) ⊤ ⊥ w w x) (sym fails)
    (no-shop Answers contents bundle.items w f (few-bytes bundle few) (subst (λ (x : List ℕ). Opens x (Err f)) is opens))

no-plan : {W : Type 0} (Answers : Answering) (contents : W → Option (List ℕ)) (bundle : List ℕ) (tables : Tables) (w : Told W) (f : DayFault) → length bundle ≤ GREATEST_BUNDLE
    → IsAccepted bundle tables → PlansDay Answers tables (Err f) → WritesDay Answers contents (Some bundle) ⊤ ⊥ w w (Err f)
no-plan Answers contents bundle tables w (TooLarge name) few accepted (h, answers, refused) =
    let too_large : IsTooLargeBy Answers bundle name = (tables, accepted, h, answers, refused) in
    nothing-written Answers contents (Some bundle) ⊤ ⊥ w (TooLarge name) (λ (g : Fault) e. (cc))
    (λ (other : List ℕ) e. let same : name ≡ other = cc in (bundle, (refl, few), subst (IsTooLargeBy Answers bundle) same too_large)) (λ e. (cc)) (λ e. (cc))
no-plan Answers contents bundle tables w NoMemory few accepted plans =
    nothing-written Answers contents (Some bundle) ⊤ ⊥ w NoMemory (λ (g : Fault) e. (cc)) (λ (name : List ℕ) e. (cc)) (λ e. (cc)) (λ e. (cc))
no-plan Answers contents bundle tables w (Refused f) few accepted plans = absurd plans
no-plan Answers contents bundle tables w Read few accepted plans = absurd plans
no-plan Answers contents bundle tables w Write few accepted plans = absurd plans

-- nor has one of which a run is refused
pub unplanned : {W : Type 0} (Answers : Answering) (contents : W → Option (List ℕ)) (bundle : Vec ℕ) (bytes : List ℕ) (tables : Tables) (w : Told W) (f : DayFault) (r : Result (Unit {0}) DayFault) → vec_len bundle ≤ GREATEST_BUNDLE
    → bytes ≡ bundle.items → IsAccepted bytes tables → PlansDay Answers tables (Err f) → r ≡ Err f → WritesDay Answers contents (Some bundle.items) ⊤ ⊥ w w r
unplanned Answers contents bundle bytes tables w f r few is accepted plans fails =
    subst (λ (x : Result (Unit {0}) DayFault). WritesDay Answers contents (Some bundle.items) ⊤ ⊥ w w x) (sym fails)
    (no-plan Answers contents bundle.items tables w f (few-bytes bundle few) (subst (λ (x : List ℕ). IsAccepted x tables) is accepted) plans)

-- the text of a planned day is that of its bundle
tells-planned : (Answers : Answering) (bundle : List ℕ) (tables : Tables) (day : Day) → length bundle ≤ GREATEST_BUNDLE → IsAccepted bundle tables → PlansDay Answers tables (Ok day)
    → TellsDayBy Answers (Some bundle) (text_of day)
tells-planned Answers bundle tables day few accepted (same, answers, planned) = (
  bundle,
  (refl, few),
  (
    tables,
    accepted,
    day.history.entries,
    answers,
    subst (λ (t : Tables). All IsPlannable (runs_of t day.history.entries)) same planned.plannable,
    ap (λ (t : Tables). day_text t day.history.entries) same,
  ),
)

-- what is refused while a text is written is not refused before
not-before : (P : Type 0) (r : Result (Unit {0}) DayFault) → IfErr r IsWhileWriting → IfErr r (λ fault. IsBeforeWriting fault → P)
not-before P (Ok done) writing = tt
not-before P (Err (Refused f)) writing = absurd writing
not-before P (Err (TooLarge name)) writing = absurd writing
not-before P (Err Read) writing = absurd writing
not-before P (Err Write) writing = λ before. absurd before
not-before P (Err NoMemory) writing = λ before. absurd before

-- the texts of a planned day are its bundle's
pub planned : {W : Type 0} (Answers : Answering) (contents : W → Option (List ℕ)) (bundle : Vec ℕ) (bytes : List ℕ) (tables : Tables) (day : Day) (old new : Told W) (r : Result (Unit {0}) DayFault) → vec_len bundle ≤ GREATEST_BUNDLE
    → bytes ≡ bundle.items → IsAccepted bytes tables → PlansDay Answers tables (Ok day) → WritesText contents old new (text_of day) r → WritesDay Answers contents (Some bundle.items) ⊤ ⊥ old new r
planned Answers contents bundle bytes tables day old new r few is accepted plans writes =
    let tells : TellsDayBy Answers (Some bundle.items) (text_of day) = tells-planned Answers bundle.items tables day (few-bytes bundle few) (subst (λ (x : List ℕ). IsAccepted x tables) is accepted) plans in
    let front : (f : DayFault) → r ≡ Err f → WritesFrontBy Answers contents (Some bundle.items) old new =
    λ f e. (text_of day, tells, subst (λ (x : Result (Unit {0}) DayFault). OnErr x (HasTakenFront contents old new (text_of day))) e writes.front) in
    let while : (f : DayFault) → r ≡ Err f → IsWhileWriting f = λ f e. subst (λ (x : Result (Unit {0}) DayFault). IfErr x IsWhileWriting) e writes.writing in
    record {
      day = on_ok_weaker r (λ (whole : HasTakenAll contents old new (text_of day)). (text_of day, tells, whole)) writes.whole;
      refused = λ f e. absurd (while (Refused f) e);
      too_large = λ name e. absurd (while (TooLarge name) e);
      read = λ e. while Read e;
      write = λ e. front Write e;
      gave_up = writes.gave_up;
      memory = λ e. inr (tt, front NoMemory e);
      unfailed = writes.unfailed;
      unwritten = not-before (new ≡ old) r writes.writing;
    }

-- a bundle that is read to its end is what the reader had left
read-through : (given : Option (List ℕ)) (bundle own : List ℕ) → IfSome given (λ bytes. bundle ≡ bytes) → IsRead (Some bundle) own → IsRead given own
read-through None bundle own is (same, few) = (tt, few)
read-through (Some bytes) bundle own is (same, few) = (same ∙ is, few)

-- a bundle that is not read has no day
pub unread : {R W : Type 0} (Answers : Answering) (remaining : R → Option (List ℕ)) (contents : W → Option (List ℕ)) (reader after : Told R) (w : Told W) (f : ReadFault)
    → (f ≡ read.Read → HasPassedLimits reader after) → (f ≡ read.NoMemory → IsReadWithin reader after)
    → TakesFront (remaining (inner_of reader)) (remaining (inner_of after)) (moved_of reader) (moved_of after) → MakesDay Answers remaining contents reader after w w (Err (reading_fault f))
unread Answers remaining contents reader after w read.Read passed within taken = record {
  writes = nothing-written Answers contents (remaining (inner_of reader)) (IsAtEnd (remaining (inner_of after))) (HasPassedLimits reader after) w Read
      (λ (g : Fault) e. (cc)) (λ (name : List ℕ) e. (cc)) (λ e. passed refl) (λ e. (cc));
  unfailed = λ e. (cc);
  end = λ all. absurd all;
  within = λ all. absurd all;
  taken = taken;
}
unread Answers remaining contents reader after w read.NoMemory passed within taken = record {
  writes = nothing-written Answers contents (remaining (inner_of reader)) (IsAtEnd (remaining (inner_of after))) (HasPassedLimits reader after) w NoMemory
      (λ (g : Fault) e. (cc)) (λ (name : List ℕ) e. (cc)) (λ e. (cc)) (λ e. (cc));
  unfailed = λ e. within refl;
  end = λ all. absurd all;
  within = λ all. absurd all;
  taken = taken;
}

-- a day of the bundle that was read is the reader's
pub made : {R W : Type 0} (Answers : Answering) (remaining : R → Option (List ℕ)) (contents : W → Option (List ℕ)) (reader after : Told R) (old new : Told W) (bundle : List ℕ) (r : Result (Unit {0}) DayFault)
    → IfSome (remaining (inner_of reader)) (λ bytes. bundle ≡ bytes) → IsAtEnd (remaining (inner_of after)) → IsReadWithin reader after
    → TakesFront (remaining (inner_of reader)) (remaining (inner_of after)) (moved_of reader) (moved_of after)
    → WritesDay Answers contents (Some bundle) ⊤ ⊥ old new r → MakesDay Answers remaining contents reader after old new r
made Answers remaining contents reader after old new bundle r is ended within taken writes =
    let given = remaining (inner_of reader) in
    let through : (own : List ℕ) → IsRead (Some bundle) own → IsRead given own = λ own. read-through given bundle own is in
    let front : WritesFrontBy Answers contents (Some bundle) old new → WritesFrontBy Answers contents given old new =
    λ f. (f.0, (f.1.0, through f.1.0 f.1.1, f.1.2), f.2) in
    record {
      writes = record {
        day = on_ok_weaker r (λ (d : (text : List ℕ) × TellsDayBy Answers (Some bundle) text × HasTakenAll contents old new text). (d.0, (d.1.0, through d.1.0 d.1.1, d.1.2), d.2)) writes.day;
        refused = λ f e. let (own, own_is, refused, other) = writes.refused f e in (own, through own own_is, refused, other);
        too_large = λ name e. let (own, own_is, large) = writes.too_large name e in (own, through own own_is, large);
        read = λ e. absurd (writes.read e);
        write = λ e. front (writes.write e);
        gave_up = writes.gave_up;
        memory = λ e. elim (writes.memory e) [ inl same ↦ inl same | inr more ↦ inr (ended, front more.1) ];
        unfailed = writes.unfailed;
        unwritten = writes.unwritten;
      };
      unfailed = λ e. within;
      end = λ all. ended;
      within = λ all. within;
      taken = taken;
    }
