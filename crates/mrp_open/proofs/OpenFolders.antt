-- The folder of an order desk that was opened on it.
use Rattle.std.proofs.Common.{◌≡◌, ◌∙◌, ℕ, List, [], ◌++◌, Option, Some, None, inl, inr, ap, ap₂, append-nil, append_assoc, arith, length, refl, subst, sym, take}
use Rattle.std.specs.Prelude.{IsTrue, option_map}
use Rattle.mrp_rows.specs.Joined.{Part}
use Rattle.mrp_tables.specs.Tables.{Tables}
use Rattle.mrp_master.specs.Supply.{supply_of}
use Rattle.mrp_book.specs.History.{IsLegal}
use Rattle.mrp_journal.specs.Held.{Becomes, CanBeLeft, Held, IsFront, settled}
use Rattle.mrp_journal.specs.Journal.{KeepsSafely, begun, with_more}
use Rattle.mrp_journal.specs.Lines.{whole_lines}
use Rattle.mrp_journal.specs.Rows.{IsTable}
use Rattle.mrp_journal.specs.Table.{TakesRecords, header_for}
use Rattle.mrp_journal.proofs.Fronts.{front-more, front-then}
use Rattle.mrp_script.specs.Opened.{IsAccepted}
use Rattle.mrp_words.specs.Folder.{Known}
use Rattle.mrp_calls.specs.Answers.{Answers}
use Rattle.mrp_calls.specs.Desk.{Desk}
use Rattle.mrp_calls.specs.Journals.{AnswersFolder, IsLeftOpen, journal_in, with_script}
use Rattle.mrp_commands.specs.declared.ending.Ending.{Ending}
use Rattle.mrp_open.specs.Laws.{IsOpenOn, OpensOn, StaysOpen}
use Rattle.mrp_open.specs.Runs.{Handed}
use Rattle.mrp_open.specs.Served.{Serves, Settles, Source, Stand, Stops}
use Rattle.mrp_open.specs.Start.{AnswersJournal, IsPrepared, bundle_with, journal_of}
use Rattle.mrp_open.specs.declared.finding.Found.{Found}

-- a begun journal that takes more records is a table
abbrev pub Begins : Type 0
Begins = (bytes : List ℕ) → TakesRecords (begun bytes (header_for (whole_lines bytes))) → IsTable (begun bytes (header_for (whole_lines bytes)))

-- a desk that is open on a folder stays so
abbrev pub GoOn : Type 0
GoOn = (lines : List (List ℕ)) (others : List Part) (journal : List ℕ) (old new : Desk) (answers records : List ℕ) → AnswersFolder others journal old → Answers lines old answers records new → AnswersFolder others (journal ++ records) new

-- what was found, as it is begun
begun-found : (script header : List ℕ) (found : Found) → found.script.items ≡ script → found.header.now ≡ header → begun script header ≡ begun found.script.items found.header.now
begun-found script header found same_script same_header = sym (ap₂ (λ (s h : List ℕ). begun s h) same_script same_header)

pub opens-on : Begins → (known : Known) (folder : List ℕ) (found : Found) (tables : Tables) (d : Desk) → IsPrepared known folder found tables → IsTrue found.takes_records → AnswersJournal tables found.room d → OpensOn known folder found d
opens-on begins known folder found tables d (bundle, has, accepted) takes answers =
    let script = has.script in
    let others = has.others in
    let journal : List ℕ = journal_of script in
    let table : IsTable journal = begins script (has.of.takes_is.0 takes) in
    let own : IsAccepted (bundle_with others script) tables = subst (λ (b : List ℕ). IsAccepted b tables) has.of.bundle_is accepted in
    let size : length bundle ≡ length (bundle_with others script) = ap (length {A = ℕ}) has.of.bundle_is in
    let room = has.of.room_is in
    let left = answers.room_is in
    let within = has.fits in
    let made : AnswersFolder others journal d = record {
      table = table;
      script = tables.script;
      accepted = subst (λ (t : Tables). IsAccepted (bundle_with others script) (with_script t tables.script)) (sym answers.tables_are) own;
      calls = answers.asked_are;
      legal = subst (λ (t : Tables). IsLegal (supply_of t) d.entries) (sym answers.tables_are) answers.legal;
      fits = omega (arith, size, room, left, within);
    } in
    record {
      on = record {
        parts = has.parts;
        others = others;
        script = script;
        are = has.are;
        split = has.split;
        answers = subst (λ (j : List ℕ). AnswersFolder others j d) (sym (append-nil journal)) made;
      };
      journal = begun-found script (header_for (whole_lines script)) found has.of.script_is has.of.header_is;
    }

-- lines were answered
on-lines : GoOn → (known : Known) (folder records : List ℕ) (lines : List (List ℕ)) (old new : Desk) (answers more : List ℕ) → IsOpenOn known folder records old → Answers lines old answers more new → IsOpenOn known folder (records ++ more) new
on-lines go known folder records lines old new answers more on answered =
    let journal : List ℕ = journal_of on.script in
    record {
      parts = on.parts;
      others = on.others;
      script = on.script;
      are = on.are;
      split = on.split;
      answers = subst (λ (j : List ℕ). AnswersFolder on.others j new) (append_assoc journal records more) (go lines on.others (journal ++ records) old new answers more on.answers answered);
    }

-- a crash leaves a journal that was kept with records behind it
kept-safe : (old new : Option Held) (records : List ℕ) → new ≡ option_map (with_more records) old → Becomes (KeepsSafely records) old new
kept-safe None new records is = tt
kept-safe (Some h) new records is =
    let journal : Held = settled (h.bytes ++ records) in
    let safe : KeepsSafely records h journal = record {
      keeps = λ left can. front-then h.bytes (h.bytes ++ records) left (front-more h.bytes records) can.keeps;
      no_more = λ left can. can.no_more;
    } in
    subst (λ (o : Option Held). Becomes (KeepsSafely records) (Some h) o) (sym is) safe

-- one with records behind it, and then a front of more
more-safe : (old between new : Option Held) (records more : List ℕ) → between ≡ option_map (with_more records) old → Becomes (KeepsSafely more) between new → Becomes (KeepsSafely (records ++ more)) old new
more-safe None between new records more is safe = tt
more-safe (Some h) between new records more is safe = by new (subst (λ (o : Option Held). Becomes (KeepsSafely more) o new) is safe)
  where
    by : (new : Option Held) → Becomes (KeepsSafely more) (Some (settled (h.bytes ++ records))) new → Becomes (KeepsSafely (records ++ more)) (Some h) new
    by None none = absurd none
    by (Some k) keeps = record {
      keeps = λ left can. front-then h.bytes (h.bytes ++ records) left (front-more h.bytes records) (keeps.keeps left can);
      no_more = λ left can. subst (IsFront left) (append_assoc h.bytes records more) (keeps.no_more left can);
    }

-- where the last batch stopped
on-stop : GoOn → (known : Known) (folder records : List ℕ) (lines settled_lines : List (List ℕ)) (old between new : Stand) (end : Ending) (settles : Settles settled_lines old between)
    → IsOpenOn known folder (records ++ settles.records) between.desk → Stops lines between new end → StaysOpen known folder records old new end
on-stop go known folder records lines settled_lines old between new end settles on (inl (other, same)) =
    let journal : new.journal ≡ option_map (with_more settles.records) old.journal = ap (λ (s : Stand). s.journal) same ∙ settles.kept in
    record {
      more = settles.records;
      on = subst (λ (s : Stand). IsOpenOn known folder (records ++ settles.records) s.desk) (sym same) on;
      safe = kept-safe old.journal new.journal settles.records journal;
      kept = λ _. journal;
    }
on-stop go known folder records lines settled_lines old between new end settles on (inr (is, breaks)) = record {
  more = settles.records ++ breaks.records;
  on = subst (λ (r : List ℕ). IsOpenOn known folder r new.desk) (append_assoc records settles.records breaks.records)
      (on-lines go known folder (records ++ settles.records) lines between.desk new.desk breaks.answers breaks.records on breaks.answered);
  safe = more-safe old.journal between.journal new.journal settles.records breaks.records settles.kept breaks.safe;
  kept = λ other. absurd (other is);
}

pub stays-on : GoOn → (known : Known) (folder records : List ℕ) (given left : Source) (old new : Stand) (handed_old handed_new : Handed) (end : Ending) → IsOpenOn known folder records old.desk
    → Serves given left old new handed_old handed_new end → StaysOpen known folder records old new end
stays-on go known folder records given left old new handed_old handed_new end on serves =
    let settled = serves.settles.settled in
    let between = on-lines go known folder records serves.lines old.desk serves.between.desk settled.answers settled.records on settled.answered in
    on-stop go known folder records serves.more serves.lines old serves.between new end settled between serves.stopped

-- what a crash leaves of a desk's journal while it answers lines is begun again
abbrev pub OpenAgain : Type 0
OpenAgain =
    (earlier lines : List (List ℕ)) (others : List Part) (bytes left : List ℕ) (first old new : Desk) (said written answers records : List ℕ)
    → AnswersFolder others (journal_in bytes) first → Answers earlier first said written old → Answers lines old answers records new
    → IsFront (journal_in bytes ++ written) left → IsFront left ((journal_in bytes ++ written) ++ records) → IsLeftOpen lines others (journal_in bytes ++ written) left old

-- with none of the lines that were still to come
none-more : (lines : List (List ℕ)) (others : List Part) (journal left : List ℕ) (d : Desk) → IsLeftOpen [] others journal left d → IsLeftOpen lines others journal left d
none-more lines others journal left d p =
    let few = p.few in
    let none : p.count ≡ 0 = omega (arith, few) in
    record {
      count = 0;
      few = omega arith;
      answers = p.answers;
      records = p.records;
      desk = p.desk;
      first = subst (λ (n : ℕ). Answers (take n []) d p.answers p.records p.desk) none p.first;
      begins = p.begins;
      opens = p.opens;
    }

-- where the last batch stopped, a crash has left this
left-at : OpenAgain → (earlier lines : List (List ℕ)) (others : List Part) (script left : List ℕ) (first : Desk) (old new : Stand) (end : Ending) (said written : List ℕ) (held : Held)
    → AnswersFolder others (journal_of script) first → Answers earlier first said written old.desk → old.journal ≡ Some (settled (journal_of script ++ written)) → Stops lines old new end
    → new.journal ≡ Some held → CanBeLeft held left → IsLeftOpen lines others (journal_of script ++ written) left old.desk
left-at again earlier lines others script left first old new end said written held on before was (inl (other, same)) is can =
    let journal : List ℕ = journal_of script ++ written in
    let here : CanBeLeft (settled journal) left = left-of (sym is ∙ ap (λ (s : Stand). s.journal) same ∙ was) can in
    none-more lines others journal left old.desk
    (again earlier [] others script left first old.desk old.desk said written [] [] on before (refl, refl, refl) here.keeps (subst (IsFront left) (sym (append-nil journal)) here.no_more))
  where
    left-of : {a b : Held} → Some a ≡ Some b → CanBeLeft a left → CanBeLeft b left
    left-of {a} {b} e c =
        let same : a ≡ b = cc in
        subst (λ (h : Held). CanBeLeft h left) same c
left-at again earlier lines others script left first old new end said written held on before was (inr (broken, breaks)) is can =
    let journal : List ℕ = journal_of script ++ written in
    let from : Becomes (KeepsSafely breaks.records) (Some (settled journal)) new.journal = subst (λ (o : Option Held). Becomes (KeepsSafely breaks.records) o new.journal) was breaks.safe in
    let safe : KeepsSafely breaks.records (settled journal) held = subst (λ (o : Option Held). Becomes (KeepsSafely breaks.records) (Some (settled journal)) o) is from in
    again earlier lines others script left first old.desk new.desk said written breaks.answers breaks.records on before breaks.answered (safe.keeps left can) (safe.no_more left can)

pub left-served : OpenAgain → (known : Known) (folder : List ℕ) (given left : Source) (old new : Stand) (handed_old handed_new : Handed) (end : Ending) (on : IsOpenOn known folder [] old.desk)
    (serves : Serves given left old new handed_old handed_new end) → old.journal ≡ Some (settled (journal_of on.script)) → (held : Held) → new.journal ≡ Some held
    → (bytes : List ℕ) → CanBeLeft held bytes → IsLeftOpen serves.more on.others (journal_of on.script ++ serves.settles.settled.records) bytes serves.between.desk
left-served again known folder given left old new handed_old handed_new end on serves was held is bytes can =
    let settles = serves.settles.settled in
    let journal : List ℕ = journal_of on.script in
    let opened : AnswersFolder on.others journal old.desk = subst (λ (j : List ℕ). AnswersFolder on.others j old.desk) (append-nil journal) on.answers in
    left-at again serves.lines serves.more on.others on.script bytes old.desk serves.between new end settles.answers settles.records held opened settles.answered
    (settles.kept ∙ ap (option_map (with_more settles.records)) was) serves.stopped is can
