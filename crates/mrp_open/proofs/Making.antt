-- The files of runs are made, one after the other.
use Rattle.std.proofs.Common.{◌≡◌, ◌⊎◌, ◌∙◌, ℕ, List, [], ◌∷◌, ◌++◌, Option, Some, None, Result, Ok, Err, inl, inr, ap, append_assoc, refl, subst, sym}
use Rattle.std.proofs.lemmas.Fn.{FoldsTo-push}
use Rattle.std.proofs.lemmas.List.{append-nil}
use Rattle.std.specs.Prelude.{IfErr, IfOk, OnErr, OnOk}
use Rattle.mrp_rows.specs.declared.told.Told.{Told}
use Rattle.mrp_rows.specs.declared.streams.TheConstants.{WRITE_TRIES}
use Rattle.mrp_tables.specs.Tables.{Tables}
use Rattle.mrp_book.specs.Standing.{History}
use Rattle.mrp_report.specs.Taken.{HasTakenAll}
use Rattle.mrp_report.specs.Written.{HasGivenUp}
use Rattle.mrp_folder.specs.Named.{Named}
use Rattle.mrp_runs.specs.File.{IsRunAfter}
use Rattle.mrp_runs.specs.Kept.{FailsToMake}
use Rattle.mrp_runs.specs.Maker.{KeepsFile, MayKeepFile}
use Rattle.mrp_runs.specs.Notes.{note_of, note_text}
use Rattle.mrp_runs.specs.declared.fault.MakeFault.{MakeFault}
use Rattle.mrp_runs.specs.declared.refusal.Refusal.{Refusal}
use Rattle.mrp_runs.specs.declared.run.Run.{Run}
use Rattle.mrp_runs.specs.declared.telling.Note.{Note}
use Rattle.mrp_open.specs.Made.{GivesNext, MakesAll, MakesEach, MakesFirst, MakesRun, TellsNote}

module _ {N : Type 0} (contents : N → Option (List ℕ)) where
  -- a text is told, or the stream gives up
  pub tells-text : {T X : Type 0} (old new : Told N) (text : List ℕ) (r : Result T X) → OnOk r (HasTakenAll contents old new text) → OnErr r (HasGivenUp old new WRITE_TRIES)
      → HasTakenAll contents old new text ⊎ HasGivenUp old new WRITE_TRIES
  tells-text old new text (Ok x) whole gave_up = inl whole
  tells-text old new text (Err x) whole gave_up = inr gave_up

  -- so is a note
  pub tells-note : {T X : Type 0} (run : Run) (said : Note) (old new : Told N) (r : Result T X) → OnOk r (HasTakenAll contents old new (note_text run.snapshot.front said)) → OnErr r (HasGivenUp old new WRITE_TRIES) → TellsNote contents run (Some said) old new
  tells-note run said old new r whole gave_up = tells-text old new (note_text run.snapshot.front said) r whole gave_up

  module _ (P : Type 0) (tables : Tables) where
    -- the file of a run is made, and what came of it is told
    pub makes-run : (run : Run) (sound failed : ℕ) (named next : Option (List Named)) (notes told : Told N) (made : Result (Option Refusal) (MakeFault P))
        → ((before : History) → IsRunAfter tables before run → IfOk made (λ outcome. KeepsFile tables before run outcome named next))
        → ((before : History) → IsRunAfter tables before run → OnErr made (MayKeepFile tables before run named next))
        → OnOk made (failed ≡ sound) → IfErr made (FailsToMake sound failed) → TellsNote contents run (note_of made) notes told → MakesRun P contents tables run sound failed named next notes told
    makes-run run sound failed named next notes told (Ok None) kept either same fails tells = inl (same, (None, kept, tells))
    makes-run run sound failed named next notes told (Ok (Some why)) kept either same fails tells = inl (same, (Some why, kept, tells))
    makes-run run sound failed named next notes told (Err why) kept either same fails tells = inr (either, (why, fails, tells))

    -- no run came yet
    pub makes-none : (runs : Option (List Run)) (sound : ℕ) (named : Option (List Named)) (notes : Told N) → MakesFirst P contents tables runs runs sound sound named named notes notes
    makes-none None sound named notes = tt
    makes-none (Some runs) sound named notes = ([], runs, refl, refl, refl)

    -- one more came
    pub makes-next : (runs left next_left : Option (List Run)) (run : Run) (sound failed more_failed : ℕ) (named next last : Option (List Named)) (notes told after : Told N)
        → MakesFirst P contents tables runs left sound failed named next notes told → GivesNext left (Some run) next_left → MakesRun P contents tables run failed more_failed next last told after
        → MakesFirst P contents tables runs next_left sound more_failed named last notes after
    makes-next None left next_left run sound failed more_failed named next last notes told after first gives makes = tt
    makes-next (Some runs) left next_left run sound failed more_failed named next last notes told after (made, rest, is, left_is, each) gives makes =
        let (more, cons, more_is) = subst (λ (o : Option (List Run)). GivesNext o (Some run) next_left) left_is gives in (
          made ++ run ∷ [],
          more,
          is ∙ ap (λ (runs : List Run). made ++ runs) cons ∙ sym (append_assoc made (run ∷ []) more),
          more_is,
          FoldsTo-push (λ (old : Option (List Named) × ℕ × Told N) (r : Run) (new : Option (List Named) × ℕ × Told N). MakesRun P contents tables r old.1 new.1 old.0 new.0 old.2 new.2) (named, sound, notes) made (next, failed, told) run (last, more_failed, after) each makes,
        )

    -- none comes any more
    pub makes-all : (runs left next_left : Option (List Run)) (sound failed : ℕ) (named next : Option (List Named)) (notes told : Told N)
        → MakesFirst P contents tables runs left sound failed named next notes told → GivesNext left None next_left → MakesAll P contents tables runs sound failed named next notes told
    makes-all None left next_left sound failed named next notes told first gives = tt
    makes-all (Some runs) left next_left sound failed named next notes told (made, rest, is, left_is, each) gives =
        let none : rest ≡ [] = subst (λ (o : Option (List Run)). GivesNext o None next_left) left_is gives in
        let all : runs ≡ made = is ∙ ap (λ (more : List Run). made ++ more) none ∙ append-nil made in
        subst (λ (done : List Run). MakesEach P contents tables done sound failed named next notes told) (sym all) each
