-- What words ask for, from what clap returns for them.
use Rattle.std.proofs.Common.{◌∙◌, ◌≡◌, ◌⊎◌, inl, inr, ap, codes, [], List, Option, Some, None, option_and_then, option_map, Result, Ok, Err, true, refl, subst, sym}
use Rattle.std.specs.Prelude.{IfErr, IfOk, OnOk, OnErr}
use Rattle.std.specs.Result.{ForOk}
use Rattle.clap.specs.Walk.{Row, Text, first_of}
use Rattle.clap.specs.Kinds.{HasKind}
use Rattle.clap.specs.Faults.{is_simple_and_free}
use Rattle.clap.specs.Simple.{is_simple, subcommand_of}
use Rattle.clap.specs.Values.{kind_of}
use Rattle.clap.specs.declared.error.Error.{Error}
use Rattle.clap.specs.declared.error.kind.ErrorKind.{ErrorKind}
use Rattle.clap.specs.declared.error.kind.ErrorKind.TheVariants.{OutOfMemory}
use Rattle.mrp_words.specs.declared.command.Request.{Request}
use Rattle.mrp_words.specs.declared.command.NoRequest.{NoRequest}
use Rattle.mrp_words.specs.declared.command.NoRequest.TheVariants.{Help, Usage, NoMemory}
use Rattle.mrp_words.specs.Words.{Asks, HasFolder, IsAnswer, IsAsAsked, IsOfKind, dir_among, mrp_command, refusals}

-- the command is one whose refusals clap's definition gives
pub is-plain : is_simple_and_free mrp_command ≡ true
is-plain = refl

-- and whose matches it gives
pub is-simple-command : is_simple mrp_command ≡ true
is-simple-command = refl

-- the value of `--dir`, from the rows of the subcommand alone
among-rows : (found : Option (Text × List Row)) → option_and_then (first_of (codes "dir")) (option_map (λ p. p.1) found) ≡ dir_among found
among-rows None = refl
among-rows (Some p) = refl

-- if the matches have a subcommand
pub dir-in : {X : Type 0} (rows : X → List Row) (o : Option X) (x : X) (found : Option (Text × List Row)) → o ≡ Some x → option_map rows o ≡ option_map (λ p. p.1) found → first_of (codes "dir") (rows x) ≡ dir_among found
dir-in rows o x found is e = ap (option_and_then (first_of (codes "dir"))) (ap (option_map rows) (sym is) ∙ e) ∙ among-rows found

-- if they have none
pub dir-out : {X : Type 0} (rows : X → List Row) (o : Option X) (found : Option (Text × List Row)) → o ≡ None → option_map rows o ≡ option_map (λ p. p.1) found → None ≡ dir_among found
dir-out rows o found is e = ap (option_and_then (first_of (codes "dir"))) (ap (option_map rows) (sym is) ∙ e) ∙ among-rows found

-- words that are accepted ask for what clap finds in them
pub asked-for : (words : List Text) (r : Result Request NoRequest) → refusals words ≡ [] → IfOk r (λ request. IsAsAsked (subcommand_of mrp_command words) request)
    → IfOk r (λ request. HasFolder (subcommand_of mrp_command words) request) → IfErr r (λ none. none ≡ NoMemory) → Asks words r
asked-for words (Ok request) taken asked folder none = (taken, asked, folder)
asked-for words (Err e) taken asked folder none = subst (λ (e : NoRequest). Asks words (Err e)) (sym none) tt

-- help is not out of memory
answer-takes-memory : (kind : ErrorKind) → IsAnswer kind → kind ≡ OutOfMemory → ⊥
answer-takes-memory kind (inl help) none = cc
answer-takes-memory kind (inr version) none = cc

-- an error of clap's is what its words ask for
pub asked-by : (words : List Text) (error : Error) (r : NoRequest) → HasKind (refusals words) error → IsOfKind (kind_of error) r → Asks words (Err r)
asked-by words error (Help text) (inl none) answer = absurd (answer-takes-memory (kind_of error) answer none)
asked-by words error (Help text) (inr among) answer = (kind_of error, among, answer)
asked-by words error (Usage text) (inl none) wrong = absurd (wrong.0 none)
asked-by words error (Usage text) (inr among) wrong = (kind_of error, among, wrong.1)
asked-by words error NoMemory has none = tt

-- what is known of the value at Ok is known of each such value
pub for-ok : {T E : Type 0} (P : T → Type 0) (r : Result T E) → IfOk r P → ForOk r P
for-ok P (Ok x) p y e =
    let same : x ≡ y = cc in
    subst P same p
for-ok P (Err e) p y is = cc

-- a text is written whole, or in part to a stream that gave up
pub was-told : {T E : Type 0} (r : Result T E) (Whole GaveUp Front : Type 0) → OnOk r Whole → OnErr r GaveUp → OnErr r Front → Whole ⊎ (GaveUp × Front)
was-told (Ok x) Whole GaveUp Front whole gave_up front = inl whole
was-told (Err e) Whole GaveUp Front whole gave_up front = inr (gave_up, front)
