-- How many calls bring a batch.
use Rattle.std.proofs.Common.{◌≡◌, ◌+◌, ◌∙◌, ℕ, List, [], ◌∷◌, ◌++◌, Option, sym, ap, subst, append-nil, length-append, arith}
use Rattle.std.specs.List.{concat}
use Rattle.std.specs.Io.KnownBytes.{Consumes, Keeps}
use Rattle.std.proofs.KnownBytes.{Consumes-kept, Consumes-nil, Consumes-trans}
use Rattle.std.proofs.lemmas.List.Elements.{All-nil, All-push}
use Rattle.std.proofs.lemmas.List.Folds.{concat-append}
use Rattle.mrp_rows.specs.declared.told.Told.{Told}
use Rattle.mrp_rows.specs.Told.{HasRisenBy, calls_of, counted, inner_of, interrupted_of}
use Rattle.mrp_intake.specs.Intake.{Gives, IsPart}

module _ {R : Type 0} (remaining : R → Option (List ℕ)) where
  -- there was none yet
  pub gives-none : (r : Told R) → Gives remaining r r 0 []
  gives-none r = record {
    parts = [];
    are = All-nil IsPart;
    bytes = Consumes-nil (remaining (inner_of r));
    retried = 0;
    interrupted = omega arith;
    few = omega arith;
  }

  joined-on : (parts : List (List ℕ)) (given : List ℕ) → (concat parts ++ []) ++ given ≡ concat (parts ++ given ∷ []) ++ []
  joined-on parts given =
      ap (λ (l : List ℕ). l ++ given) (append-nil (concat parts))
      ∙ ap (λ (l : List ℕ). concat parts ++ l) (sym (append-nil given))
      ∙ sym (concat-append parts (given ∷ []))
      ∙ sym (append-nil (concat (parts ++ given ∷ [])))

  -- one more gave a part of a line
  pub gives-part : (old now next : Told R) (given : List ℕ) → Gives remaining old now 0 [] → Consumes (remaining (inner_of now)) (remaining (inner_of next)) given → IsPart given
      → calls_of next ≡ counted 1 (calls_of now) → HasRisenBy 0 (interrupted_of now) (interrupted_of next) → Gives remaining old next 0 []
  gives-part old now next given g k part calls same = record {
    parts = g.parts ++ given ∷ [];
    are = All-push IsPart g.parts given g.are part;
    bytes = subst (Consumes (remaining (inner_of old)) (remaining (inner_of next))) (joined-on g.parts given) (Consumes-trans _ _ _ (concat g.parts ++ []) given g.bytes k);
    retried = g.retried;
    interrupted = omega (arith, g.interrupted, same);
    few = (let size = length-append g.parts (given ∷ []) in omega (arith, g.few, calls, size));
  }

  -- one more was interrupted
  pub gives-again : (old now next : Told R) → Gives remaining old now 0 [] → Keeps (remaining (inner_of now)) (remaining (inner_of next))
      → calls_of next ≡ counted 1 (calls_of now) → HasRisenBy 1 (interrupted_of now) (interrupted_of next) → Gives remaining old next 0 []
  gives-again old now next g k calls risen = record {
    parts = g.parts;
    are = g.are;
    bytes = Consumes-kept (remaining (inner_of old)) (remaining (inner_of now)) (remaining (inner_of next)) (concat g.parts ++ []) g.bytes k;
    retried = g.retried + 1;
    interrupted = omega (arith, g.interrupted, risen);
    few = omega (arith, g.few, calls);
  }

  -- and the last one gave this
  pub gives-last : (old now next : Told R) (last : List ℕ) → Gives remaining old now 0 [] → Consumes (remaining (inner_of now)) (remaining (inner_of next)) last
      → calls_of next ≡ counted 1 (calls_of now) → HasRisenBy 0 (interrupted_of now) (interrupted_of next) → Gives remaining old next 1 last
  gives-last old now next last g k calls same = record {
    parts = g.parts;
    are = g.are;
    bytes = subst (Consumes (remaining (inner_of old)) (remaining (inner_of next))) (ap (λ (l : List ℕ). l ++ last) (append-nil (concat g.parts))) (Consumes-trans _ _ _ (concat g.parts ++ []) last g.bytes k);
    retried = g.retried;
    interrupted = omega (arith, g.interrupted, same);
    few = omega (arith, g.few, calls);
  }
