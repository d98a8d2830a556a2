-- The runs of a legal history are handed over.
use Rattle.std.proofs.Common.{◌≡◌, ◌∙◌, ℕ, ◌+◌, ◌<◌, false, List, [], ◌∷◌, ◌++◌, Option, inl, inr, length, take, get_or, subst, sym, ap, ap₂}
use Rattle.std.specs.List.{All, FoldsTo}
use Rattle.std.proofs.lemmas.Fn.{FoldsTo-push}
use Rattle.std.proofs.lemmas.List.{get_or_default, take_more}
use Rattle.std.proofs.lemmas.List.Elements.{All-from_get_or, All-get_or, All-nil, All-weaker}
use Rattle.mrp_tables.specs.Tables.{Tables}
use Rattle.mrp_turn.specs.declared.log.Entry.{Entry}
use Rattle.mrp_master.specs.Supply.{supply_of}
use Rattle.mrp_book.specs.declared.call.Call.{Call}
use Rattle.mrp_book.specs.declared.reply.Reply.{Reply}
use Rattle.mrp_book.specs.History.{IsLegal}
use Rattle.mrp_book.specs.Standing.{History}
use Rattle.mrp_runs.proofs.Histories.{run-of}
use Rattle.mrp_runs.specs.File.{IsRun}
use Rattle.mrp_runs.specs.declared.run.Run.{Run}
use Rattle.mrp_words.specs.Folder.{IsThere, Known}
use Rattle.mrp_open.specs.Runs.{Handed, Hands, HandsUnless, IsRunOf}

-- the runs of a legal history of the shop
runs-are : (tables : Tables) (h : History) → IsLegal (supply_of tables) h → All (IsRunOf (IsRun tables)) h
runs-are tables [] legal = All-nil (IsRunOf (IsRun tables))
runs-are tables (e ∷ h) legal =
    All-from_get_or (IsRunOf (IsRun tables)) (e ∷ h) e
    (λ k within t taken. run-of tables (e ∷ h) k (get_or (e ∷ h) k e) t legal within (get_or_default (e ∷ h) k e (get_or (e ∷ h) k e) within) taken)

-- they may be given to whom takes runs of the shop
pub runs-of : (P : Run → Type 0) (tables : Tables) (h : History) → IsLegal (supply_of tables) h → ((run : Run) → IsRun tables run → P run) → All (IsRunOf P) h
runs-of P tables h legal takes =
    All-weaker (IsRunOf (IsRun tables)) (IsRunOf P) (λ e is t taken. takes (record { desk = e.who; snapshot = t }) (is t taken)) h (runs-are tables h legal)

-- one of them, by its place
pub run-at : (P : Run → Type 0) (h : History) (k : ℕ) (e : Entry Call Reply) → All (IsRunOf P) h → k < length h → e ≡ get_or h k e → IsRunOf P e
run-at P h k e all within is = subst (IsRunOf P) (sym is) (All-get_or (IsRunOf P) h k e within all)

-- one more entry
pub folds-next : {P : Type 0} (R : P → Entry Call Reply → P → Type 0) (a b c : P) (h : History) (k : ℕ) (e : Entry Call Reply) → FoldsTo R a (take k h) b → R b e c → k < length h → e ≡ get_or h k e → FoldsTo R a (take (k + 1) h) c
folds-next {P} R a b c h k e folds one within is =
    subst (λ (es : History). FoldsTo R a es c) (sym (take_more h k e within ∙ ap (λ (x : Entry Call Reply). take k h ++ x ∷ []) (sym is)))
    (FoldsTo-push R a (take k h) b e c folds one)

-- a run whose file is not there is handed over
pub handed-missing : (known : Known) (path : List ℕ) (run : Run) (old new : Handed) → IsThere known path false → Hands run old new → HandsUnless known path run old new
handed-missing known path run old new absent (inl given) = inl (given, absent)
handed-missing known path run old new absent (inr missed) = inr (inl missed)

-- takers that were told of the same runs and given the same
pub same-handed : (a b : Handed) → a.told ≡ b.told → a.given ≡ b.given → a ≡ b
same-handed a b told given = ap₂ (λ (t : Option (List ℕ)) (g : Option (List Run)). let h : Handed = record { told = t; given = g } in h) told given
