-- Logs of a board with one more entry.
use Rattle.std.proofs.Common.{◌≡◌, ◌==◌, ◌||◌, ◌&&◌, ℕ, Bool, true, false, if◌then◌else◌, [], ◌∷◌, ◌++◌, None, refl, sym}
use Rattle.std.specs.Prelude.{is_some}
use Rattle.mrp_board.specs.declared.call.BoardCall.{BoardCall}
use Rattle.mrp_board.specs.declared.call.BoardCall.TheVariants as call
use Rattle.mrp_board.specs.declared.reply.BoardReply.{BoardReply}
use Rattle.mrp_board.specs.Board.{BoardEntry, BoardLog, hands_out, has_stopped, is_out, is_out_to, is_stored, outcome_by, outcome_in, stops, stores}
use Rattle.mrp_board.proofs.Tests.{any-more, no}

pub out-more : (log : BoardLog) (e : BoardEntry) (i : ℕ) → is_out (log ++ e ∷ []) i ≡ (is_out log i || hands_out i e.reply)
out-more log e i = any-more (λ (x : BoardEntry). hands_out i x.reply) log e

pub out-to-more : (who : ℕ) (log : BoardLog) (e : BoardEntry) (i : ℕ) → is_out_to who (log ++ e ∷ []) i ≡ (is_out_to who log i || ((e.who == who) && hands_out i e.reply))
out-to-more who log e i = any-more (λ (x : BoardEntry). (x.who == who) && hands_out i x.reply) log e

pub stored-more : (log : BoardLog) (e : BoardEntry) (i : ℕ) → is_stored (log ++ e ∷ []) i ≡ (is_stored log i || stores i e.call e.reply)
stored-more log e i = any-more (λ (x : BoardEntry). stores i x.call x.reply) log e

pub stopped-more : (log : BoardLog) (e : BoardEntry) → has_stopped (log ++ e ∷ []) ≡ (has_stopped log || stops e.reply)
stopped-more log e = any-more (λ (x : BoardEntry). stops x.reply) log e

pub outcome-more : (log : BoardLog) (e : BoardEntry) (i : ℕ) → outcome_in (log ++ e ∷ []) i ≡ (if is_stored log i then outcome_in log i else (if stores i e.call e.reply then outcome_by e.call else None))
outcome-more [] e i = refl
outcome-more (x ∷ log) e i = by (stores i x.call x.reply) (outcome-more log e i)
  where
    by : (b : Bool) → outcome_in (log ++ e ∷ []) i ≡ (if is_stored log i then outcome_in log i else (if stores i e.call e.reply then outcome_by e.call else None))
        → (if b then outcome_by x.call else outcome_in (log ++ e ∷ []) i) ≡ (if b || is_stored log i then (if b then outcome_by x.call else outcome_in log i) else (if stores i e.call e.reply then outcome_by e.call else None))
    by true later = refl
    by false later = later

-- what is stored was brought
brings : (i : ℕ) (c : BoardCall) (r : BoardReply) → stores i c r ≡ true → is_some (outcome_by c) ≡ true
brings i (call.Finish o) r is = refl
brings i call.Take r is = no is
brings i call.GiveUp r is = no is

-- an item is stored if it has an outcome
pub stored-some : (log : BoardLog) (i : ℕ) → is_stored log i ≡ is_some (outcome_in log i)
stored-some [] i = refl
stored-some (e ∷ log) i = by (stores i e.call e.reply) refl (stored-some log i)
  where
    by : (b : Bool) → stores i e.call e.reply ≡ b → is_stored log i ≡ is_some (outcome_in log i) → (b || is_stored log i) ≡ is_some (if b then outcome_by e.call else outcome_in log i)
    by true is later = sym (brings i e.call e.reply is)
    by false is later = later
