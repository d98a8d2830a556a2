-- Logs of boards with one more entry.
use Rattle.std.proofs.Common.{◌≡◌, ◌∙◌, ◌==◌, ◌||◌, ◌&&◌, ℕ, zero, suc, Bool, true, false, cond, [], ◌∷◌, ◌++◌, Option, Some, refl, sym, ap, arith}
use Rattle.std.proofs.lemmas.List.{reverse-append}
use Rattle.std.specs.Prelude.{reverse, find}
use Rattle.std.specs.List.{list_all, range_with_len}
use Rattle.mrp_item.specs.Inputs.{Inputs, count}
use Rattle.mrp_board.specs.Board.{BoardEntry, BoardLog, hands_out, held, is_finished, is_out, is_stored, item_in, item_of, settles}
use Rattle.mrp_board.proofs.BoardLogs.{out-more}
use Rattle.mrp_board.proofs.Tests.{other-number}

pub still-out : (log : BoardLog) (e : BoardEntry) (i : ℕ) → is_out log i ≡ true → is_out (log ++ e ∷ []) i ≡ true
still-out log e i is = out-more log e i ∙ ap (λ (b : Bool). b || hands_out i e.reply) is

held-cond : (b : Bool) (e : BoardEntry) (o : Option BoardEntry) → item_of (cond b (Some e) o) ≡ cond b (item_in e.reply) (item_of o)
held-cond true e o = refl
held-cond false e o = refl

-- what a worker holds after one more entry: if the entry decides it, the item that it hands out
pub held-more : (who : ℕ) (log : BoardLog) (e : BoardEntry) → held who (log ++ e ∷ []) ≡ cond ((e.who == who) && settles e.reply) (item_in e.reply) (held who log)
held-more who log e =
    ap (λ (l : BoardLog). item_of (find (λ (x : BoardEntry). (x.who == who) && settles x.reply) l)) (reverse-append log (e ∷ []))
    ∙ held-cond ((e.who == who) && settles e.reply) e (find (λ (x : BoardEntry). (x.who == who) && settles x.reply) (reverse log))

-- a board without an entry is finished if it has no item
none-stored : (a n : ℕ) → list_all (is_stored []) (range_with_len a n) ≡ (n == 0)
none-stored a zero = refl
none-stored a (suc n) = sym (other-number (suc n) 0 (λ e. absurd (omega (arith, e))))

pub finished-none : (s : Inputs) → is_finished s [] ≡ (count s == 0)
finished-none s = none-stored 0 (count s)
