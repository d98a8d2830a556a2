-- What holds of the replies in a state.
use Rattle.std.proofs.Common.{ℕ, ◌≡◌, ◌+◌, inl, inr, Bool, true, false, if◌then◌else◌, nat_le, arith, ◌∙◌, ap}
use Rattle.std.proofs.lemmas.Bool.{cases_lt}
use Rattle.std.proofs.lemmas.Bool.Decides.{nat_tests}
use Rattle.mrp_master.specs.declared.line.Line.{Line}
use Rattle.mrp_master.specs.Supply.{CanPromise}
use Rattle.mrp_book.specs.declared.call.Call.TheVariants as call
use Rattle.mrp_book.specs.declared.reply.Reply.TheVariants as reply
use Rattle.mrp_book.specs.BookState.{BookState}
use Rattle.mrp_book.specs.Bookings.{lines_of}
use Rattle.mrp_book.specs.History.{IsReplyIn}

-- a call answered Booked can be promised, and has the next number
pub accepted : (b : BookState) (desk number : ℕ) (l : Line) → IsReplyIn b desk (call.Book l) (reply.Booked number) → CanPromise b.supply (lines_of b.standing) l.item l.quantity l.week × (number ≡ b.entries + 1)
accepted b desk number l (a, available, e) = elim (cases_lt a l.quantity) [
  | inl short ↦
      let t : nat_le l.quantity a ≡ false = grind (arith, nat_tests) in
      let same : reply.Booked number ≡ reply.Short a = e ∙ ap (λ (v : Bool). if v then reply.Booked (b.entries + 1) else reply.Short a) t in
      absurd cc
  | inr enough ↦
      let t : nat_le l.quantity a ≡ true = grind (arith, nat_tests) in
      let same : reply.Booked number ≡ reply.Booked (b.entries + 1) = e ∙ ap (λ (v : Bool). if v then reply.Booked (b.entries + 1) else reply.Short a) t in
      ((a, available, enough), cc)
]
