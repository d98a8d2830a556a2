use Rattle.std.specs.Prelude.{Option, Some, None}
use Rattle.std.proofs.Common.{ℕ, refl, subst}
use Rattle.mrp_master.specs.Supply.{IsEarliest}
use Rattle.mrp_book.specs.BookState.{BookState}
use Rattle.mrp_book.specs.Bookings.{lines_of}
use Rattle.mrp_book.proofs.state.BookState.reply_to_when.Goals as goal
use Rattle.mrp_book.proofs.state.BookState.reply_to_when.Goals.{After-earliest}

-- what is found for the item and the pieces that the accessors return is found for the wish's
of_wish : (c : After-earliest) (found : Option ℕ) → IsEarliest c.args.self.now.supply (lines_of c.args.self.now.standing) c.item.result c.quantity.result found
    → IsEarliest c.args.self.now.supply (lines_of c.args.self.now.standing) c.args.wish.item c.args.wish.quantity found
of_wish c found is =
    let b : BookState = c.args.self.now in
    subst (λ (item : ℕ). IsEarliest b.supply (lines_of b.standing) item c.args.wish.quantity found) c.item.ensures
    (subst (λ (quantity : ℕ). IsEarliest b.supply (lines_of b.standing) c.item.result quantity found) c.quantity.ensures is)

pub returns-in-Some : goal.returns-in-Some
returns-in-Some c = λ desk. (Some c.in-Some.week, of_wish (goal.at.returns-in-Some c).After-earliest (Some c.in-Some.week) c.in-Some.ensures, refl)

pub returns-in-None : goal.returns-in-None
returns-in-None c = λ desk. (None, of_wish (goal.at.returns-in-None c).After-earliest None c.in-None.ensures, refl)
