use Rattle.std.proofs.Common.{length, ap, arith}
use Rattle.mrp_book.proofs.MadeLists.{length-made_of}
use Rattle.mrp_book.proofs.made.MadeList.len.Goals as goal

pub returns : goal.returns
returns c =
    let i = c.self.inside in
    omega (arith, c.len.ensures, i.stands.ok.0, ap length c.self.view_is, length-made_of i.bookings i.stands.items c.self.invariant)
