-- So much is available.
use Rattle.mrp_master.specs.Supply.{supply_of}
use Rattle.mrp_master.proofs.Promises.{available_is}
use Rattle.mrp_book.specs.Bookings.{lines_of}
use Rattle.mrp_report.proofs.laws.promising.Goals as goal

pub returns : goal.returns
returns c = λ s i week master inside stands. available_is (supply_of s.tables) (lines_of s.standing) i master stands.covered week inside
