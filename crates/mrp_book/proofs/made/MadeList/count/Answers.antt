use Rattle.std.proofs.Common.{◌∙◌, Bool, List, length, ap, rules, tests}
use Rattle.std.proofs.lemmas.Iterator.{YieldsList-from_slice}
use Rattle.std.proofs.lemmas.Iterator.Consumers.{YieldsList-from_filter, count_from_yields_List}
use Rattle.mrp_book.specs.declared.made.Made.{Made}
use Rattle.mrp_book.specs.Made.{standing_of}
use Rattle.mrp_book.proofs.MadeLists.{length-standing}
use Rattle.mrp_book.proofs.made.MadeList.count.Goals as goal

pub returns : goal.returns
returns c =
    let i = c.self.inside in
    count_from_yields_List c.filter.result c.count.result c.count.ensures.ran
    (YieldsList-from_filter _ (λ (s : Bool). s) (YieldsList-from_slice i.stands.items (cc)) c.filter.ensures.closure (λ x r q k. search (rules, tests)))
    ∙ length-standing i.bookings i.stands.items c.self.invariant ∙ ap (λ (all : List Made). length (standing_of all)) c.self.view_is
