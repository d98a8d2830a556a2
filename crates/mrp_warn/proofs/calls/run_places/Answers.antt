use Rattle.std.proofs.Common.{rules, Ok}
use borrow.Author.Tests.{tests}
use Rattle.std.specs.declared.alloc.AllocError.{AllocError}
use Rattle.std.proofs.lemmas.Iterator.{YieldsList-from_slice, items_from_collect}
use Rattle.std.proofs.lemmas.Iterator.Consumers.{YieldsList-at, YieldsList-from_enumerate, YieldsList-from_filter_map}
use Rattle.mrp_warn.specs.Calls.{run_place}
use Rattle.mrp_warn.proofs.calls.run_places.Goals as goal

pub returns : goal.returns
returns c =
    items_from_collect {E = AllocError} (Ok c.in_ok-own.own) c.in_ok-own.ensures.ran
    (YieldsList-from_filter_map _ (λ r. run_place r.0 r.1.call)
    (YieldsList-at c.filter_map.ensures.source (YieldsList-from_enumerate (YieldsList-at c.enumerate.ensures.source (YieldsList-from_slice c.args.history.now (cc))) (cc)))
    c.filter_map.ensures.closure (λ x r q k. search (rules, tests)))
