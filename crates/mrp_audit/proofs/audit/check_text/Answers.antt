use Rattle.std.proofs.Common.{List, ℕ, Ok, Option, subst}
use Rattle.mrp_book.specs.Books.{OrderBook}
use Rattle.mrp_engine.specs.day.Day.{runs_of}
use Rattle.mrp_audit.specs.Parts.{ComparesReports}
use Rattle.mrp_audit.specs.Replays.{FindsHistory}
use Rattle.mrp_audit.proofs.Replays.{followed-judged}
use Rattle.mrp_audit.proofs.audit.check_text.Goals as goal

pub returns : goal.returns
returns g c =
    let t = c.args.shop.tables in
    let h = c.in-Some.history.entries in
    let text = c.args.text.now in
    let compared = subst (λ (x : List ℕ). ComparesReports (runs_of t h) x c.check_runs.result) c.split_at.ensures.back c.check_runs.ensures in
    let found = subst (λ (o : Option (OrderBook × ℕ)). FindsHistory t text (Ok o)) c.in-Some.is c.in_ok-history.ensures in
    followed-judged t h text c.in-Some.len c.check_runs.result c.requires found.1 compared
