use Rattle.std.proofs.Common.{ℕ, List, Ok, Err, refl, subst}
use Rattle.mrp_audit.specs.Verdict.{Judges}
use Rattle.mrp_main.proofs.check.check_day.Goals as goal

pub returns-in-Ok : goal.returns-in-Ok
returns-in-Ok g c =
    let judged : Judges c.in-Ok.bundle.items c.in-Ok.day.items c.check-found.result =
    subst (λ (x : List ℕ). Judges x c.in-Ok.day.items c.check-found.result) c.as_slice.ensures.value
    (subst (λ (x : List ℕ). Judges c.as_slice.result.now x c.check-found.result) c.as_slice-in-Ok.ensures.value c.check-found.ensures.verdict) in
    record { both = Ok (c.in-Ok.bundle.items, c.in-Ok.day.items); are_read = c.in-Ok.ensures; ends = (c.check-found.result, judged, c.tell_found.ensures) }

pub returns-in-Err : goal.returns-in-Err
returns-in-Err g c = record { both = Err c.in-Err.fault; are_read = c.in-Err.ensures; ends = (c.of_read.ensures, refl) }
