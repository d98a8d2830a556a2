use Rattle.std.proofs.Common.{ℕ, List, Ok, Err, refl, subst}
use Rattle.mrp_carry.specs.Carries.{Carries}
use Rattle.mrp_commands.proofs.carry.carry_folder.Goals as goal

pub returns-in-Ok : goal.returns-in-Ok
returns-in-Ok g c =
    let carried : Carries c.in-Ok.bundle.items c.args.start.now c.args.form c.carry-carried.result =
    subst (λ (x : List ℕ). Carries x c.args.start.now c.args.form c.carry-carried.result) c.as_slice.ensures.value
    (subst (λ (x : List ℕ). Carries c.as_slice.result.now x c.args.form c.carry-carried.result) c.as_bytes.ensures.value c.carry-carried.ensures) in
    record { read = Ok c.in-Ok.bundle.items; is_read = c.in-Ok.ensures; ends = (c.carry-carried.result, carried, c.tell_carried.ensures) }

pub returns-in-Err : goal.returns-in-Err
returns-in-Err g c = record { read = Err c.in-Err.fault; is_read = c.in-Err.ensures; ends = (c.of_read.ensures, refl) }
