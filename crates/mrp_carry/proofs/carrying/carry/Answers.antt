use Rattle.std.proofs.Common.{ℕ, List, Result, Ok, Err}
use Rattle.mrp_tables.specs.Tables.{Tables}
use Rattle.mrp_script.specs.Opened.{IsAccepted}
use Rattle.mrp_carry.specs.Carries.{Carries, CarriesTables}
use Rattle.mrp_carry.specs.declared.carrying.Carried.{Carried}
use Rattle.mrp_carry.specs.declared.fault.CarryFault.{CarryFault}
use Rattle.mrp_carry.specs.declared.fault.CarryFault.TheVariants.{Refused, NoSuchStart, NoMemory}
use Rattle.mrp_carry.specs.declared.form.CarryForm.{CarryForm}
use Rattle.mrp_carry.proofs.carrying.carry.Goals as goal

-- what comes of the tables of an accepted bundle comes of the bundle
of-bundle : (bundle start : List ℕ) (form : CarryForm) (tables : Tables) (result : Result Carried CarryFault) → IsAccepted bundle tables → CarriesTables tables start form result → Carries bundle start form result
of-bundle bundle start form tables (Ok carried) accepted told = (tables, accepted, told)
of-bundle bundle start form tables (Err (NoSuchStart first last)) accepted told = (tables, accepted, told)
of-bundle bundle start form tables (Err (Refused f)) accepted told = absurd told
of-bundle bundle start form tables (Err NoMemory) accepted told = tt

pub returns : goal.returns
returns g c = of-bundle c.args.bundle.now c.args.start.now c.args.form c.in_ok-shop.shop.tables c.carry_of.result c.in_ok-shop.ensures c.carry_of.ensures
