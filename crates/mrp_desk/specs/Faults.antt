-- When opening an office is refused. Profile.
use Rattle.std.specs.Prelude.{◌≡◌, ℕ, ◌<◌, ◌≤◌, ◌⊎◌}
use Rattle.mrp_desk.specs.declared.fault.OfficeFault.{OfficeFault}
use Rattle.mrp_desk.specs.declared.fault.OfficeFault.TheVariants.{Desks, NoMemory}
use Rattle.mrp_tables.specs.declared.limits.TheConstants.{MOST_DESKS}

-- the fault says whether the number of desks is out of range
abbrev pub HasFault : ℕ → OfficeFault → Type 0
HasFault desks Desks = (desks ≡ 0) ⊎ (MOST_DESKS < desks)
HasFault desks NoMemory = (1 ≤ desks) × (desks ≤ MOST_DESKS)
