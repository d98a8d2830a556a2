use Rattle.mrp_script.proofs.OneOpening.{one-fault}
use Rattle.mrp_engine.proofs.OneOutcome.{one-text, one-name, text-or-fault, text-or-name, fault-or-name}
use Rattle.mrp_engine.proofs.laws.one_day.Goals as goal

pub returns-clause-text : goal.returns-clause-text
returns-clause-text c = one-text

pub returns-clause-fault : goal.returns-clause-fault
returns-clause-fault c = one-fault

pub returns-clause-name : goal.returns-clause-name
returns-clause-name c = one-name

pub returns-clause-text_or_fault : goal.returns-clause-text_or_fault
returns-clause-text_or_fault c = text-or-fault

pub returns-clause-text_or_name : goal.returns-clause-text_or_name
returns-clause-text_or_name c = text-or-name

pub returns-clause-fault_or_name : goal.returns-clause-fault_or_name
returns-clause-fault_or_name c = fault-or-name
