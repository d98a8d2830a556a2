use Rattle.mrp_facts.proofs.Found.{facts-of}
use Rattle.mrp_facts.proofs.Named.{no-item, stocked, unstocked}
use Rattle.mrp_facts.proofs.laws.facts_are_of_their_records.Goals as goal

pub returns-clause-item : goal.returns-clause-item
returns-clause-item c = facts-of

pub returns-clause-on_hand : goal.returns-clause-on_hand
returns-clause-on_hand c = stocked

pub returns-clause-none : goal.returns-clause-none
returns-clause-none c = unstocked

pub returns-clause-missing : goal.returns-clause-missing
returns-clause-missing c = no-item
