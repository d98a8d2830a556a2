use Rattle.mrp_facts.proofs.Found.{receipt-of}
use Rattle.mrp_facts.proofs.Named.{no-receipt}
use Rattle.mrp_facts.proofs.laws.open_orders_have_their_receipts.Goals as goal

pub returns-clause-found : goal.returns-clause-found
returns-clause-found c = receipt-of

pub returns-clause-missing : goal.returns-clause-missing
returns-clause-missing c = no-receipt
