use Rattle.mrp_page.proofs.Columns.{booked-is, firm-are, loads-are, needs-are, planned-is, record-is, scheduled-are}
use Rattle.mrp_page.proofs.laws.labels_stand_beside_their_columns.Goals as goal

pub returns-clause-record : goal.returns-clause-record
returns-clause-record c = record-is

pub returns-clause-needs : goal.returns-clause-needs
returns-clause-needs c = needs-are

pub returns-clause-scheduled : goal.returns-clause-scheduled
returns-clause-scheduled c = scheduled-are

pub returns-clause-firm : goal.returns-clause-firm
returns-clause-firm c = firm-are

pub returns-clause-planned : goal.returns-clause-planned
returns-clause-planned c = planned-is

pub returns-clause-booked : goal.returns-clause-booked
returns-clause-booked c = booked-is

pub returns-clause-loads : goal.returns-clause-loads
returns-clause-loads c = loads-are
