use Rattle.mrp_book.proofs.Histories.{prefix-covered, legal-lines, legal-more, reply-some, reply-unique, history-some, history-unique}
use Rattle.mrp_book.proofs.Promised.{desks}
use Rattle.mrp_turn.proofs.Counts.{all_counted}
use Rattle.mrp_book.proofs.laws.histories.Goals as goal

pub returns-clause-covered : goal.returns-clause-covered
returns-clause-covered c = prefix-covered

pub returns-clause-more : goal.returns-clause-more
returns-clause-more c = legal-more

pub returns-clause-one_reply : goal.returns-clause-one_reply
returns-clause-one_reply c = reply-unique

pub returns-clause-one_history : goal.returns-clause-one_history
returns-clause-one_history c = history-unique

pub returns-clause-desks : goal.returns-clause-desks
returns-clause-desks c = desks

pub returns-clause-lines : goal.returns-clause-lines
returns-clause-lines c = legal-lines

pub returns-clause-some_reply : goal.returns-clause-some_reply
returns-clause-some_reply c = reply-some

pub returns-clause-some_history : goal.returns-clause-some_history
returns-clause-some_history c = history-some

pub returns-clause-counts : goal.returns-clause-counts
returns-clause-counts c = λ s h legal. all_counted 64 h (desks s h legal)
