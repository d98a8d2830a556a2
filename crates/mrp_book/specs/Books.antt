-- Order books, as contracts see them.
use Rattle.std.specs.Prelude.{◌≡◌, ◌≤◌, length}
use Rattle.mrp_tables.specs.declared.limits.TheConstants.{MOST_ENTRIES}
use Rattle.mrp_master.specs.Supply.{Supply}
use Rattle.mrp_book.specs.BookState.{BookState}
use Rattle.mrp_book.specs.Standing.{History}
use Rattle.mrp_book.specs.History.{IsLegal, state_of}

-- the supply that is promised from, and the entries that were made
pub record OrderBook : Type 0 where
  pub supply : Supply
  pub entries : History

-- the entries of a history are legal, and within a book's limit
pub record IsHistory (s : Supply) (h : History) : Type 0 where
  pub legal : IsLegal s h
  pub few : length h ≤ MOST_ENTRIES

-- a book's entries are a history, and lead to its state
pub record KeepsHistory (state : BookState) (h : History) : Type 0 where
  pub history : IsHistory state.supply h
  pub left : state ≡ state_of state.supply h
