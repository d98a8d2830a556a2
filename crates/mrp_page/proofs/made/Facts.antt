-- What a page may show, and what the tables say.
use Rattle.std.proofs.Common.{◌≡◌, ◌-◌, ℕ, Option, None, Some, List}
use Rattle.mrp_facts.specs.Dates.{in_week}
use Rattle.mrp_facts.specs.Facts.{Facts, item_facts, open_order}
use Rattle.mrp_facts.specs.declared.facts.ItemFacts.{ItemFacts}
use Rattle.mrp_tables.specs.Versions.{lead_unit}
use Rattle.mrp_tables.specs.declared.rows.Receipt.{Receipt}
use Rattle.mrp_page.specs.ItemFacts.{facts_cells}
use Rattle.mrp_page.specs.Receipts.{receipt_cells}
use Rattle.std.specs.List.{All, Contains}
use Rattle.mrp_page.specs.Explained.{explained_texts}
use Rattle.mrp_page.specs.Known.{IsMadeOf, small_words}
use Rattle.mrp_page.specs.layout.Items.{order}
use Rattle.mrp_page.specs.layout.Records.{week}
use Rattle.mrp_page.specs.Row.{RowView}
use Rattle.mrp_page.specs.Work.{WorkView, works_of}
use Rattle.mrp_work.specs.declared.order.Work.{Work}

-- what a page may show: texts that are known, links to items, to entries and to orders; some words are known of themselves
pub record Vocabulary : Type 1 where
  pub Known : List ℕ → Type 0
  pub Shown : List ℕ → Type 0
  pub Kept : List ℕ → Type 0
  pub Ordered : List ℕ → List ℕ → Type 0
  pub words : (w : List ℕ) → Contains small_words w → Known w

-- a text consists of such pieces
abbrev pub Made : Vocabulary → List ℕ → Type 0
Made v html = IsMadeOf v.Known v.Shown v.Kept v.Ordered html

-- what the tables say is known: dates of weeks, facts of items, receipts of open orders
pub record FactsKnown (K : List ℕ → Type 0) (facts : Facts) : Type 0 where
  pub dated : (week : ℕ) → K (in_week facts.dates week)
  pub of-items : (name : List ℕ) (own : ItemFacts) → item_facts facts.tables name ≡ Some own → All K (facts_cells (lead_unit facts.tables.version) own)
  pub of-orders : (name order : List ℕ) (own : Receipt) → open_order facts.tables name order ≡ Some own → All K (receipt_cells own)

abbrev pub TablesKnown : (List ℕ → Type 0) → Option Facts → Type 0
TablesKnown K None = Unit {0}
TablesKnown K (Some facts) = FactsKnown K facts

-- so are the texts of the operations that load overloads
abbrev pub WorksKnown : (List ℕ → Type 0) → Option WorkView → List RowView → Type 0
WorksKnown K None ls = Unit {0}
WorksKnown K (Some work) ls = (load : RowView) → Contains ls load → (works : List Work) → works_of work load ≡ Some works → All K (explained_texts load works)
