-- What contracts see of a cursor, by the text that it has left.
use Rattle.std.specs.Prelude.{[], if◌then◌else◌, map}
use Rattle.csv.specs.declared.parser.State.TheVariants as st
use Rattle.mrp_rows.specs.declared.cursor.Cursor.TheInside.{Inside}
use Rattle.mrp_rows.specs.Left.{Left}
use Rattle.mrp_rows.specs.Records.{records_in}

-- none once it is done, otherwise those of its text
abbrev pub left_of : Inside → Left
left_of c = record {
  layout = record { table = c.table; columns = map (λ name. name.now) c.columns.now };
  number = c.number;
  left = if c.done then [] else records_in st.StartRecord [] [] c.text.now;
  is_over = c.done;
}
