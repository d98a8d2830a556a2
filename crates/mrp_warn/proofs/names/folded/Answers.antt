use Rattle.std.proofs.Common.{◌≡◌, ◌∙◌, List, ℕ, true, ap}
use Rattle.std.specs.Prelude.{Option, Some, None}
use Rattle.mrp_rows.specs.Name.{is_name, name_in}
use Rattle.mrp_warn.specs.Names.{folded}
use Rattle.mrp_warn.proofs.Namings.{folded-name}
use Rattle.mrp_warn.proofs.names.folded.Goals as goal

none-some : (text : List ℕ) (o : Option (List ℕ)) → is_name text ≡ true → o ≡ name_in text → o ≡ None → ⊥
none-some text o is given none = let some : name_in text ≡ Some text = rw is in cc

pub unreachable-requires : goal.unreachable-requires
unreachable-requires c =
    let text : c.deref.result.now ≡ folded c.as_bytes.result.now = c.deref.ensures.value ∙ c.in_ok-text.ensures in
    none-some c.deref.result.now c.new.result (ap is_name text ∙ folded-name c.as_bytes.result.now c.as_bytes.ensures.name) c.new.ensures c.in-None.is
