-- The rows of a group of pegs.
use Rattle.std.proofs.Common.{◌≡◌, ◌∙◌, ◌<◌, List, [], ◌∷◌, ◌++◌, ℕ, length, map, ap, arith, length-append}
use Rattle.std.specs.List.{flat_map}
use Rattle.std.proofs.lemmas.List.{length-map}
use Rattle.std.proofs.lemmas.List.Concat.{flat_map-append}
use Rattle.std.proofs.lemmas.List.Folds.{flat_map-map}
use Rattle.mrp_tables.specs.Tables.{Tables}
use Rattle.mrp_item.specs.declared.order.Order.{Order}
use Rattle.mrp_peg.specs.declared.matching.Requirement.{Requirement}
use Rattle.mrp_peg.specs.declared.peg.Peg.{Peg}
use Rattle.mrp_peg.specs.declared.peg_group.PegGroup.{PegGroup}
use Rattle.mrp_peg.specs.Groups.{group_peg}
use Rattle.mrp_report.specs.section.PegGroups.{whole_text}
use Rattle.mrp_report.specs.section.PegRows.{IsAdded}
use Rattle.mrp_report.specs.section.PegText.{peg_text}

-- a group's rows are put
pub group_added : (t : Tables) (name : List ℕ) (orders : List Order) (g : PegGroup) (needs : List Requirement) (pegs left : List Peg) (old new : List ℕ) → pegs ≡ map (group_peg g) needs ++ left → new ≡ old ++ flat_map (whole_text t name orders g) needs
    → IsAdded old new (flat_map (peg_text t name orders) pegs) (flat_map (peg_text t name orders) left)
group_added t name orders g needs pegs left old new are adds = record {
  text = flat_map (whole_text t name orders g) needs;
  put = adds;
  rest = ap (flat_map (peg_text t name orders)) are
      ∙ flat_map-append (peg_text t name orders) (map (group_peg g) needs) left
      ∙ ap (λ (l : List ℕ). l ++ flat_map (peg_text t name orders) left) (flat_map-map (peg_text t name orders) (group_peg g) needs);
}

-- and fewer are left
pub group_fewer : (g : PegGroup) (needs : List Requirement) (pegs left : List Peg) → pegs ≡ map (group_peg g) needs ++ left → 0 < length needs → length left < length pegs
group_fewer g needs pegs left are some = omega (arith, ap length are, length-append (map (group_peg g) needs) left, length-map needs (group_peg g), some)

-- a group of none leaves all
pub group_none : (g : PegGroup) (needs : List Requirement) (pegs left : List Peg) → pegs ≡ map (group_peg g) needs ++ left → length needs ≡ 0 → pegs ≡ left
group_none g [] pegs left are none = are
group_none g (r ∷ needs) pegs left are none = absurd (omega (arith, none))
