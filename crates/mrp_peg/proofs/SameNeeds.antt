-- Requirements are the same by `==` exactly if they are by their definition.
use Rattle.std.proofs.Common.{◌≡◌, ◌==◌, ◌&&◌, refl, ap}
use Rattle.mrp_peg.specs.contracts.peg.NeedPartialEq.TheImpl as needs
use Rattle.mrp_peg.specs.contracts.peg.NeedKindPartialEq.TheImpl as kinds
use Rattle.mrp_peg.specs.declared.peg.Need.{Need}
use Rattle.mrp_peg.specs.declared.peg.NeedKind.{NeedKind}
use Rattle.mrp_peg.specs.declared.peg.NeedKind.TheVariants as kind
use Rattle.mrp_peg.specs.Causes.{same_kind, same_need}

equal_kinds : (k l : NeedKind) → (kinds.ghosts).eq k l ≡ same_kind k l
equal_kinds (kind.Booking m) (kind.Booking n) = refl
equal_kinds (kind.Booking m) kind.Forecast = refl
equal_kinds (kind.Booking m) (kind.Service n) = refl
equal_kinds (kind.Booking m) (kind.Parent other n) = refl
equal_kinds kind.Forecast (kind.Booking n) = refl
equal_kinds kind.Forecast kind.Forecast = refl
equal_kinds kind.Forecast (kind.Service n) = refl
equal_kinds kind.Forecast (kind.Parent other n) = refl
equal_kinds (kind.Service m) (kind.Booking n) = refl
equal_kinds (kind.Service m) kind.Forecast = refl
equal_kinds (kind.Service m) (kind.Service n) = refl
equal_kinds (kind.Service m) (kind.Parent other n) = refl
equal_kinds (kind.Parent line m) (kind.Booking n) = refl
equal_kinds (kind.Parent line m) kind.Forecast = refl
equal_kinds (kind.Parent line m) (kind.Service n) = refl
equal_kinds (kind.Parent line m) (kind.Parent other n) = refl

pub equal_needs : (a b : Need) → (needs.ghosts).eq a b ≡ same_need a b
equal_needs a b = ap (λ k. (a.item == b.item) && ((a.week == b.week) && k)) (equal_kinds a.kind b.kind)
