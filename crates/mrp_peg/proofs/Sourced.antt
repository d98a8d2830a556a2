-- The sources of a requirement, and whether it is among some.
use Rattle.std.proofs.Common.{◌≡◌, ℕ, ◌-◌, ◌<◌, ◌&&◌, ◌||◌, Bool, true, false, List, [], ◌∷◌, length, refl, ap, arith, Option, Some, None, leb-true, ltb-true}
use Rattle.std.specs.Prelude.{All, IfSome, if◌then◌else◌, nat_le, nat_lt}
use Rattle.std.specs.List.{list_any}
use Rattle.std.proofs.lemmas.Bool.{and_parts}
use Rattle.mrp_tables.specs.declared.rows.BillLine.{BillLine}
use Rattle.mrp_bill.specs.Bill.{line_at}
use Rattle.mrp_item.specs.Inputs.{Inputs}
use Rattle.mrp_peg.specs.declared.matching.Requirement.{Requirement}
use Rattle.mrp_peg.specs.declared.peg.Need.{Need}
use Rattle.mrp_peg.specs.declared.peg.NeedKind.{NeedKind}
use Rattle.mrp_peg.specs.declared.peg.NeedKind.TheVariants as kind
use Rattle.mrp_peg.specs.Causes.{is_need_of, order_for, order_pegs, sources_of}
use Rattle.mrp_peg.specs.Matching.{amounts_required}

pub some_value : {X : Type 0} (x y : X) → Some x ≡ Some y → x ≡ y
some_value x y e = cc

-- the parent's order that a requirement is for is of an item
pub order_within : (lines : List BillLine) (n : ℕ) → All (λ (l : BillLine). l.parent < n) lines → (k : NeedKind) (e : ℕ × ℕ) → order_for lines k ≡ Some e → e.0 < n
order_within lines n within (kind.Booking m) e is = let none : Option (ℕ × ℕ) = None in let f : none ≡ Some e = is in absurd (cc)
order_within lines n within kind.Forecast e is = let none : Option (ℕ × ℕ) = None in let f : none ≡ Some e = is in absurd (cc)
order_within lines n within (kind.Service m) e is = let none : Option (ℕ × ℕ) = None in let f : none ≡ Some e = is in absurd (cc)
order_within lines n within (kind.Parent line number) e is = by (nat_lt 0 line && nat_le line (length lines)) refl is
  where
    by : (b : Bool) → (nat_lt 0 line && nat_le line (length lines)) ≡ b → (if b then Some ((line_at lines (line - 1)).parent, number) else None) ≡ Some e → e.0 < n
    by true inside is =
        let (low, high) = and_parts (nat_lt 0 line) (nat_le line (length lines)) inside in
        let same = some_value ((line_at lines (line - 1)).parent, number) e is in
        let small = within (line - 1) (record { parent = 0; component = 0; per = 0 }) (omega (arith, ltb-true 0 line low, leb-true line (length lines) high)) in
        omega (arith, small, ap (λ (x : ℕ × ℕ). x.0) same)
    by false inside is = let none : Option (ℕ × ℕ) = None in let f : none ≡ Some e = is in absurd (cc)

if_some : (n : ℕ) (o : Option (ℕ × ℕ)) → ((e : ℕ × ℕ) → o ≡ Some e → e.0 < n) → IfSome o (λ e. e.0 < n)
if_some n None small = tt
if_some n (Some e) small = small e refl

pub order_small : (lines : List BillLine) (n : ℕ) → All (λ (l : BillLine). l.parent < n) lines → (k : NeedKind) → IfSome (order_for lines k) (λ e. e.0 < n)
order_small lines n within k = if_some n (order_for lines k) (λ e is. order_within lines n within k e is)

-- the sources of a requirement of the plan, and of one that is not the plan's
pub sources-there : (s : Inputs) (m : Need) → is_need_of s m ≡ true → sources_of s m ≡ order_pegs s (order_for s.tables.bills m.kind)
unfolding sources_of
sources-there s m has = ap (λ b. if b then order_pegs s (order_for s.tables.bills m.kind) else []) has

pub sources-absent : (s : Inputs) (m : Need) → is_need_of s m ≡ false → sources_of s m ≡ []
unfolding sources_of
sources-absent s m none = ap (λ b. if b then order_pegs s (order_for s.tables.bills m.kind) else []) none

-- a test of amounts is one of what the program lists
pub any_required : (test : Need → Bool) (needs : List Requirement) → list_any (λ a. test a.of) (amounts_required needs) ≡ list_any (λ w. test w.need) needs
any_required test [] = refl
any_required test (w ∷ needs) = ap (λ b. test w.need || b) (any_required test needs)
