-- Orders, and quantities due, are the same by `==` exactly if they are equal.
use Rattle.std.proofs.Common.{◌≡◌, ℕ, true, eqb, refl, subst}
use Rattle.std.specs.Bool.{Decides}
use Rattle.std.proofs.lemmas.Bool.{and_from, and_parts, eq-eqb, eqb-true}
use Rattle.mrp_item.specs.contracts.due.DuePartialEq.TheImpl as dues
use Rattle.mrp_item.specs.contracts.order.OrderPartialEq.TheImpl as orders
use Rattle.mrp_item.specs.contracts.order.OrderKindPartialEq.TheImpl as kinds
use Rattle.mrp_item.specs.declared.due.Due.{Due}
use Rattle.mrp_item.specs.declared.order.Order.{Order}
use Rattle.mrp_item.specs.declared.order.OrderKind.{OrderKind}
use Rattle.mrp_item.specs.declared.order.OrderKind.TheVariants.{Firm, Planned}

same_kind : (k l : OrderKind) → (kinds.ghosts).eq k l ≡ true → k ≡ l
same_kind Firm Firm h = refl
same_kind Firm Planned h = absurd (cc)
same_kind Planned Firm h = absurd (cc)
same_kind Planned Planned h = refl

itself_kind : (k : OrderKind) → (kinds.ghosts).eq k k ≡ true
itself_kind Firm = refl
itself_kind Planned = refl

itself : (n : ℕ) → eqb n n ≡ true
itself n = eq-eqb n n refl

pub same_order : (a b : Order) → Decides ((orders.ghosts).eq a b) (a ≡ b)
same_order a b = ((λ h. to h), (λ e. subst (λ (x : Order). (orders.ghosts).eq a x ≡ true) e own))
  where
    to : (orders.ghosts).eq a b ≡ true → a ≡ b
    to h =
        let (q, r1) = and_parts (eqb a.quantity b.quantity) _ h in
        let (s, r2) = and_parts (eqb a.start b.start) _ r1 in
        let (d, r3) = and_parts (eqb a.due b.due) _ r2 in
        let (r, r4) = and_parts (eqb a.release b.release) _ r3 in
        let (l, k) = and_parts (eqb a.late b.late) ((kinds.ghosts).eq a.kind b.kind) r4 in
        (λ i. record {
          quantity = eqb-true a.quantity b.quantity q i;
          start = eqb-true a.start b.start s i;
          due = eqb-true a.due b.due d i;
          release = eqb-true a.release b.release r i;
          late = eqb-true a.late b.late l i;
          kind = same_kind a.kind b.kind k i;
        })

    own : (orders.ghosts).eq a a ≡ true
    own = and_from _ _ (itself a.quantity) (and_from _ _ (itself a.start) (and_from _ _ (itself a.due) (and_from _ _ (itself a.release) (and_from _ _ (itself a.late) (itself_kind a.kind)))))

pub same_due : (a b : Due) → Decides ((dues.ghosts).eq a b) (a ≡ b)
same_due a b = ((λ h. to h), (λ e. subst (λ (x : Due). (dues.ghosts).eq a x ≡ true) e own))
  where
    to : (dues.ghosts).eq a b ≡ true → a ≡ b
    to h =
        let (n, r1) = and_parts (eqb a.number b.number) _ h in
        let (w, q) = and_parts (eqb a.week b.week) (eqb a.quantity b.quantity) r1 in
        (λ i. record { number = eqb-true a.number b.number n i; week = eqb-true a.week b.week w i; quantity = eqb-true a.quantity b.quantity q i })

    own : (dues.ghosts).eq a a ≡ true
    own = and_from _ _ (itself a.number) (and_from _ _ (itself a.week) (itself a.quantity))
