-- The supply of an item in each week, line by line.
use Rattle.std.proofs.Common.{ℕ, ◌≡◌, ◌≢◌, ◌≤◌, ◌<◌, ◌+◌, ◌-◌, ◌&&◌, inl, inr, Bool, true, false, cond, eqb, leb, List, [], length, get_or, set, take, replicate, arith, refl, sym, ◌∙◌, ap, subst}
use Rattle.std.specs.Prelude.{All, sum}
use Rattle.std.proofs.lemmas.Bool.{cases_eq, eq-eqb, eqb-true, ne_eqb, leb-false}
use Rattle.std.proofs.lemmas.List.{length-replicate, length-set, take_all}
use Rattle.std.proofs.lemmas.List.Sums.{sum_by-le-sum_by, sum_by_more, sum_by_more_le}
use Rattle.mrp_phase.specs.Weeks.{in_week, row, with_week}
use Rattle.mrp_phase.proofs.WeekRows.{in_week_at, in_week_changed, in_week_kept, in_week_replicate, row_is, with_week_at}
use Rattle.mrp_master.specs.declared.line.Line.{Line}
use Rattle.mrp_master.specs.AtpRow.{due_in, opening}
use Rattle.mrp_master.specs.Supply.{Supply, IsSupply, IsWeek, due_by, supply}

-- what a line adds in a week
abbrev pub share_in : ℕ → ℕ → Line → ℕ
share_in item week l = cond (eqb l.item item && eqb l.week week) l.quantity 0

pub share_here : (item week : ℕ) (l : Line) → l.item ≡ item → l.week ≡ week → share_in item week l ≡ l.quantity
share_here item week l e f = ap (λ b. cond (b && eqb l.week week) l.quantity 0) (eq-eqb l.item item e) ∙ ap (λ b. cond b l.quantity 0) (eq-eqb l.week week f)

pub share_other : (item week : ℕ) (l : Line) → l.week ≢ week → share_in item week l ≡ 0
share_other item week l ne = ap (λ b. cond (eqb l.item item && b) l.quantity 0) (ne_eqb l.week week ne) ∙ by (eqb l.item item)
  where
    by : (b : Bool) → cond (b && false) l.quantity 0 ≡ 0
    by true = refl
    by false = refl

pub share_no_item : (item week : ℕ) (l : Line) → l.item ≢ item → share_in item week l ≡ 0
share_no_item item week l ne = ap (λ b. cond (b && eqb l.week week) l.quantity 0) (ne_eqb l.item item ne)

-- no more is due in a week than up to it
pub due_in_by : (item week : ℕ) (lines : List Line) → due_in item week lines ≤ due_by item week lines
due_in_by item week lines =
    sum_by-le-sum_by (share_in item week) (λ l. cond (eqb l.item item && leb l.week week) l.quantity 0) lines (λ l. by l (eqb l.item item))
  where
    in_week_too : (l : Line) (here : Bool) → eqb l.week week ≡ here → (le : Bool) → leb l.week week ≡ le → cond here l.quantity 0 ≤ cond le l.quantity 0
    in_week_too l here e true f = cases here
      where
        cases : (b : Bool) → cond b l.quantity 0 ≤ l.quantity
        cases true = omega arith
        cases false = omega arith
    in_week_too l true e false f = absurd (omega (arith, eqb-true l.week week e, leb-false l.week week f))
    in_week_too l false e false f = omega arith

    by : (l : Line) (own : Bool) → cond (own && eqb l.week week) l.quantity 0 ≤ cond (own && leb l.week week) l.quantity 0
    by l true = in_week_too l (eqb l.week week) refl (leb l.week week) refl
    by l false = omega arith

-- the supply of each week, with the first lines of the item
pub record Opened (s : Supply) (item k : ℕ) (lines : List Line) (openings : List ℕ) : Type 0 where
  pub size : length openings ≡ s.weeks
  pub each : (t : ℕ) → 1 ≤ t → t ≤ s.weeks → in_week openings t ≡ cond (eqb t 1) (get_or s.on_hand item 0) 0 + due_in item t (take k lines)

pub opened_start : (s : Supply) (item : ℕ) (lines : List Line) (zeros : List ℕ) (on_hand : ℕ) → 1 ≤ s.weeks → zeros ≡ replicate s.weeks 0 → on_hand ≡ get_or s.on_hand item 0
    → Opened s item 0 lines (set zeros 0 on_hand)
opened_start s item lines zeros on_hand some nothing is =
    let size : length zeros ≡ s.weeks = ap length nothing ∙ length-replicate s.weeks 0 in
    let changed : set zeros 0 on_hand ≡ with_week zeros 1 on_hand = sym (with_week_at zeros 1 on_hand (omega arith)) in
    record {
      size = length-set zeros 0 on_hand ∙ size;
      each = λ t a b. elim (cases_eq t 1) [
        | inl here ↦
            omega (
              arith,
              ap (λ xs. in_week xs t) changed,
              ap (in_week (with_week zeros 1 on_hand)) here,
              in_week_changed zeros 1 on_hand (omega arith) (omega (arith, size)),
              is,
              ap (λ c. cond c (get_or s.on_hand item 0) 0) (eq-eqb t 1 here),
            )
        | inr other ↦
            omega (
              arith,
              ap (λ xs. in_week xs t) changed,
              in_week_kept zeros 1 t on_hand other,
              ap (λ xs. in_week xs t) nothing,
              in_week_replicate s.weeks t,
              ap (λ c. cond c (get_or s.on_hand item 0) 0) (ne_eqb t 1 other),
            )
      ];
    }

module _ (s : Supply) (item k : ℕ) (lines : List Line) (openings : List ℕ) (l : Line) (o : Opened s item k lines openings) (h : k < length lines) (read : l ≡ get_or lines k l) where
  -- one more line
  line_more : (t : ℕ) → due_in item t (take (k + 1) lines) ≡ due_in item t (take k lines) + share_in item t l
  line_more t = sum_by_more (share_in item t) lines k l h ∙ ap (λ x. due_in item t (take k lines) + share_in item t x) (sym read)

  -- another item's line
  pub opened_skip : l.item ≢ item → Opened s item (k + 1) lines openings
  opened_skip other = record {
    size = o.size;
    each = λ t a b. omega (arith, o.each t a b, line_more t, share_no_item item t l other);
  }

  -- the supply of the line's week
  pub opened_read : 1 ≤ l.week → l.week ≤ s.weeks → get_or openings (l.week - 1) 0 ≡ cond (eqb l.week 1) (get_or s.on_hand item 0) 0 + due_in item l.week (take k lines)
  opened_read a b = sym (in_week_at openings l.week a) ∙ o.each l.week a b

  -- is a quantity with the line
  pub opened_little : l.item ≡ item → 1 ≤ l.week → l.week ≤ s.weeks → lines ≡ get_or s.firm item [] → get_or openings (l.week - 1) 0 + l.quantity ≤ supply s item l.week
  opened_little own a b is =
      let due : due_by item l.week lines ≡ due_by item l.week (get_or s.firm item []) = ap (due_by item l.week) is in
      let stock : cond (eqb l.week 1) (get_or s.on_hand item 0) 0 ≤ get_or s.on_hand item 0 = by (eqb l.week 1) in
      omega (
        arith,
        opened_read a b,
        stock,
        due,
        due_in_by item l.week lines,
        share_here item l.week l own refl,
        sum_by_more_le (share_in item l.week) lines k l h,
        ap (share_in item l.week) read,
      )
    where
      by : (b : Bool) → cond b (get_or s.on_hand item 0) 0 ≤ get_or s.on_hand item 0
      by true = omega arith
      by false = omega arith

  -- the item's line
  pub opened_add : (place pieces : ℕ) → l.item ≡ item → 1 ≤ l.week → l.week ≤ s.weeks → place ≡ l.week → pieces ≡ get_or openings (l.week - 1) 0 + l.quantity
      → Opened s item (k + 1) lines (set openings (place - 1) pieces)
  opened_add place pieces own a b is sum = record {
    size = length-set openings (place - 1) pieces ∙ o.size;
    each = λ t c d.
        let changed : set openings (place - 1) pieces ≡ with_week openings l.week pieces = ap (λ i. set openings (i - 1) pieces) is ∙ sym (with_week_at openings l.week pieces a) in
        elim (cases_eq t l.week) [
          | inl here ↦
              let now : in_week (set openings (place - 1) pieces) t ≡ pieces =
              ap (λ xs. in_week xs t) changed ∙ ap (in_week (with_week openings l.week pieces)) here ∙ in_week_changed openings l.week pieces a (omega (arith, b, o.size)) in
              let before : in_week openings t ≡ get_or openings (l.week - 1) 0 = ap (in_week openings) here ∙ in_week_at openings l.week a in
              omega (arith, now, before, sum, o.each t c d, line_more t, share_here item t l own (sym here))
          | inr other ↦
              let apart : l.week ≢ t = omega arith in
              omega (arith, ap (λ xs. in_week xs t) changed, in_week_kept openings l.week t pieces other, o.each t c d, line_more t, share_other item t l apart)
        ];
  }

-- a line of a supply is of its weeks
pub line_inside : (s : Supply) (item k : ℕ) (lines : List Line) (l : Line) → IsSupply s → k < length lines → l ≡ get_or lines k l → lines ≡ get_or s.firm item [] → IsWeek s l.week
line_inside s item k lines l kept h read is =
    let all : All (λ (x : Line). IsWeek s x.week) lines = subst (λ (xs : List Line). All (λ (x : Line). IsWeek s x.week) xs) (sym is) (kept.inside item) in
    subst (λ (x : Line). IsWeek s x.week) (sym read) (all k l h)

-- the supply of each week, once every line was read
pub opened_all : (s : Supply) (item k : ℕ) (lines : List Line) (openings : List ℕ) → Opened s item k lines openings → length lines ≤ k → lines ≡ get_or s.firm item []
    → openings ≡ row s.weeks (opening s item)
opened_all s item k lines openings o all is =
    row_is openings (opening s item) s.weeks o.size
    (λ t a b. o.each t a b ∙ ap (λ xs. cond (eqb t 1) (get_or s.on_hand item 0) 0 + due_in item t xs) (take_all k lines all ∙ is))
