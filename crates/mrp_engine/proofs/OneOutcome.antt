-- A bundle has one day.
use Rattle.std.proofs.Common.{◌≡◌, ◌∙◌, ℕ, List, [], ◌∷◌, ◌++◌, Result, Ok, Err, sym, ap, subst}
use Rattle.std.proofs.lemmas.List.Elements.{recursion_from_All}
use Rattle.std.specs.Prelude.{All}
use Rattle.std.specs.List.{AllByRecursion}
use Rattle.mrp_rows.specs.declared.fault.Fault.{Fault}
use Rattle.mrp_tables.specs.Tables.{Tables}
use Rattle.mrp_book.specs.Standing.{History}
use Rattle.mrp_item.specs.Inputs.{Inputs, item_at}
use Rattle.mrp_item.specs.Plan.{ItemPlan, plan_of}
use Rattle.mrp_engine.specs.day.Day.{IsDay, IsFirstRefusal, IsPlannable, IsRefusedBy, IsTooLarge, day_text, runs_of}
use Rattle.mrp_script.specs.Opened.{IsRefused}
use Rattle.mrp_script.specs.Script.{AnswersScript}
use Rattle.mrp_script.proofs.OneOpening.{accepted-not-refused, same-history, same-tables}

pub one-text : (bundle x y : List ℕ) → IsDay bundle x → IsDay bundle y → x ≡ y
one-text bundle x y (t, a, g, m, plans, e) (u, b, h, n, more, f) =
    let same = same-tables bundle t u a.tables_are b.tables_are in
    let answers : AnswersScript t h = subst (λ (s : Tables). AnswersScript s h) (sym same) n in
    e ∙ ap (day_text t) (same-history t g h m answers) ∙ ap (λ (s : Tables). day_text s h) same ∙ sym f

-- a run is planned or refused
not-refused : (s : Inputs) (name : List ℕ) → IsPlannable s → IsRefusedBy s name → ⊥
not-refused s name (plans, p) (item, q, e) = by (plan_of s) plans item p q
  where
    by : (r : Result (List ItemPlan) ℕ) (x : List ItemPlan) (y : ℕ) → r ≡ Ok x → r ≡ Err y → ⊥
    by r x y e f = cc

same-name : (s : Inputs) (x y : List ℕ) → IsRefusedBy s x → IsRefusedBy s y → x ≡ y
same-name s x y (i, p, e) (j, q, f) = e ∙ ap (λ k. (item_at s k).name) (by (plan_of s) i j p q) ∙ sym f
  where
    by : (r : Result (List ItemPlan) ℕ) (x y : ℕ) → r ≡ Err x → r ≡ Err y → x ≡ y
    by r x y e f = cc

-- runs that are all planned have no first refusal
no-refusal : (before : List Inputs) (s : Inputs) (after : List Inputs) (name : List ℕ) → AllByRecursion IsPlannable (before ++ s ∷ after) → IsRefusedBy s name → ⊥
no-refusal [] s after name all refused = not-refused s name all.0 refused
no-refusal (b ∷ before) s after name all refused = no-refusal before s after name all.1 refused

-- two cuts of the same runs at their first refusal name the same item
same-cut : (before : List Inputs) (s : Inputs) (after before' : List Inputs) (s' : Inputs) (after' : List Inputs) (x y : List ℕ) → before ++ s ∷ after ≡ before' ++ s' ∷ after'
    → AllByRecursion IsPlannable before → AllByRecursion IsPlannable before' → IsRefusedBy s x → IsRefusedBy s' y → x ≡ y
same-cut [] s after [] s' after' x y same p q r r' =
    let one : s' ≡ s = cc in
    same-name s x y r (subst (λ (i : Inputs). IsRefusedBy i y) one r')
same-cut [] s after (b ∷ before') s' after' x y same p q r r' =
    let one : b ≡ s = cc in
    absurd (not-refused s x (subst IsPlannable one q.0) r)
same-cut (b ∷ before) s after [] s' after' x y same p q r r' =
    let one : b ≡ s' = cc in
    absurd (not-refused s' y (subst IsPlannable one p.0) r')
same-cut (b ∷ before) s after (b' ∷ before') s' after' x y same p q r r' =
    let rest : before ++ s ∷ after ≡ before' ++ s' ∷ after' = cc in
    same-cut before s after before' s' after' x y rest p.1 q.1 r r'

one-refusal : (runs : List Inputs) (x y : List ℕ) → IsFirstRefusal runs x → IsFirstRefusal runs y → x ≡ y
one-refusal runs x y (before, s, after, cut, all, refused) (before', s', after', cut', all', refused') =
    same-cut before s after before' s' after' x y (sym cut ∙ cut') (recursion_from_All IsPlannable before all) (recursion_from_All IsPlannable before' all') refused refused'

pub one-name : (bundle x y : List ℕ) → IsTooLarge bundle x → IsTooLarge bundle y → x ≡ y
one-name bundle x y (t, a, g, m, r) (u, b, h, n, q) =
    let same = same-tables bundle t u a.tables_are b.tables_are in
    let answers : AnswersScript t h = subst (λ (s : Tables). AnswersScript s h) (sym same) n in
    let there : IsFirstRefusal (runs_of t h) y = subst (λ (s : Tables). IsFirstRefusal (runs_of s h) y) (sym same) q in
    one-refusal (runs_of t g) x y r (subst (λ (k : History). IsFirstRefusal (runs_of t k) y) (sym (same-history t g h m answers)) there)

pub text-or-fault : (bundle x : List ℕ) (f : Fault) → IsDay bundle x → IsRefused bundle f → ⊥
text-or-fault bundle x f (t, a, h, m, plans, e) r = accepted-not-refused bundle t f a r

pub fault-or-name : (bundle x : List ℕ) (f : Fault) → IsRefused bundle f → IsTooLarge bundle x → ⊥
fault-or-name bundle x f r (t, a, h, m, refusal) = accepted-not-refused bundle t f a r

pub text-or-name : (bundle x y : List ℕ) → IsDay bundle x → IsTooLarge bundle y → ⊥
text-or-name bundle x y (t, a, g, m, plans, e) (u, b, h, n, (before, s, after, cut, all, refused)) =
    let same = same-tables bundle t u a.tables_are b.tables_are in
    let answers : AnswersScript t h = subst (λ (k : Tables). AnswersScript k h) (sym same) n in
    let there : runs_of t h ≡ before ++ s ∷ after = ap (λ (k : Tables). runs_of k h) same ∙ cut in
    let runs : runs_of t g ≡ before ++ s ∷ after = ap (runs_of t) (same-history t g h m answers) ∙ there in
    no-refusal before s after y (recursion_from_All IsPlannable (before ++ s ∷ after) (subst (All IsPlannable) runs plans)) refused
