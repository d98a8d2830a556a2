-- A script's calls are put in the lists of their desks.
use Rattle.std.proofs.Common.{◌≡◌, ◌≢◌, ◌∙◌, ℕ, zero, suc, ◌+◌, ◌-◌, ◌<◌, ◌≤◌, ◌==◌, List, [], ◌∷◌, ◌++◌, length, take, map, get_or, inl, inr, sym, ap, refl, subst, arith}
use Rattle.std.specs.Prelude.{All, Vec}
use Rattle.std.specs.declared.alloc.Global.{Global}
use Rattle.std.proofs.lemmas.Bool.{cases_eq}
use Rattle.std.proofs.lemmas.List.{get_or-map, length-append, length-map, length-take-le, map-append}
use Rattle.std.proofs.lemmas.List.Elements.{All-filter, All-map}
use Rattle.std.proofs.lemmas.List.Sums.{sum_by-cons}
use Rattle.mrp_tables.specs.declared.rows.ScriptRow.{ScriptRow}
use Rattle.mrp_master.specs.Supply.{Supply}
use Rattle.mrp_book.specs.declared.call.Call.{Call}
use Rattle.mrp_book.specs.History.{Fits}
use Rattle.mrp_bill.specs.Lists.{Appends}
use Rattle.mrp_engine.specs.live.DeskCalls.{AreCallsOf, asks, calls_at, count_in}
use Rattle.mrp_script.specs.Script.{Script, call_of, record_of}
use Rattle.mrp_engine.proofs.lemmas.live.DeskRecords.{next-other, next-own}

count-cons : (list : Vec Call Global) (lists : List (Vec Call Global)) → count_in (list ∷ lists) ≡ length list.items + count_in lists
count-cons = sum_by-cons (λ (list : Vec Call Global). length list.items)

-- lists without a call
pub count-none : (lists : List (Vec Call Global)) → ((place : ℕ) → calls_at lists place ≡ []) → count_in lists ≡ 0
count-none [] none = refl
count-none (list ∷ lists) none =
    let here = ap (length {A = Call}) (none 0) in
    let rest = count-none lists (λ place. none (suc place)) in
    omega (arith, here, rest, count-cons list lists)

-- lists that are the same, place by place
count-same : (old new : List (Vec Call Global)) → length new ≡ length old → ((place : ℕ) → calls_at new place ≡ calls_at old place) → count_in new ≡ count_in old
count-same [] [] size same = refl
count-same [] (list ∷ new) size same = absurd (omega (arith, size))
count-same (list ∷ old) [] size same = absurd (omega (arith, size))
count-same (list ∷ old) (own ∷ new) size same =
    let here = ap (length {A = Call}) (same 0) in
    let rest = count-same old new (omega (arith, size)) (λ place. same (suc place)) in
    omega (arith, here, rest, count-cons list old, count-cons own new)

-- one more call in one of the lists
count-more : (old new : List (Vec Call Global)) (place : ℕ) (c : Call) → place < length old → Appends old new place c → count_in new ≡ count_in old + 1
count-more [] new place c within appends = absurd (omega (arith, within))
count-more (list ∷ old) [] place c within appends = let size = appends.size in absurd (omega (arith, size))
count-more (list ∷ old) (own ∷ new) zero c within appends =
    let size = appends.size in
    let here = ap (length {A = Call}) appends.put ∙ length-append list.items (c ∷ []) in
    let rest = count-same old new (omega (arith, size)) (λ other. appends.others (suc other) (λ e. omega (arith, e))) in
    omega (arith, here, rest, count-cons list old, count-cons own new)
count-more (list ∷ old) (own ∷ new) (suc place) c within appends =
    let size = appends.size in
    let here = ap (length {A = Call}) (appends.others 0 (λ e. omega (arith, e))) in
    let rest = count-more old new place c (omega (arith, within)) (record {
      size = omega (arith, size);
      put = appends.put;
      others = λ other apart. appends.others (suc other) (λ e. apart (omega (arith, e)));
    }) in
    omega (arith, here, rest, count-cons list old, count-cons own new)

-- one more record's call is in its desk's list
pub listed-more : (rows : List ScriptRow) (k : ℕ) (row : ScriptRow) (old new : List (Vec Call Global)) → k < length rows → row ≡ get_or rows k row → 1 ≤ row.desk
    → row.desk ≤ length old → Appends old new (row.desk - 1) (call_of row.call) → AreCallsOf (map record_of (take k rows)) old → AreCallsOf (map record_of (take (k + 1) rows)) new
listed-more rows k row old new h is some most appends before = record {
  each = λ place. elim (cases_eq (place + 1) row.desk) [
    | inl same ↦
        let here : place ≡ row.desk - 1 = omega (arith, same) in
        ap (λ (p : ℕ). asks (place + 1) (calls_at new p)) here ∙ ap (asks (place + 1)) appends.put
        ∙ map-append (λ (c : Call). (place + 1, c)) (calls_at old (row.desk - 1)) (call_of row.call ∷ [])
        ∙ ap (λ (p : ℕ). asks (place + 1) (calls_at old p) ++ (place + 1, call_of row.call) ∷ []) (sym here)
        ∙ ap (λ (xs : Script). xs ++ (place + 1, call_of row.call) ∷ []) (before.each place) ∙ sym (next-own (place + 1) rows k row h is (sym same))
    | inr other ↦
        let apart : place ≢ row.desk - 1 = λ e. other (omega (arith, e, some)) in
        ap (asks (place + 1)) (appends.others place apart) ∙ before.each place ∙ sym (next-other (place + 1) rows k row h is (λ e. other (sym e)))
  ];
  count =
      let a = count-more old new (row.desk - 1) (call_of row.call) (omega (arith, some, most)) appends in
      let b = before.count in
      let front = length-map {B = ℕ × Call} (take k rows) record_of ∙ length-take-le k rows (omega (arith, h)) in
      let next = length-map {B = ℕ × Call} (take (k + 1) rows) record_of ∙ length-take-le (k + 1) rows (omega (arith, h)) in
      omega (arith, a, b, front, next);
}

-- the calls of the lists fit if those of the script do
pub lists-fit : (s : Supply) (rows : List ScriptRow) (lists : List (Vec Call Global)) → AreCallsOf (map record_of rows) lists → All (λ r. Fits s (call_of r.call)) rows
    → (place : ℕ) → All (Fits s) (calls_at lists place)
lists-fit s rows lists are fits place =
    let recorded = All-filter (λ r. r.0 == place + 1) Suits (map record_of rows) (All-map Suits record_of rows fits) in
    let asked : All Suits (asks (place + 1) (calls_at lists place)) = subst (All Suits) (sym (are.each place)) recorded in
    λ k d within.
    let long = length-map {B = ℕ × Call} (calls_at lists place) (λ c. (place + 1, c)) in
    subst Suits (get_or-map (λ (c : Call). (place + 1, c)) (calls_at lists place) k d (place + 1, d) within) (asked k (place + 1, d) (omega (arith, within, long)))
  where
    Suits : ℕ × Call → Type 0
    Suits r = Fits s r.1
