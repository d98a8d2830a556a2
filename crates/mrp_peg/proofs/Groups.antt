-- Requirements that one supply serves whole.
use Rattle.std.proofs.Common.{◌≡◌, ◌∙◌, ℕ, suc, ◌+◌, ◌-◌, ◌<◌, ◌≤◌, Bool, cond, List, [], ◌∷◌, ◌++◌, Some, refl, sym, ap, arith, map, drop, take, length, get_or, append_assoc}
use Rattle.std.specs.Prelude.{All, slice_get, slice_range}
use Rattle.std.proofs.lemmas.Bool.{lt-ltb}
use Rattle.std.proofs.lemmas.List.{drop-drop, map-append, take-append-drop, take_more}
use Rattle.std.proofs.lemmas.List.Sums.{sum_by-append, sum_by-cons}
use Rattle.mrp_item.specs.declared.supplies.Supplied.{Supplied}
use Rattle.mrp_peg.specs.declared.matching.Requirement.{Requirement}
use Rattle.mrp_peg.specs.declared.peg.Need.{Need}
use Rattle.mrp_peg.specs.declared.peg.Peg.{Peg}
use Rattle.mrp_peg.specs.Groups.{AreWhole}
use Rattle.mrp_peg.specs.Left.{pegs_between, served}
use Rattle.mrp_peg.specs.Matching.{amount_required, amounts_required, peg_of}
use Rattle.mrp_peg.specs.Units.{Amount, Match, matches, total}
use Rattle.mrp_peg.proofs.Cuts.{first_is, left_supply, matches_need, one}

abbrev match_for : Supplied → Requirement → Match Need Supplied
match_for supply r = record { need = Some r.need; supply = supply; quantity = r.quantity }

abbrev pub peg_for : ℕ → Supplied → Requirement → Peg
peg_for item supply r = record { item = item; need = Some r.need; supply = supply; quantity = r.quantity }

-- a requirement of some pieces is matched
one_whole : (supply : Supplied) (r : Requirement) → 0 < r.quantity → one (Some r.need) supply r.quantity ≡ match_for supply r ∷ []
one_whole supply r some = ap (λ (b : Bool). cond b (match_for supply r ∷ []) []) (lt-ltb 0 r.quantity some)

-- a supply that is enough for some requirements serves each of them whole
whole_matches : (needs : List Requirement) (rest : List (Amount Need)) (s : Amount Supplied) (supplies : List (Amount Supplied)) → All (λ (r : Requirement). 0 < r.quantity) needs → total (amounts_required needs) ≤ s.quantity
    → matches (amounts_required needs ++ rest) (s ∷ supplies) ≡ map (match_for s.of) needs ++ matches rest (record { of = s.of; quantity = s.quantity - total (amounts_required needs) } ∷ supplies)
whole_matches [] rest s supplies some enough =
    let whole : s.quantity ≡ s.quantity - 0 = omega arith in
    ap (λ (q : ℕ). matches rest (record { of = s.of; quantity = q } ∷ supplies)) whole
whole_matches (r ∷ needs) rest s supplies some enough =
    let sum = sum_by-cons (λ (a : Amount Need). a.quantity) (amount_required r) (amounts_required needs) in
    let left : Amount Supplied = record { of = s.of; quantity = s.quantity - r.quantity } in
    let more : All (λ (x : Requirement). 0 < x.quantity) needs = λ k d within. some (suc k) d (omega (arith, within)) in
    let fits : total (amounts_required needs) ≤ s.quantity - r.quantity = omega (arith, sum, enough) in
    let within : r.quantity ≤ s.quantity = omega (arith, sum, enough) in
    let rest_left : (s.quantity - r.quantity) - total (amounts_required needs) ≡ s.quantity - total (amounts_required (r ∷ needs)) = omega (arith, sum) in
    matches_need (amount_required r) (amounts_required needs ++ rest) s supplies within
    ∙ ap (λ (l : List (Match Need Supplied)). l ++ matches (amounts_required needs ++ rest) (left ∷ supplies)) (one_whole s.of r (some 0 r (omega arith)))
    ∙ ap (λ (l : List (Match Need Supplied)). match_for s.of r ∷ l) (whole_matches needs rest left supplies more fits)
    ∙ ap (λ (q : ℕ). match_for s.of r ∷ (map (match_for s.of) needs ++ matches rest (record { of = s.of; quantity = q } ∷ supplies))) rest_left

as_pegs : (item : ℕ) (supply : Supplied) (needs : List Requirement) → map (peg_of item) (map (match_for supply) needs) ≡ map (peg_for item supply) needs
as_pegs item supply [] = refl
as_pegs item supply (r ∷ needs) = ap (λ (l : List Peg). peg_for item supply r ∷ l) (as_pegs item supply needs)

cut : (count : ℕ) (listed : List Requirement) (later : List (Amount Need)) → amounts_required listed ++ later ≡ amounts_required (take count listed) ++ (amounts_required (drop count listed) ++ later)
cut count listed later =
    ap (λ (l : List Requirement). amounts_required l ++ later) (sym (take-append-drop count listed))
    ∙ ap (λ (l : List (Amount Need)). l ++ later) (map-append amount_required (take count listed) (drop count listed))
    ∙ append_assoc (amounts_required (take count listed)) (amounts_required (drop count listed)) later

-- the first supply serves the first requirements whole
pub whole_served : (item week count taken : ℕ) (listed : List Requirement) (later : List (Amount Need)) (offers : List (Amount Supplied)) (s : Amount Supplied) → Some s ≡ slice_get offers 0 → AreWhole listed week s.quantity count taken
    → pegs_between item (amounts_required listed ++ later) offers ≡ map (peg_for item s.of) (take count listed) ++ pegs_between item (amounts_required (drop count listed) ++ later) (served taken offers)
whole_served item week count taken listed later offers s first are =
    let passed = take count listed in
    let rest = amounts_required (drop count listed) ++ later in
    let S = drop 1 offers in
    let offered = first_is offers s first in
    let fits : total (amounts_required (take count listed)) ≤ s.quantity = omega (arith, are.sum, are.enough) in
    let left : ℕ → List (Amount Supplied) = λ q. record { of = s.of; quantity = s.quantity - q } ∷ S in
    ap (λ (l : List (Amount Need)). pegs_between item l offers) (cut count listed later)
    ∙ ap (λ (l : List (Amount Supplied)). pegs_between item (amounts_required passed ++ rest) l) offered
    ∙ ap (map (peg_of item)) (whole_matches passed rest s S are.some fits)
    ∙ map-append (peg_of item) (map (match_for s.of) passed) (matches rest (left (total (amounts_required passed))))
    ∙ ap (λ (l : List Peg). l ++ pegs_between item rest (left (total (amounts_required passed)))) (as_pegs item s.of passed)
    ∙ ap (λ (q : ℕ). map (peg_for item s.of) passed ++ pegs_between item rest (left q)) (sym are.sum)
    ∙ ap (λ (l : List (Match Need Supplied)). map (peg_for item s.of) passed ++ map (peg_of item) l) (left_supply taken rest s S)
    ∙ ap (λ (l : List (Amount Supplied)). map (peg_for item s.of) passed ++ pegs_between item rest (served taken l)) (sym offered)

-- the same of the requirements from a place on
pub group_passed : (item week count taken place : ℕ) (needs : List Requirement) (later : List (Amount Need)) (offers : List (Amount Supplied)) (s : Amount Supplied) → Some s ≡ slice_get offers 0 → AreWhole (drop place needs) week s.quantity count taken
    → pegs_between item (amounts_required (drop place needs) ++ later) offers ≡ map (peg_for item s.of) (slice_range needs place (place + count)) ++ pegs_between item (amounts_required (drop (place + count) needs) ++ later) (served taken offers)
group_passed item week count taken place needs later offers s first are =
    let many : count ≡ (place + count) - place = omega arith in
    whole_served item week count taken (drop place needs) later offers s first are
    ∙ ap (λ (n : ℕ). map (peg_for item s.of) (take n (drop place needs)) ++ pegs_between item (amounts_required (drop count (drop place needs)) ++ later) (served taken offers)) many
    ∙ ap (λ (l : List Requirement). map (peg_for item s.of) (slice_range needs place (place + count)) ++ pegs_between item (amounts_required l ++ later) (served taken offers)) (drop-drop count place needs)

-- one requirement more
pub total_more : (needs : List Requirement) (k : ℕ) (r d : Requirement) → k < length needs → r ≡ get_or needs k d → total (amounts_required (take (k + 1) needs)) ≡ total (amounts_required (take k needs)) + r.quantity
total_more needs k r d within is =
    let only : 0 + r.quantity ≡ r.quantity = omega arith in
    ap (λ (l : List Requirement). total (amounts_required l)) (take_more needs k d within ∙ ap (λ (x : Requirement). take k needs ++ x ∷ []) (sym is))
    ∙ ap total (map-append amount_required (take k needs) (r ∷ []))
    ∙ sum_by-append (λ (a : Amount Need). a.quantity) (amounts_required (take k needs)) (amount_required r ∷ [])
    ∙ ap (λ (n : ℕ). total (amounts_required (take k needs)) + n) only
