-- The overloads of the weeks and of the work centres so far.
use Rattle.std.proofs.Common.{◌≡◌, ◌∙◌, ℕ, ◌+◌, ◌<◌, ◌≤◌, Bool, cond, List, [], ◌∷◌, ◌++◌, sym, ap, append-nil, append_assoc}
use Rattle.std.specs.Prelude.{flat_map}
use Rattle.std.specs.List.{range_with_len}
use Rattle.std.proofs.lemmas.Bool.{lt-ltb, le-ltb}
use Rattle.std.proofs.lemmas.List.Concat.{flat_map-append}
use Rattle.mrp_phase.specs.Weeks.{weeks}
use Rattle.mrp_phase.proofs.WeekRows.{flat_map-weeks_next}
use Rattle.mrp_item.specs.Inputs.{Inputs}
use Rattle.mrp_item.proofs.OutcomeLists.{places-more}
use Rattle.mrp_load.specs.Loads.{over, overload, overloads_at}

-- a week that is over
pub over-more : (s : Inputs) (centre k : ℕ) (old all : List (ℕ × ℕ × ℕ)) → all ≡ old ++ flat_map (overload s centre) (weeks k) → 0 < over s centre (k + 1)
    → all ++ (centre, k + 1, over s centre (k + 1)) ∷ [] ≡ old ++ flat_map (overload s centre) (weeks (k + 1))
over-more s centre k old all so_far above =
    let here : overload s centre (k + 1) ≡ (centre, k + 1, over s centre (k + 1)) ∷ [] =
    ap (λ (b : Bool). cond b ((centre, k + 1, over s centre (k + 1)) ∷ []) []) (lt-ltb 0 (over s centre (k + 1)) above) in
    ap (λ xs. xs ++ (centre, k + 1, over s centre (k + 1)) ∷ []) so_far
    ∙ append_assoc old (flat_map (overload s centre) (weeks k)) ((centre, k + 1, over s centre (k + 1)) ∷ [])
    ∙ ap (λ xs. old ++ (flat_map (overload s centre) (weeks k) ++ xs)) (sym here)
    ∙ ap (λ xs. old ++ xs) (sym (flat_map-weeks_next (overload s centre) k))

-- a week that is not
pub over-same : (s : Inputs) (centre k : ℕ) (old all : List (ℕ × ℕ × ℕ)) → all ≡ old ++ flat_map (overload s centre) (weeks k) → over s centre (k + 1) ≤ 0
    → all ≡ old ++ flat_map (overload s centre) (weeks (k + 1))
over-same s centre k old all so_far none =
    let here : overload s centre (k + 1) ≡ [] =
    ap (λ (b : Bool). cond b ((centre, k + 1, over s centre (k + 1)) ∷ []) []) (le-ltb 0 (over s centre (k + 1)) none) in
    so_far
    ∙ ap (λ xs. old ++ xs) (sym (append-nil (flat_map (overload s centre) (weeks k))))
    ∙ ap (λ xs. old ++ (flat_map (overload s centre) (weeks k) ++ xs)) (sym here)
    ∙ ap (λ xs. old ++ xs) (sym (flat_map-weeks_next (overload s centre) k))

-- one more work centre
pub centre-more : (s : Inputs) (k : ℕ) (all new : List (ℕ × ℕ × ℕ)) → all ≡ flat_map (overloads_at s) (range_with_len 0 k) → new ≡ all ++ overloads_at s k
    → new ≡ flat_map (overloads_at s) (range_with_len 0 (k + 1))
centre-more s k all new so_far added =
    added ∙ ap (λ xs. xs ++ overloads_at s k) so_far
    ∙ ap (λ xs. flat_map (overloads_at s) (range_with_len 0 k) ++ xs) (sym (append-nil (overloads_at s k)))
    ∙ sym (flat_map-append (overloads_at s) (range_with_len 0 k) (k ∷ []))
    ∙ ap (flat_map (overloads_at s)) (places-more k)
