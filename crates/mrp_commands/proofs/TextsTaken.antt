-- Texts that are taken one by one.
use Rattle.std.proofs.Common.{◌≡◌, ◌∙◌, ◌+◌, ◌<◌, ◌≤◌, ℕ, List, [], ◌∷◌, ◌++◌, Option, ap, append-nil, drop, get_or, length, subst, sym, take}
use Rattle.std.specs.Prelude.{String, flat_map, string_bytes}
use Rattle.std.specs.declared.alloc.Global.{Global}
use Rattle.std.proofs.lemmas.List.{take-append-drop, take_all, take_more}
use Rattle.std.proofs.lemmas.List.Concat.{flat_map-append}
use Rattle.mrp_rows.specs.declared.told.Told.{Told}
use Rattle.mrp_report.proofs.TakenAll.{all-both, front-of-more, front-then}
use Rattle.mrp_report.specs.Taken.{HasTakenAll}
use Rattle.mrp_report.specs.Written.{HasTakenFront}

-- one text more
texts-more : (texts : List (String Global)) (k : ℕ) (text : String Global) → k < length texts → text ≡ get_or texts k text
    → flat_map string_bytes (take (k + 1) texts) ≡ flat_map string_bytes (take k texts) ++ string_bytes text
texts-more texts k text within is =
    ap (λ (ts : List (String Global)). flat_map string_bytes ts) (take_more texts k text within ∙ ap (λ (t : String Global). take k texts ++ t ∷ []) (sym is))
    ∙ flat_map-append string_bytes (take k texts) (text ∷ [])
    ∙ ap (λ (t : List ℕ). flat_map string_bytes (take k texts) ++ t) (append-nil (string_bytes text))

module _ {W : Type 0} (contents : W → Option (List ℕ)) (old now new : Told W) (texts : List (String Global)) (k : ℕ) (text : String Global) (within : k < length texts) (is : text ≡ get_or texts k text)
    (so_far : HasTakenAll contents old now (flat_map string_bytes (take k texts))) where
  -- one text more is taken
  pub taken-more : HasTakenAll contents now new (string_bytes text) → HasTakenAll contents old new (flat_map string_bytes (take (k + 1) texts))
  taken-more taken =
      subst (λ (t : List ℕ). HasTakenAll contents old new t) (sym (texts-more texts k text within is))
      (all-both contents old now new (flat_map string_bytes (take k texts)) (string_bytes text) so_far taken)

  -- a front of it is one of all texts
  pub front-more : HasTakenFront contents now new (string_bytes text) → HasTakenFront contents old new (flat_map string_bytes texts)
  front-more front =
      let texts_are : flat_map string_bytes (take (k + 1) texts) ++ flat_map string_bytes (drop (k + 1) texts) ≡ flat_map string_bytes texts =
      sym (flat_map-append string_bytes (take (k + 1) texts) (drop (k + 1) texts)) ∙ ap (λ (ts : List (String Global)). flat_map string_bytes ts) (take-append-drop (k + 1) texts) in
      subst (λ (t : List ℕ). HasTakenFront contents old new t) (ap (λ (t : List ℕ). t ++ flat_map string_bytes (drop (k + 1) texts)) (sym (texts-more texts k text within is)) ∙ texts_are)
      (front-of-more contents old new (flat_map string_bytes (take k texts) ++ string_bytes text) (flat_map string_bytes (drop (k + 1) texts))
      (front-then contents old now new (flat_map string_bytes (take k texts)) (string_bytes text) so_far front))

-- all texts are taken
pub taken-each : {W : Type 0} (contents : W → Option (List ℕ)) (old now : Told W) (texts : List (String Global)) (k : ℕ) → length texts ≤ k → HasTakenAll contents old now (flat_map string_bytes (take k texts))
    → HasTakenAll contents old now (flat_map string_bytes texts)
taken-each contents old now texts k past taken = subst (λ (ts : List (String Global)). HasTakenAll contents old now (flat_map string_bytes ts)) (take_all k texts past) taken
