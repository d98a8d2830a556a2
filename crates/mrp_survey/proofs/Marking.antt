-- Marks that are told one after the other.
use Rattle.std.proofs.Common.{◌≡◌, ◌∙◌, ◌+◌, ◌<◌, ℕ, List, [], ◌∷◌, ◌++◌, get_or, length, suc, sym, take, ap, append_assoc, arith}
use Rattle.std.specs.Prelude.{flat_map}
use Rattle.std.proofs.Math.Seq.{take-suc}
use Rattle.std.specs.List.{range_with_len}
use Rattle.std.proofs.lemmas.List.{flat_map_more, map-append, map-id}
use Rattle.mrp_survey.specs.declared.rule.Rule.{Rule}
use Rattle.std.proofs.lemmas.List.FromFn.{map-range_with_len_more}
use Rattle.mrp_survey.specs.Entry.{Entry}
use Rattle.mrp_survey.specs.Finding.{Told}
use Rattle.mrp_survey.specs.Marks.{told_of}
use Rattle.mrp_survey.specs.Told.{Mark, told}

-- one number more
pub range-more : (n : ℕ) → range_with_len 0 (n + 1) ≡ range_with_len 0 n ++ n ∷ []
range-more n =
    sym (map-id (range_with_len 0 (n + 1))) ∙ map-range_with_len_more (λ (x : ℕ). x) 0 n n (omega arith)
    ∙ ap (λ (xs : List ℕ). xs ++ n ∷ []) (map-id (range_with_len 0 n))

-- marks told after others
pub told-more : (entry : Entry) (first now next : List Told) (a b c : List Mark) → now ≡ first ++ told_of entry a → next ≡ now ++ told_of entry b → a ++ b ≡ c
    → next ≡ first ++ told_of entry c
told-more entry first now next a b c before more both =
    more ∙ ap (λ (xs : List Told). xs ++ told_of entry b) before
    ∙ append_assoc first (told_of entry a) (told_of entry b)
    ∙ ap (λ (xs : List Told). first ++ xs) (sym (map-append (λ (mark : Mark). told entry.place entry.row mark.0 mark.1) a b) ∙ ap (told_of entry) both)

-- one more rule
pub rules-more : (f : Rule → List Mark) (rules own : List Rule) (i : ℕ) (d rule : Rule) → own ≡ rules → i < length own → rule ≡ get_or own i d → flat_map f (take i rules) ++ f rule ≡ flat_map f (take (i + 1) rules)
rules-more f rules own i d rule is within rule_is =
    let inside : i < length rules = rw (← is) within in
    let own_rule : rule ≡ get_or rules i d = rule_is ∙ ap (λ (r : List Rule). get_or r i d) is in
    let one : i + 1 ≡ suc i = omega arith in
    let more : take (i + 1) rules ≡ take i rules ++ (get_or rules i d ∷ []) = ap (λ (n : ℕ). take n rules) one ∙ take-suc rules i d inside in
    flat_map_more f [] (take i rules) rule ∙ ap (λ (r : Rule). flat_map f (take i rules ++ (r ∷ []))) own_rule ∙ ap (flat_map f) (sym more)
