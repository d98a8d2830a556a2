-- Items that two searches found are marked.
use Rattle.std.proofs.Common.{◌≡◌, ◌⊎◌, inl, inr, ℕ, ◌+◌, ◌<◌, ◌≤◌, Bool, true, false, List, length, get_or, sym, ap, subst, ◌∙◌, arith}
use Rattle.std.specs.Prelude.{Option, Some, None, is_some}
use Rattle.std.proofs.Math.ListN.{set}
use Rattle.std.proofs.lemmas.Bool.{cases_eq, cases_lt}
use Rattle.std.proofs.lemmas.List.{get_or_default, get_or-set_same, get_or-set_other, length-set}
use Rattle.mrp_loops.specs.declared.search.Search.{Search}
use Rattle.mrp_loops.specs.Search.{far_at, met_at, IsMarked, IsMet, MarksBothTo}

-- what was read of how far an item is
pub met-read : (other : Search) (item : ℕ) (far : Option ℕ) → item < length other.far.items → far ≡ get_or other.far.items item far → is_some far ≡ true → IsMet other item
met-read other item None inside is some = absurd (cc)
met-read other item (Some d) inside is some = (d, get_or_default other.far.items item None (Some d) inside ∙ sym is)

pub unmet-read : (other : Search) (item : ℕ) (far : Option ℕ) → item < length other.far.items → far ≡ get_or other.far.items item far → is_some far ≡ false → IsMet other item → ⊥
unmet-read other item None inside is none (d, there) =
    let read : far_at other.far.items item ≡ None = is_none in absurd (cc)
  where
    is_none : far_at other.far.items item ≡ None
    is_none = sym is
unmet-read other item (Some d) inside is none met = absurd (cc)

module _ (end item : ℕ) (one other : Search) (old marks : List Bool) (m : MarksBothTo end one other old marks) (below : end < length one.met.items) (is : item ≡ (met_at one.met.items end).item) where
  pub marks-more : IsMet other item → item < length marks → MarksBothTo (end + 1) one other old (set marks item true)
  marks-more met inside = record {
    size = length-set marks item true ∙ m.size;
    kept = λ i marked. stays i (m.kept i marked) (cases_eq i item);
    both = λ k less found. both k less found (cases_lt k end);
    only = λ i marked. only i marked (cases_eq i item);
  }
    where
      stays : (i : ℕ) → IsMarked marks i → (i ≡ item) ⊎ (i ≡ item → ⊥) → IsMarked (set marks item true) i
      stays i marked (inl same) = ap (λ (j : ℕ). get_or (set marks item true) j false) same ∙ get_or-set_same marks item true false inside
      stays i marked (inr apart) = get_or-set_other marks item i true false apart ∙ marked

      both : (k : ℕ) → k < end + 1 → IsMet other (met_at one.met.items k).item → (k < end) ⊎ (end ≤ k) → IsMarked (set marks item true) (met_at one.met.items k).item
      both k less found (inl before) = stays (met_at one.met.items k).item (m.both k before found) (cases_eq (met_at one.met.items k).item item)
      both k less found (inr most) =
          let same : (met_at one.met.items k).item ≡ item = ap (λ (j : ℕ). (met_at one.met.items j).item) (omega (arith, less, most)) ∙ sym is in
          ap (λ (j : ℕ). get_or (set marks item true) j false) same ∙ get_or-set_same marks item true false inside

      only : (i : ℕ) → IsMarked (set marks item true) i → (i ≡ item) ⊎ (i ≡ item → ⊥) → IsMarked old i ⊎ ((k : ℕ) × (k < length one.met.items) × ((met_at one.met.items k).item ≡ i) × IsMet other i)
      only i marked (inl same) = inr (end, below, sym is ∙ sym same, subst (IsMet other) (sym same) met)
      only i marked (inr apart) = m.only i (sym (get_or-set_other marks item i true false apart) ∙ marked)

  pub marks-same : (IsMet other item → ⊥) → MarksBothTo (end + 1) one other old marks
  marks-same none = record {
    size = m.size;
    kept = m.kept;
    both = λ k less found. both k less found (cases_lt k end);
    only = m.only;
  }
    where
      both : (k : ℕ) → k < end + 1 → IsMet other (met_at one.met.items k).item → (k < end) ⊎ (end ≤ k) → IsMarked marks (met_at one.met.items k).item
      both k less found (inl before) = m.both k before found
      both k less found (inr most) =
          let same : (met_at one.met.items k).item ≡ item = ap (λ (j : ℕ). (met_at one.met.items j).item) (omega (arith, less, most)) ∙ sym is in
          absurd (none (subst (IsMet other) same found))
