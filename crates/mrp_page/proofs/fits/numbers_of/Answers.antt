use Rattle.std.proofs.Common.{◌≡◌, ◌∙◌, ℕ, ◌+◌, ◌≤◌, Bool, true, false, cond, List, [], ◌∷◌, ◌++◌, length, length-append, refl, sym, ap, arith}
use Rattle.std.specs.Prelude.{count_by}
use Rattle.std.specs.List.{filter, range_with_len}
use mir.Val.{bool_byte}
use Rattle.std.proofs.lemmas.List.{map-id}
use Rattle.std.proofs.lemmas.List.FromFn.{filter_of_map_range_with_len_more}
use Rattle.std.proofs.lemmas.List.Sums.{length-filter}
use Rattle.mrp_page.specs.Fits.{begins_at}
use Rattle.mrp_page.proofs.fits.numbers_of.Goals as goal

one-or-none : (b : Bool) (k : ℕ) → length (cond b (k ∷ []) []) ≡ cond b 1 0
one-or-none true k = refl
one-or-none false k = refl

-- how many numbers of a range pass, with one more
counts-more : (p : ℕ → Bool) (k : ℕ) → count_by p (range_with_len 0 (k + 1)) ≡ count_by p (range_with_len 0 k) + cond (p k) 1 0
counts-more p k =
    let next : filter p (range_with_len 0 (k + 1)) ≡ filter p (range_with_len 0 k) ++ cond (p k) (k ∷ []) [] =
    ap (filter p) (sym (map-id (range_with_len 0 (k + 1)))) ∙ filter_of_map_range_with_len_more p (λ j. j) 0 k k (omega arith)
    ∙ ap (λ (xs : List ℕ). filter p xs ++ cond (p k) (k ∷ []) []) (map-id (range_with_len 0 k)) in
    omega (arith, length-filter p (range_with_len 0 (k + 1)), length-filter p (range_with_len 0 k), ap length next, length-append (filter p (range_with_len 0 k)) (cond (p k) (k ∷ []) []), one-or-none (p k) k)

byte-is : (b : Bool) → bool_byte b ≡ cond b 1 0
byte-is true = refl
byte-is false = refl

at-most-one : (b : Bool) → cond b 1 0 ≤ 1
at-most-one true = omega arith
at-most-one false = omega arith

pub loop-place-preserved : goal.loop-place-preserved
loop-place-preserved c =
    let begins : ℕ → Bool = begins_at c.args.pegs.now c.args.kind c.args.word.now c.args.number in
    let k = c.loop-place.place in
    let own : c.from-count.result ≡ cond (begins k) 1 0 = c.from-count.ensures ∙ byte-is c.begins_at.result ∙ ap (λ (b : Bool). cond b 1 0) c.begins_at.ensures in
    record {
      within = omega (arith, c.loop-place.invariant.within, own, at-most-one (begins k));
      counted = omega (arith, c.loop-place.invariant.counted, own, counts-more begins k);
    }
