-- The first byte that ends a cell or is a quote, by blocks.
use Rattle.std.proofs.Common.{◌≡◌, ◌∙◌, ◌+◌, ◌<◌, ◌≤◌, ℕ, Bool, List, ap, arith, cond, drop, eqb, length, not, sym, take}
use Rattle.std.specs.List.{position_or_len, prefix_len}
use Rattle.std.specs.Simd.Lanes.{chunk}
use Rattle.std.proofs.lemmas.Bool.{cond-false, cond-true, eq-eqb, ne_eqb}
use Rattle.std.proofs.lemmas.List.Folds.{prefix_len-append}
use Rattle.std.proofs.lemmas.List.Sums.{prefix_len-le-length}
use Rattle.std.proofs.lemmas.Simd.{chunk-drop, length-chunk}
use Rattle.mrp_rows.specs.PlainLines.{stops}

-- by a block and what is behind it
joined : (text : List ℕ) (at n : ℕ) → at + n ≤ length text
    → position_or_len stops (drop at text) ≡ cond (eqb (position_or_len stops (chunk at n text)) n) (n + position_or_len stops (drop (at + n) text)) (position_or_len stops (chunk at n text))
joined text at n room =
    let p : ℕ → Bool = λ byte. not (stops byte) in
    let front = prefix_len p (chunk at n text) in
    let back = prefix_len p (drop (at + n) text) in
    ap (prefix_len p) (chunk-drop at n text) ∙ prefix_len-append p (chunk at n text) (drop (at + n) text)
    ∙ ap (λ k. cond (eqb front k) (k + back) front) (length-chunk at n text room)

-- it stands in the block
pub stop-here : (text : List ℕ) (at front n : ℕ) → at + n ≤ length text → front ≡ position_or_len stops (take n (drop at text)) → front < n → position_or_len stops (drop at text) ≡ front
stop-here text at front n room is short =
    joined text at n room ∙ cond-false _ _ _ (ne_eqb (position_or_len stops (chunk at n text)) n (λ e. absurd (omega (arith, e, is)))) ∙ sym is

-- it stands behind the block
pub stop-behind : (text : List ℕ) (at front n : ℕ) → at + n ≤ length text → front ≡ position_or_len stops (take n (drop at text)) → n ≤ front → position_or_len stops (drop at text) ≡ n + position_or_len stops (drop (at + n) text)
stop-behind text at front n room is long =
    let bound = prefix_len-le-length (λ byte. not (stops byte)) (chunk at n text) in
    let whole : position_or_len stops (chunk at n text) ≡ n = omega (arith, bound, length-chunk at n text room, is, long) in
    joined text at n room ∙ cond-true _ _ _ (eq-eqb _ n whole)
