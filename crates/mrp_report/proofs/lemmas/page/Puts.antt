-- Bytes that are put one after the other.
use Rattle.std.proofs.Common.{ℕ, ◌+◌, ◌≤◌, List, ◌++◌, length, take, ap, sym, ◌∙◌, arith, append_assoc, length-append, length-take-le, take-add, take-take, take_at, drop_at}
use Rattle.mrp_report.specs.page.Put.{IsPut}

-- the second begins where the first ends
pub put_then : {a b c xs ys : List ℕ} {i j k : ℕ} → IsPut a b i xs j → IsPut b c j ys k → IsPut a c i (xs ++ ys) k
put_then {a} {b} {c} {xs} {ys} {i} p q = record {
  text = q.text ∙ ap (λ l. l ++ ys) p.text ∙ append_assoc (take i a) xs ys;
  moved = omega (arith, p.moved, q.moved, length-append xs ys);
  len = q.len ∙ p.len;
}

-- only the first n bytes count
pub put_less : {a b xs : List ℕ} {i j : ℕ} (n : ℕ) → i ≤ length a → n ≤ length xs → IsPut a b i xs j → IsPut a b i (take n xs) (i + n)
put_less {a} {b} {xs} {i} {j} n within few p =
    let front = length-take-le i a within in
    record {
      text = sym (take-take (i + n) j b (omega (arith, p.moved))) ∙ ap (take (i + n)) p.text ∙ take-add i n (take i a ++ xs)
          ∙ (λ k. take_at (take i a) xs i front k ++ take n (drop_at (take i a) xs i front k));
      moved = omega (arith, length-take-le n xs few);
      len = p.len;
    }
