-- Rows of places and chunks are written, in order.
use Rattle.std.proofs.Common.{◌≡◌, ◌∙◌, ℕ, ◌+◌, ◌-◌, ◌≤◌, List, [], ◌++◌, Option, Some, IfSome, Result, Ok, Err, IfOk, Bor, sym, ap, subst, refl, arith, append_assoc}
use Rattle.mrp_rows.specs.declared.told.Told.{Told}
use Rattle.mrp_report.specs.wave.Chunks.{between, count_of, end_of, row_of, rows_from, rows_in}
use Rattle.mrp_report.specs.Written.{Ends, HasTaken}
use Rattle.mrp_report.specs.declared.fault.ReportFault.{ReportFault}
use Rattle.mrp_report.specs.declared.wave.cut.Chunks.{Chunks}
use Rattle.mrp_report.proofs.lemmas.wave.ChunkTexts.{behind-places, between-both, between-none, chunk-more, chunks-rest, reach-from, reach-none, reach-within, rows-rest}
use Rattle.mrp_report.proofs.Progress.{IsWritten, ends-failed, written-more, written-next, written-none, written-taken}

module _ {W : Type 0} (contents : W → Option (List ℕ)) (start : Told W) (first : ℕ) where
  -- the rows of one more place were put on the page
  pub next-place : (now : Told W) (tries : ℕ) (page next before : List ℕ) (text : ℕ → List ℕ) (a b : ℕ) → a ≤ b → IsWritten contents start now first tries page (before ++ between text a b) → next ≡ page ++ text b
      → IsWritten contents start now first tries next (before ++ between text a (b + 1))
  next-place now tries page next before text a b within w adds =
      subst (λ (t : List ℕ). IsWritten contents start now first tries next t) (sym (behind-places text a b before within))
      (written-more contents start now first tries page next (before ++ between text a b) (text b) w adds)

  -- before the first chunk
  pub no-chunk : (c : Chunks) (from : ℕ) → from ≤ count_of c → IsWritten contents start start first first [] (rows_from c from 0)
  no-chunk c from within =
      let none : rows_from c from 0 ≡ [] = ap (between (row_of c) from) (reach-none (count_of c) c.size from within) ∙ between-none (row_of c) from in
      written-none contents start first first [] (rows_from c from 0) refl (sym none)

  -- a page holds the next chunk
  with-chunk : (now : Told W) (tries : ℕ) (c : Chunks) (from k : ℕ) (page : List ℕ) → from ≤ count_of c → page ≡ rows_from c (end_of c from k) 1 → IsWritten contents start now first tries [] (rows_from c from k)
      → IsWritten contents start now first tries page (rows_from c from (k + 1))
  with-chunk now tries c from k page within is w =
      subst (λ (t : List ℕ). IsWritten contents start now first tries page t) (ap (λ (t : List ℕ). rows_from c from k ++ t) is ∙ sym (chunk-more c from k within))
      (written-next contents start now first tries (rows_from c from k) page w)

  -- one more chunk was written
  pub next-chunk : (now then : Told W) (tries fewer : ℕ) (c : Chunks) (from k : ℕ) (page : List ℕ) → from ≤ count_of c → page ≡ rows_from c (end_of c from k) 1 → IsWritten contents start now first tries [] (rows_from c from k)
      → fewer ≤ tries → HasTaken contents now then page (tries - fewer) → IsWritten contents start then first fewer [] (rows_from c from (k + 1))
  next-chunk now then tries fewer c from k page within is w less taken =
      written-taken contents start now then first tries fewer page (rows_from c from (k + 1)) (with-chunk now tries c from k page within is w) less taken

  -- the next chunk was not written whole
  pub chunk-failed : {S T D E : Type 0} (now then : Told W) (tries left : ℕ) (c : Chunks) (from k all : ℕ) (page : List ℕ) (f : ReportFault) (r : Result T ReportFault) → from ≤ count_of c → k + 1 ≤ all → page ≡ rows_from c (end_of c from k) 1
      → IsWritten contents start now first tries [] (rows_from c from k) → Ends {T = S} contents now then page tries left (Err f) E → r ≡ Err f → Ends contents start then (rows_from c from all) first left r D
  chunk-failed now then tries left c from k all page f r within less is w part failed =
      ends-failed contents start now then first tries left page (rows_from c from (k + 1)) (between (row_of c) (end_of c from (k + 1)) (end_of c from all)) (rows_from c from all) f r
      (with-chunk now tries c from k page within is w) (chunks-rest c from (k + 1) all within less) part failed

  -- some chunks have to be written after the places so far
  with-wave : (now : Told W) (tries : ℕ) (c : Chunks) (from k : ℕ) → from ≤ count_of c → IsWritten contents start now first tries [] (between (row_of c) 0 from)
      → IsWritten contents start now first tries (rows_from c from k) (between (row_of c) 0 (end_of c from k))
  with-wave now tries c from k within w =
      subst (λ (t : List ℕ). IsWritten contents start now first tries (rows_from c from k) t) (sym (between-both (row_of c) 0 from (end_of c from k) (omega arith) (reach-from (count_of c) c.size from k within)))
      (written-next contents start now first tries (between (row_of c) 0 from) (rows_from c from k) w)

  -- and were
  pub next-wave : (now then : Told W) (tries fewer : ℕ) (c : Chunks) (from k : ℕ) → from ≤ count_of c → IsWritten contents start now first tries [] (between (row_of c) 0 from) → fewer ≤ tries
      → HasTaken contents now then (rows_from c from k) (tries - fewer) → IsWritten contents start then first fewer [] (between (row_of c) 0 (end_of c from k))
  next-wave now then tries fewer c from k within w less taken =
      written-taken contents start now then first tries fewer (rows_from c from k) (between (row_of c) 0 (end_of c from k)) (with-wave now tries c from k within w) less taken

  -- or not all of them
  pub wave-failed : {S T D E : Type 0} (now then : Told W) (tries left : ℕ) (c : Chunks) (from k : ℕ) (f : ReportFault) (r : Result T ReportFault) → from ≤ count_of c → IsWritten contents start now first tries [] (between (row_of c) 0 from)
      → Ends {T = S} contents now then (rows_from c from k) tries left (Err f) E → r ≡ Err f → Ends contents start then (rows_in c) first left r D
  wave-failed now then tries left c from k f r within w part failed =
      let there : ℕ = end_of c from k in
      ends-failed contents start now then first tries left (rows_from c from k) (between (row_of c) 0 there) (between (row_of c) there (count_of c)) (rows_in c) f r (with-wave now tries c from k within w)
      (rows-rest c there (reach-within (count_of c) c.size from k)) part failed

-- what a page that was found holds
pub found-is : {E : Type 0} (P : List ℕ → Type 0) (r : Result (Option (Bor (List ℕ))) E) (page : Bor (List ℕ)) → IfOk r (λ found. IfSome found (λ p. P p.now)) → r ≡ Ok (Some page) → P page.now
found-is {E} P r page holds is = subst (λ (r : Result (Option (Bor (List ℕ))) E). IfOk r (λ found. IfSome found (λ p. P p.now))) is holds

-- a page was handed over, and nothing before it
pub written-page : {W : Type 0} (contents : W → Option (List ℕ)) (start then : Told W) (first fewer : ℕ) (page : List ℕ) → fewer ≤ first → HasTaken contents start then page (first - fewer) → IsWritten contents start then first fewer [] page
written-page contents start then first fewer page less taken =
    written-taken contents start start then first first fewer page page (written-none contents start first first page page refl refl) less taken

-- rows after a head that was put on a page
pub head-behind : (page next head rows : List ℕ) → next ≡ page ++ head → next ++ rows ≡ page ++ (head ++ rows)
head-behind page next head rows is = ap (λ (t : List ℕ). t ++ rows) is ∙ append_assoc page head rows
