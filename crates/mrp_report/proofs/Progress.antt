-- A report is written page by page.
use Rattle.std.proofs.Common.{◌≡◌, ◌∙◌, ℕ, ◌+◌, ◌-◌, ◌≤◌, List, [], ◌++◌, take, length, Option, Some, None, sym, ap, subst, inl, inr, refl, arith, append_assoc}
use Rattle.std.proofs.Math.Seq.{take-append_seam, take-append-add}
use Rattle.std.proofs.lemmas.List.{append-nil, take-append-le, length-append}
use Rattle.std.proofs.lemmas.Result.{on_err_weaker, on_ok_weaker}
use Rattle.std.specs.Prelude.{Result, Ok, Err, OnErr}
use Rattle.std.specs.Io.KnownBytes.{Appends}
use Rattle.mrp_rows.specs.declared.told.Told.{Told}
use Rattle.mrp_rows.specs.Told.{inner_of, failures_of, interrupted_of, HasRisenBy}
use Rattle.mrp_rows.specs.Streams.{RisesBy}
use Rattle.mrp_report.specs.Written.{Ends, HasTaken, HasTakenFront, HasTakenWhole, HasGivenUp, HasGoneOn, PassesOn, Writes, WritesWhole}
use Rattle.mrp_report.specs.declared.fault.ReportFault.{ReportFault}
use Rattle.mrp_report.specs.declared.fault.ReportFault.TheVariants.{NoMemory, Write}

appends-none : (a : Option (List ℕ)) → Appends a a []
appends-none None = tt
appends-none (Some x) = sym (append-nil x)

appends-both : (a b c : Option (List ℕ)) (s t : List ℕ) → Appends a b s → Appends b c t → Appends a c (s ++ t)
appends-both None b c s t p q = tt
appends-both (Some x) None c s t p q = absurd p
appends-both (Some x) (Some y) None s t p q = absurd q
appends-both (Some x) (Some y) (Some z) s t p q = q ∙ ap (λ (l : List ℕ). l ++ t) p ∙ append_assoc x s t

rises-none : (n : ℕ) → RisesBy 0 n n
rises-none n = (omega arith, omega arith)

rises-both : (m n a b c : ℕ) → RisesBy m a b → RisesBy n b c → RisesBy (m + n) a c
rises-both m n a b c p q = (omega (arith, p.0, p.1, q.0), omega (arith, p.1, q.1))

risen-after : (m n a b c : ℕ) → RisesBy m a b → HasRisenBy n b c → HasRisenBy (m + n) a c
risen-after m n a b c p q = omega (arith, p.0, p.1, q)

-- a part of a text that has been passed on, and the rest on the page, since so many tries were left
pub record IsWritten {W : Type 0} (contents : W → Option (List ℕ)) (start now : Told W) (first tries : ℕ) (page text : List ℕ) : Type 0 where
  pub passed : List ℕ
  pub split : text ≡ passed ++ page
  pub taken : HasTaken contents start now passed (first - tries)
  pub within : tries ≤ first

-- nothing is taken yet
pub taken-none : {W : Type 0} (contents : W → Option (List ℕ)) (w : Told W) → HasTaken contents w w [] 0
taken-none contents w = record {
  bytes = appends-none (contents (inner_of w));
  failures = refl;
  interrupted = rises-none (interrupted_of w);
}

-- a text is taken, and then one more
pub taken-both : {W : Type 0} (contents : W → Option (List ℕ)) (a b c : Told W) (s t : List ℕ) (m n : ℕ) → HasTaken contents a b s m → HasTaken contents b c t n → HasTaken contents a c (s ++ t) (m + n)
taken-both contents a b c s t m n p q = record {
  bytes = appends-both (contents (inner_of a)) (contents (inner_of b)) (contents (inner_of c)) s t p.bytes q.bytes;
  failures = q.failures ∙ p.failures;
  interrupted = rises-both m n (interrupted_of a) (interrupted_of b) (interrupted_of c) p.interrupted q.interrupted;
}

-- nothing was passed on yet
pub written-none : {W : Type 0} (contents : W → Option (List ℕ)) (w : Told W) (first tries : ℕ) (page text : List ℕ) → tries ≡ first → page ≡ text → IsWritten contents w w first tries page text
written-none {W} contents w first tries page text all same =
    let none : 0 ≡ first - tries = omega (arith, all) in
    record {
      passed = [];
      split = sym same;
      taken = subst (λ (n : ℕ). HasTaken contents w w [] n) none (taken-none contents w);
      within = omega (arith, all);
    }

-- more was put on the page
pub written-more : {W : Type 0} (contents : W → Option (List ℕ)) (start now : Told W) (first tries : ℕ) (page next text more : List ℕ) → IsWritten contents start now first tries page text → next ≡ page ++ more
    → IsWritten contents start now first tries next (text ++ more)
written-more contents start now first tries page next text more w adds = record {
  passed = w.passed;
  split = ap (λ (t : List ℕ). t ++ more) w.split ∙ append_assoc w.passed page more ∙ ap (λ (t : List ℕ). w.passed ++ t) (sym adds);
  taken = w.taken;
  within = w.within;
}

-- some of the page was passed on
pub written-passed : {W : Type 0} (contents : W → Option (List ℕ)) (start now then : Told W) (first tries fewer : ℕ) (page left text : List ℕ) → IsWritten contents start now first tries page text → fewer ≤ tries
    → PassesOn contents now then page left (tries - fewer) → IsWritten contents start then first fewer left text
written-passed {W} contents start now then first tries fewer page left text w less p =
    let tried : first - tries + (tries - fewer) ≡ first - fewer = omega (arith, less, w.within) in
    record {
      passed = w.passed ++ p.passed;
      split = w.split ∙ ap (λ (t : List ℕ). w.passed ++ t) p.split ∙ sym (append_assoc w.passed p.passed left);
      taken = subst (λ (n : ℕ). HasTaken contents start then (w.passed ++ p.passed) n) tried (taken-both contents start now then w.passed p.passed (first - tries) (tries - fewer) w.taken p.taken);
      within = omega (arith, less, w.within);
    }

-- a page was written
pub written-taken : {W : Type 0} (contents : W → Option (List ℕ)) (start now then : Told W) (first tries fewer : ℕ) (page text : List ℕ) → IsWritten contents start now first tries page text → fewer ≤ tries
    → HasTaken contents now then page (tries - fewer) → IsWritten contents start then first fewer [] text
written-taken contents start now then first tries fewer page text w less taken =
    written-passed contents start now then first tries fewer page [] text w less (record {
      passed = page;
      split = sym (append-nil page);
      taken = taken;
    })

-- another page has to be written
pub written-next : {W : Type 0} (contents : W → Option (List ℕ)) (start now : Told W) (first tries : ℕ) (text more : List ℕ) → IsWritten contents start now first tries [] text
    → IsWritten contents start now first tries more (text ++ more)
written-next contents start now first tries text more w = written-more contents start now first tries [] more text more w refl

-- all that had to be written was taken
pub taken-whole : {W : Type 0} (contents : W → Option (List ℕ)) (start now : Told W) (first tries : ℕ) (text : List ℕ) → IsWritten contents start now first tries [] text → HasTaken contents start now text (first - tries)
taken-whole {W} contents start now first tries text w =
    subst (λ (t : List ℕ). HasTaken contents start now t (first - tries)) (sym (w.split ∙ append-nil w.passed)) w.taken

take-behind : (s t u : List ℕ) (n : ℕ) → n ≤ length t → take (length s + n) (s ++ (t ++ u)) ≡ s ++ take n t
take-behind s t u n h = take-append-add s (t ++ u) n ∙ ap (λ (l : List ℕ). s ++ l) (take-append-le n t u h)

-- what was passed on is a prefix of the whole
pub front-now : {W : Type 0} (contents : W → Option (List ℕ)) (start now : Told W) (first tries : ℕ) (page text rest whole : List ℕ) → IsWritten contents start now first tries page text → whole ≡ text ++ rest
    → HasTakenFront contents start now whole
front-now contents start now first tries page text rest whole w is =
    let split : whole ≡ w.passed ++ (page ++ rest) = is ∙ ap (λ (t : List ℕ). t ++ rest) w.split ∙ append_assoc w.passed page rest in (
      length w.passed,
      omega (arith, ap (length {A = ℕ}) split, length-append w.passed (page ++ rest)),
      subst (λ (t : List ℕ). Appends (contents (inner_of start)) (contents (inner_of now)) t)
          (sym (ap (take (length w.passed)) split ∙ take-append_seam w.passed (page ++ rest))) w.taken.bytes,
    )

-- and so it is with a prefix of the page
pub front-then : {W : Type 0} (contents : W → Option (List ℕ)) (start now then : Told W) (first tries : ℕ) (page text rest whole : List ℕ) → IsWritten contents start now first tries page text → whole ≡ text ++ rest
    → HasTakenFront contents now then page → HasTakenFront contents start then whole
front-then contents start now then first tries page text rest whole w is (n, within, bytes) =
    let split : whole ≡ w.passed ++ (page ++ rest) = is ∙ ap (λ (t : List ℕ). t ++ rest) w.split ∙ append_assoc w.passed page rest in (
      length w.passed + n,
      omega (arith, within, ap (length {A = ℕ}) split, length-append w.passed (page ++ rest), length-append page rest),
      subst (λ (t : List ℕ). Appends (contents (inner_of start)) (contents (inner_of then)) t)
          (sym (ap (take (length w.passed + n)) split ∙ take-behind w.passed page rest n within))
          (appends-both (contents (inner_of start)) (contents (inner_of now)) (contents (inner_of then)) w.passed (take n page) w.taken.bytes bytes),
    )

-- a writer that gave up in the last part gave up in the whole
pub given-up : {W : Type 0} (contents : W → Option (List ℕ)) (start now then : Told W) (first tries : ℕ) (page text : List ℕ) → IsWritten contents start now first tries page text
    → HasGivenUp now then tries → HasGivenUp start then first
given-up contents start now then first tries page text w (inl failed) =
    inl (subst (λ (n : ℕ). HasRisenBy 1 n (failures_of then)) w.taken.failures failed)
given-up contents start now then first tries page text w (inr more) =
    let tried : first - tries + (tries + 1) ≡ first + 1 = omega (arith, w.within) in
    inr (subst (λ (n : ℕ). HasRisenBy n (interrupted_of start) (interrupted_of then)) tried
    (risen-after (first - tries) (tries + 1) (interrupted_of start) (interrupted_of now) (interrupted_of then) w.taken.interrupted more))

-- a writer that took what was passed on has gone on
pub gone-on : {W : Type 0} (contents : W → Option (List ℕ)) (start now : Told W) (first tries : ℕ) (page text : List ℕ) → IsWritten contents start now first tries page text → HasGoneOn start now first
gone-on contents start now first tries page text w = (w.taken.failures, omega (arith, w.taken.interrupted.1, w.within))

-- a writer that went on in the last part went on in the whole
pub gone-on-then : {W : Type 0} (contents : W → Option (List ℕ)) (start now then : Told W) (first tries : ℕ) (page text : List ℕ) → IsWritten contents start now first tries page text
    → HasGoneOn now then tries → HasGoneOn start then first
gone-on-then contents start now then first tries page text w last = (last.0 ∙ w.taken.failures, omega (arith, w.taken.interrupted.1, w.within, last.1))

-- so far a section's text is passed on, and the rest of it left on the page
pub passes-on : {W : Type 0} (contents : W → Option (List ℕ)) (start now : Told W) (first tries : ℕ) (page text : List ℕ) → IsWritten contents start now first tries page text → PassesOn contents start now text page (first - tries)
passes-on contents start now first tries page text w = record {
  passed = w.passed;
  split = w.split;
  taken = w.taken;
}

-- the last page was written
pub written-whole : {W : Type 0} (contents : W → Option (List ℕ)) (start now then : Told W) (tries fewer : ℕ) (page text : List ℕ) → IsWritten contents start now 1000000 tries page text → fewer ≤ tries
    → HasTaken contents now then page (tries - fewer) → HasTakenWhole contents start then text
written-whole {W} contents start now then tries fewer page text w less p = (
  1000000 - tries + (tries - fewer),
  omega (arith, less, w.within),
  subst (λ (t : List ℕ). HasTaken contents start then t (1000000 - tries + (tries - fewer))) (sym w.split)
      (taken-both contents start now then w.passed page (1000000 - tries) (tries - fewer) w.taken p),
)

-- what holds holds at an error
pub on-err : {T E P : Type 0} (r : Result T E) → P → OnErr r P
on-err (Ok x) p = tt
on-err (Err e) p = p

same-fault : {S T : Type 0} (f g : ReportFault) → ◌≡◌ {A = Result T ReportFault} (Err f) (Err g) → ◌≡◌ {A = Result S ReportFault} (Err f) (Err g)
same-fault {S} f g e =
    let same : f ≡ g = cc in
    ap (λ (h : ReportFault). Err h) same

-- a call has done what it should
pub ends-done : {W D : Type 0} (contents : W → Option (List ℕ)) (old new : Told W) (text : List ℕ) (allowed left : ℕ) → left ≤ allowed → D → Ends {T = Unit {0}} contents old new text allowed left (Ok tt) D
ends-done contents old new text allowed left less done = record {
  whole = done;
  tries = less;
  front = tt;
  refused = λ e. absurd cc;
  memory = λ e. absurd cc;
}

-- memory ran out after a part of a text
pub ends-refused : {W T D : Type 0} (contents : W → Option (List ℕ)) (start now : Told W) (first tries : ℕ) (page text rest whole : List ℕ) (r : Result T ReportFault) → IsWritten contents start now first tries page text
    → whole ≡ text ++ rest → r ≡ Err NoMemory → Ends contents start now whole first tries r D
ends-refused {W} {T} {D} contents start now first tries page text rest whole r w is refused =
    subst (λ (r : Result T ReportFault). Ends contents start now whole first tries r D) (sym refused)
    (record {
      whole = tt;
      tries = w.within;
      front = front-now contents start now first tries page text rest whole w is;
      refused = λ e. absurd cc;
      memory = λ e. gone-on contents start now first tries page text w;
    })

-- memory ran out before anything was written
pub ends-at_once : {W T D : Type 0} (contents : W → Option (List ℕ)) (w : Told W) (first : ℕ) (whole : List ℕ) (r : Result T ReportFault) → r ≡ Err NoMemory → Ends contents w w whole first first r D
ends-at_once contents w first whole r refused =
    ends-refused contents w w first first [] [] whole whole r (written-none contents w first first [] [] refl refl) refl refused

-- the call for the next part failed
pub ends-failed : {W S T D E : Type 0} (contents : W → Option (List ℕ)) (start now then : Told W) (first tries left : ℕ) (page text rest whole : List ℕ) (f : ReportFault) (r : Result T ReportFault)
    → IsWritten contents start now first tries page text → whole ≡ text ++ rest → Ends {T = S} contents now then page tries left (Err f) E → r ≡ Err f → Ends contents start then whole first left r D
ends-failed {W} {S} {T} {D} contents start now then first tries left page text rest whole f r w is part failed =
    let less = part.tries in
    subst (λ (r : Result T ReportFault). Ends contents start then whole first left r D) (sym failed)
    (record {
      whole = tt;
      tries = omega (arith, less, w.within);
      front = front-then contents start now then first tries page text rest whole w is part.front;
      refused = λ e. given-up contents start now then first tries page text w (part.refused (same-fault f Write e));
      memory = λ e. gone-on-then contents start now then first tries page text w (part.memory (same-fault f NoMemory e));
    })

-- the call for the last part ended
pub ends-last : {W T D E : Type 0} (contents : W → Option (List ℕ)) (start now then : Told W) (first tries left : ℕ) (page text whole : List ℕ) (r : Result T ReportFault)
    → IsWritten contents start now first tries page text → whole ≡ text → Ends contents now then page tries left r E → (E → D) → Ends contents start then whole first left r D
ends-last contents start now then first tries left page text whole r w is part all =
    let less = part.tries in
    record {
      whole = on_ok_weaker r all part.whole;
      tries = omega (arith, less, w.within);
      front = on_err_weaker r (front-then contents start now then first tries page text [] whole w (is ∙ sym (append-nil text))) part.front;
      refused = λ e. given-up contents start now then first tries page text w (part.refused e);
      memory = λ e. gone-on-then contents start now then first tries page text w (part.memory e);
    }

-- whoever calls has no tries of its own
pub ends-of_call : {W T D : Type 0} {contents : W → Option (List ℕ)} {start then : Told W} {whole : List ℕ} {first left : ℕ} {r : Result T ReportFault} → Ends contents start then whole first left r D → Ends contents start then whole first 0 r D
ends-of_call e = record {
  whole = e.whole;
  tries = omega arith;
  front = e.front;
  refused = e.refused;
  memory = e.memory;
}

-- the last page was written, in a call that has all tries
pub ends-whole : {W T : Type 0} (contents : W → Option (List ℕ)) (start now then : Told W) (tries left : ℕ) (page whole : List ℕ) (r : Result T ReportFault) → IsWritten contents start now 1000000 tries page whole
    → Writes contents now then page tries left r → WritesWhole contents start then whole r
ends-whole contents start now then tries left page whole r w part =
    ends-of_call (ends-last contents start now then 1000000 tries left page whole whole r w refl part
    (written-whole contents start now then tries left page whole w part.tries))
