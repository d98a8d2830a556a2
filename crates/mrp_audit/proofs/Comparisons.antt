-- A text that is written to a comparing writer.
use Rattle.std.proofs.Common.{◌≡◌, ◌∙◌, ℕ, ◌+◌, ◌<◌, ◌≤◌, List, [], ◌∷◌, ◌++◌, length, take, drop, slice_index_or, Option, Some, None, sym, ap, subst, refl, arith, append_assoc}
use Rattle.std.specs.Prelude.{Result, Ok, Err, OnOk, OnErr, ⊤}
use Rattle.std.proofs.lemmas.List.{append-nil, take_more, take-append-drop, take-append-le}
use Rattle.std.proofs.lemmas.Option.{slice_get_within}
use Rattle.std.proofs.Math.Seq.{take-add}
use Rattle.mrp_report.specs.declared.fault.ReportFault.{ReportFault}
use Rattle.mrp_qty.specs.declared.memory.NoMemory.{NoMemory}
use Rattle.mrp_audit.specs.Comparing.{Compared, IsAgreement, TellsAgreement, held, listed, taken}
use Rattle.mrp_audit.specs.Parts.{ComparesFront, IsFrontBy}

-- what is held grows as what was written does
pub held-more : (old new : Compared) (bytes : List ℕ) → new.text ≡ old.text → taken new ≡ taken old ++ bytes → held new ≡ held old ++ bytes
held-more old new bytes same more =
    ap (λ (x : List ℕ). length x ∷ (x ++ taken new)) same
    ∙ ap (λ (x : List ℕ). length old.text ∷ (old.text ++ x)) more
    ∙ ap (λ (x : List ℕ). length old.text ∷ x) (sym (append_assoc old.text (taken old) bytes))

-- and what was written grows as what is held
pub taken-more : (old new : Compared) (bytes : List ℕ) → held new ≡ held old ++ bytes → (new.text ≡ old.text) × (taken new ≡ taken old ++ bytes)
taken-more old new bytes e =
    let size : length new.text ≡ length old.text = cc in
    let rest : new.text ++ taken new ≡ old.text ++ (taken old ++ bytes) =
    (let tail : new.text ++ taken new ≡ (old.text ++ taken old) ++ bytes = cc in tail ∙ append_assoc old.text (taken old) bytes) in
    apart new.text old.text (taken new) (taken old ++ bytes) size rest
  where
    apart : (a b x y : List ℕ) → length a ≡ length b → a ++ x ≡ b ++ y → (a ≡ b) × (x ≡ y)
    apart [] [] x y size same = (refl, same)
    apart [] (c ∷ b) x y size same = absurd (omega (arith, size))
    apart (c ∷ a) [] x y size same = absurd (omega (arith, size))
    apart (c ∷ a) (d ∷ b) x y size same =
        let head : c ≡ d = cc in
        let tails : a ++ x ≡ b ++ y = cc in
        let more = apart a b x y (omega (arith, size)) tails in
        (rw (head, more.0) refl, more.1)

-- bytes that are the text's next ones
pub wrote-same : (c : Compared) (text buf : List ℕ) (equal n : ℕ) (other : Option ℕ) → record { text = text; equal = equal; other = other } ≡ c → other ≡ None → take n (drop equal text) ≡ take n buf
    → held (record { text = text; equal = equal + n; other = other }) ≡ held c ++ take n buf
wrote-same c text buf equal n other is none same =
    let old : Compared = record { text = text; equal = equal; other = other } in
    let new : Compared = record { text = text; equal = equal + n; other = other } in
    let bare : (k : ℕ) → take k text ++ listed other ≡ take k text = λ k. ap (λ (o : Option ℕ). take k text ++ listed o) none ∙ append-nil (take k text) in
    let more : taken new ≡ taken old ++ take n buf =
    bare (equal + n) ∙ take-add equal n text ∙ ap (λ (x : List ℕ). take equal text ++ x) same ∙ ap (λ (x : List ℕ). x ++ take n buf) (sym (bare equal)) in
    held-more old new (take n buf) refl more ∙ ap (λ (x : Compared). held x ++ take n buf) is

-- and one byte that is not
pub wrote-other : (c : Compared) (text buf : List ℕ) (equal n : ℕ) (other : Option ℕ) → record { text = text; equal = equal; other = other } ≡ c → other ≡ None → take n (drop equal text) ≡ take n buf → n < length buf
    → held (record { text = text; equal = equal + n; other = Some (slice_index_or buf n 0) }) ≡ held c ++ take (n + 1) buf
wrote-other c text buf equal n other is none same within =
    let byte = slice_index_or buf n 0 in
    let old : Compared = record { text = text; equal = equal; other = other } in
    let new : Compared = record { text = text; equal = equal + n; other = Some byte } in
    let bare : take equal text ++ listed other ≡ take equal text = ap (λ (o : Option ℕ). take equal text ++ listed o) none ∙ append-nil (take equal text) in
    let more : taken new ≡ taken old ++ take (n + 1) buf =
    ap (λ (x : List ℕ). x ++ byte ∷ []) (take-add equal n text ∙ ap (λ (x : List ℕ). take equal text ++ x) same)
    ∙ append_assoc (take equal text) (take n buf) (byte ∷ [])
    ∙ ap (λ (x : List ℕ). take equal text ++ x) (sym (take_more buf n 0 within))
    ∙ ap (λ (x : List ℕ). x ++ take (n + 1) buf) (sym bare) in
    held-more old new (take (n + 1) buf) refl more ∙ ap (λ (x : Compared). held x ++ take (n + 1) buf) is

-- a text that begins with another has all of that in common with it
pub whole-agrees : (text other : List ℕ) (len : ℕ) → len ≡ length other → length other ≤ length text → text ≡ other ++ drop (length other) text → IsAgreement text other len
whole-agrees text other len size within stands = record {
  in_text = omega (arith, size, within);
  in_other = omega (arith, size);
  same = ap (take len) stands ∙ take-append-le len other (drop (length other) text) (omega (arith, size));
  differs = λ byte has. absurd (omega (arith, size, slice_get_within other len byte has));
}

-- if a prefix of a text was written and differs, the text differs
pub front-differs : (old new : Compared) (text front : List ℕ) (n : ℕ) → old ≡ record { text = text; equal = 0; other = None } → held new ≡ held old ++ take n front → TellsAgreement new None → (rest : List ℕ) → text ≡ front ++ rest → ⊥
front-differs old new text front n is grows differs rest begins =
    let parts = taken-more old new (take n front) grows in
    let of : new.text ≡ text = parts.0 ∙ ap (λ (c : Compared). c.text) is in
    let handed : taken new ≡ take n front = parts.1 ∙ ap (λ (c : Compared). taken c ++ take n front) is in
    differs (drop n front ++ rest) (of ∙ begins ∙ ap (λ (x : List ℕ). x ++ rest) (sym (take-append-drop n front)) ∙ append_assoc (take n front) (drop n front) rest
    ∙ ap (λ (x : List ℕ). x ++ (drop n front ++ rest)) (sym handed))

-- if it was written whole and differs, the text differs
pub whole-differs : (old new : Compared) (text front : List ℕ) → old ≡ record { text = text; equal = 0; other = None } → held new ≡ held old ++ front → TellsAgreement new None → (rest : List ℕ) → text ≡ front ++ rest → ⊥
whole-differs old new text front is grows differs rest begins =
    let parts = taken-more old new front grows in
    let of : new.text ≡ text = parts.0 ∙ ap (λ (c : Compared). c.text) is in
    let handed : taken new ≡ front = parts.1 ∙ ap (λ (c : Compared). taken c ++ front) is in
    differs rest (of ∙ begins ∙ ap (λ (x : List ℕ). x ++ rest) (sym handed))

-- if it was written whole and does not differ, the text begins with it
pub whole-stands : (old new : Compared) (text front : List ℕ) (len : ℕ) → old ≡ record { text = text; equal = 0; other = None } → held new ≡ held old ++ front → TellsAgreement new (Some len) → (len ≤ length text) × (text ≡ front ++ drop len text)
whole-stands old new text front len is grows tells =
    let parts = taken-more old new front grows in
    let of : new.text ≡ text = parts.0 ∙ ap (λ (c : Compared). c.text) is in
    let handed : taken new ≡ front = parts.1 ∙ ap (λ (c : Compared). taken c ++ front) is in
    (subst (λ (x : List ℕ). len ≤ length x) of tells.0, subst (λ (x : List ℕ). x ≡ front ++ drop len x) of (tells.1 ∙ ap (λ (x : List ℕ). x ++ drop len new.text) handed))

-- all of a report was written or a prefix of it: if that differs, the text does not begin with the report
pub report-differs : {P Q : Type 0} (old new : Compared) (text report : List ℕ) (r : Result ⊤ ReportFault) → old ≡ record { text = text; equal = 0; other = None } → OnOk r P → OnErr r Q → (P → held new ≡ held old ++ report)
    → (Q → (n : ℕ) × (held new ≡ held old ++ take n report)) → TellsAgreement new None → (rest : List ℕ) → text ≡ report ++ rest → ⊥
report-differs old new text report (Ok done) is whole front p q differs rest begins = whole-differs old new text report is (p whole) differs rest begins
report-differs old new text report (Err fault) is whole front p q differs rest begins =
    let some = q front in
    front-differs old new text report some.0 is some.1 differs rest begins

-- what a comparison returns is right
pub report-compared : {P Q : Type 0} (old new : Compared) (text report : List ℕ) (written : Result ⊤ ReportFault) (agreement : Option ℕ) (front : Result (Option ℕ) NoMemory) → old ≡ record { text = text; equal = 0; other = None } → OnOk written P → OnErr written Q
    → (P → held new ≡ held old ++ report) → (Q → (n : ℕ) × (held new ≡ held old ++ take n report)) → TellsAgreement new agreement → IsFrontBy agreement written front → ComparesFront report text front
report-compared old new text report written None front is whole part p q tells by =
    subst (λ (r : Result (Option ℕ) NoMemory). ComparesFront report text r) (sym by) (report-differs old new text report written is whole part p q tells)
report-compared old new text report (Ok done) (Some len) front is whole part p q tells by =
    subst (λ (r : Result (Option ℕ) NoMemory). ComparesFront report text r) (sym by) (whole-stands old new text report len is (p whole) tells)
report-compared old new text report (Err fault) (Some len) front is whole part p q tells (none, by) = subst (λ (r : Result (Option ℕ) NoMemory). ComparesFront report text r) (sym by) tt
