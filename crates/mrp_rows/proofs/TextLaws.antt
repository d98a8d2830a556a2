-- The texts of an accepted bundle are those of its sections.
use Rattle.std.proofs.Common.{◌≡◌, ◌≢◌, ℕ, ◌+◌, ◌<◌, Bool, true, false, List, [], ◌∷◌, length, get_or, set, Option, Some, None, Result, Ok, Err, refl, sym, ap, ◌∙◌, subst, arith, lit<, get_or-set_other, get_or-set_same}
use Rattle.std.proofs.Math.ListN.{length-set}
use Rattle.std.proofs.lemmas.Bool.{false≢true}
use Rattle.std.specs.Prelude.{codes, is_some, if◌then◌else◌}
use Rattle.std.specs.List.{list_all}
use Rattle.std.specs.Str.{bytes_eq}
use Rattle.mrp_qty.specs.Reading.{◌>>=◌}
use Rattle.mrp_rows.specs.declared.fault.Fault.{Fault}
use Rattle.mrp_rows.specs.declared.fault.Table.{Table}
use Rattle.mrp_rows.specs.declared.fault.Table.TheVariants as t
use Rattle.mrp_rows.specs.Tables.{table_index}
use Rattle.mrp_rows.specs.Bundle.{Texts, Section, ends_line, sections_in, without_mark, line_text, section_text, table_of, section_twice, text_before_section, put_named, put_all, no_texts, text_at, all_texts, bundle_of, text_in}
use Rattle.mrp_rows.specs.Together.{AreTextsOf}

-- a table that has sections
abbrev IsSmall : Option Table → Type 0
IsSmall None = Unit {0}
IsSmall (Some table) = table_index table < 9

pick : (b : Bool) (x y : Option Table) → IsSmall x → IsSmall y → IsSmall (if b then x else y)
pick true x y p q = p
pick false x y p q = q

small : (name : List ℕ) → IsSmall (table_of name)
small name =
    pick (bytes_eq name (codes "[calendar]")) (Some t.Calendar) _ (lit< tt)
    (pick (bytes_eq name (codes "[items]")) (Some t.Items) _ (lit< tt)
    (pick (bytes_eq name (codes "[centres]")) (Some t.Centres) _ (lit< tt)
    (pick (bytes_eq name (codes "[stock]")) (Some t.Stock) _ (lit< tt)
    (pick (bytes_eq name (codes "[receipts]")) (Some t.Receipts) _ (lit< tt)
    (pick (bytes_eq name (codes "[bills]")) (Some t.Bills) _ (lit< tt)
    (pick (bytes_eq name (codes "[routings]")) (Some t.Routings) _ (lit< tt)
    (pick (bytes_eq name (codes "[master]")) (Some t.Master) _ (lit< tt)
    (pick (bytes_eq name (codes "[script]")) (Some t.Script) None (lit< tt) tt))))))))

-- a section that was placed
placed-as : (texts : Texts) (count : ℕ) (text : List ℕ) (named : Option Table) (f : Texts → Result Texts Fault) (final : Texts) → (put_named texts count text named >>= f) ≡ Ok final
    → (table : Table) × (named ≡ Some table) × (is_some (get_or texts (table_index table) None) ≡ false) × (f (set texts (table_index table) (Some text)) ≡ Ok final)
placed-as texts count text None f final e = absurd (cc)
placed-as texts count text (Some table) f final e = by (is_some (get_or texts (table_index table) None)) refl e
  where
    by : (b : Bool) → is_some (get_or texts (table_index table) None) ≡ b
        → ((if b then Err (section_twice table) else Ok (set texts (table_index table) (Some text))) >>= f) ≡ Ok final
        → (found : Table) × (Some table ≡ Some found) × (is_some (get_or texts (table_index found) None) ≡ false) × (f (set texts (table_index found) (Some text)) ≡ Ok final)
    by true g h = absurd (cc)
    by false g h = (table, refl, g, h)

-- a text that is placed stays
keep : (texts : Texts) (n : ℕ) (ss : List Section) (final : Texts) (i : ℕ) (text : List ℕ) → put_all texts n ss ≡ Ok final → get_or texts i None ≡ Some text → get_or final i None ≡ Some text
unfolding put_all
keep texts n [] final i text e g =
    let same : texts ≡ final = cc in
    subst (λ x. get_or x i None ≡ Some text) same g
keep texts n (s ∷ ss) final i text e g =
    let p = placed-as texts (n + 1) (section_text s.text) (table_of (line_text s.line)) (λ more. put_all more (n + 1) ss) final e in
    let other : i ≢ table_index p.0 = λ same. false≢true (sym p.2 ∙ ap (λ k. is_some (get_or texts k None)) (sym same) ∙ ap is_some g) in
    keep (set texts (table_index p.0) (Some (section_text s.text))) (n + 1) ss final i text p.3 (rw get_or-set_other g)

-- each section's text, at its table's place
abbrev ArePlaced : Texts → List Section → Type 0
ArePlaced final [] = Unit {0}
ArePlaced final (s ∷ ss) = ((table : Table) × (table_of (line_text s.line) ≡ Some table) × (get_or final (table_index table) None ≡ Some (section_text s.text))) × ArePlaced final ss

are-placed : (texts : Texts) (n : ℕ) (ss : List Section) (final : Texts) → length texts ≡ 9 → put_all texts n ss ≡ Ok final → ArePlaced final ss
unfolding put_all
are-placed texts n [] final nine e = tt
are-placed texts n (s ∷ ss) final nine e =
    let p = placed-as texts (n + 1) (section_text s.text) (table_of (line_text s.line)) (λ more. put_all more (n + 1) ss) final e in
    let more = set texts (table_index p.0) (Some (section_text s.text)) in
    let below : table_index p.0 < 9 = subst IsSmall p.1 (small (line_text s.line)) in
    let room : table_index p.0 < length texts = rw nine below in
    ((p.0, p.1, keep more (n + 1) ss final (table_index p.0) (section_text s.text) p.3 (rw get_or-set_same refl)), are-placed more (n + 1) ss final (length-set texts (table_index p.0) (Some (section_text s.text)) ∙ nine) p.3)

same-ok : {A : Type 0} (x y : A) (r : Result A Fault) → r ≡ Ok x → r ≡ Ok y → x ≡ y
same-ok x y r p q = cc

-- a step of a reading without fault
pub whole_step : {A B : Type 0} (r : Result A Fault) (f : A → Result B Fault) (y : B) → (r >>= f) ≡ Ok y → (x : A) × (r ≡ Ok x) × (f x ≡ Ok y)
whole_step (Ok x) f y e = (x, refl, e)
whole_step (Err g) f y e = absurd (cc)

chosen : (final : Texts) (x0 x1 x2 x3 x4 x5 x6 x7 x8 : List ℕ)
    → text_at final t.Calendar ≡ Ok x0 → text_at final t.Items ≡ Ok x1 → text_at final t.Centres ≡ Ok x2 → text_at final t.Stock ≡ Ok x3 → text_at final t.Receipts ≡ Ok x4
    → text_at final t.Bills ≡ Ok x5 → text_at final t.Routings ≡ Ok x6 → text_at final t.Master ≡ Ok x7 → text_at final t.Script ≡ Ok x8
    → (table : Table) → table_index table < 9 → text_at final table ≡ Ok (text_in (x0 ∷ x1 ∷ x2 ∷ x3 ∷ x4 ∷ x5 ∷ x6 ∷ x7 ∷ x8 ∷ []) table)
chosen final x0 x1 x2 x3 x4 x5 x6 x7 x8 p0 p1 p2 p3 p4 p5 p6 p7 p8 t.Calendar lt = p0
chosen final x0 x1 x2 x3 x4 x5 x6 x7 x8 p0 p1 p2 p3 p4 p5 p6 p7 p8 t.Items lt = p1
chosen final x0 x1 x2 x3 x4 x5 x6 x7 x8 p0 p1 p2 p3 p4 p5 p6 p7 p8 t.Centres lt = p2
chosen final x0 x1 x2 x3 x4 x5 x6 x7 x8 p0 p1 p2 p3 p4 p5 p6 p7 p8 t.Stock lt = p3
chosen final x0 x1 x2 x3 x4 x5 x6 x7 x8 p0 p1 p2 p3 p4 p5 p6 p7 p8 t.Receipts lt = p4
chosen final x0 x1 x2 x3 x4 x5 x6 x7 x8 p0 p1 p2 p3 p4 p5 p6 p7 p8 t.Bills lt = p5
chosen final x0 x1 x2 x3 x4 x5 x6 x7 x8 p0 p1 p2 p3 p4 p5 p6 p7 p8 t.Routings lt = p6
chosen final x0 x1 x2 x3 x4 x5 x6 x7 x8 p0 p1 p2 p3 p4 p5 p6 p7 p8 t.Master lt = p7
chosen final x0 x1 x2 x3 x4 x5 x6 x7 x8 p0 p1 p2 p3 p4 p5 p6 p7 p8 t.Script lt = p8
chosen final x0 x1 x2 x3 x4 x5 x6 x7 x8 p0 p1 p2 p3 p4 p5 p6 p7 p8 t.Bundle lt = absurd (omega arith)

in-place : (final : Texts) (texts : List (List ℕ)) → all_texts final ≡ Ok texts → (table : Table) → table_index table < 9 → text_at final table ≡ Ok (text_in texts table)
unfolding all_texts
in-place final texts e table lt =
    let p0 = whole_step (text_at final t.Calendar) _ texts e in
    let p1 = whole_step (text_at final t.Items) _ texts p0.2 in
    let p2 = whole_step (text_at final t.Centres) _ texts p1.2 in
    let p3 = whole_step (text_at final t.Stock) _ texts p2.2 in
    let p4 = whole_step (text_at final t.Receipts) _ texts p3.2 in
    let p5 = whole_step (text_at final t.Bills) _ texts p4.2 in
    let p6 = whole_step (text_at final t.Routings) _ texts p5.2 in
    let p7 = whole_step (text_at final t.Master) _ texts p6.2 in
    let p8 = whole_step (text_at final t.Script) _ texts p7.2 in
    let same : p0.0 ∷ p1.0 ∷ p2.0 ∷ p3.0 ∷ p4.0 ∷ p5.0 ∷ p6.0 ∷ p7.0 ∷ p8.0 ∷ [] ≡ texts = same-ok _ _ _ refl p8.2 in
    subst (λ x. text_at final table ≡ Ok (text_in x table)) same
    (chosen final p0.0 p1.0 p2.0 p3.0 p4.0 p5.0 p6.0 p7.0 p8.0 p0.1 p1.1 p2.1 p3.1 p4.1 p5.1 p6.1 p7.1 p8.1 table lt)

are-texts : (final : Texts) (texts : List (List ℕ)) (ss : List Section) → all_texts final ≡ Ok texts → ArePlaced final ss → AreTextsOf texts ss
are-texts final texts [] e placed = tt
are-texts final texts (s ∷ ss) e placed =
    let table = placed.0.0 in
    let lt : table_index table < 9 = subst IsSmall placed.0.1 (small (line_text s.line)) in
    let found = in-place final texts e table lt in
    let here : text_at final table ≡ Ok (section_text s.text) = rw placed.0.2 refl in
    ((table, placed.0.1, same-ok (text_in texts table) (section_text s.text) (text_at final table) found here), are-texts final texts ss e placed.1)

pub texts-of-sections : (bytes : List ℕ) (texts : List (List ℕ)) → bundle_of bytes ≡ Ok texts → AreTextsOf texts (sections_in (without_mark bytes)).1
unfolding bundle_of
texts-of-sections bytes texts e = by (list_all ends_line (sections_in (without_mark bytes)).0) e
  where
    by : (b : Bool) → (if b then put_all no_texts 0 (sections_in (without_mark bytes)).1 >>= all_texts else Err text_before_section) ≡ Ok texts → AreTextsOf texts (sections_in (without_mark bytes)).1
    by true h =
        let p = whole_step (put_all no_texts 0 (sections_in (without_mark bytes)).1) all_texts texts h in
        are-texts p.0 texts (sections_in (without_mark bytes)).1 p.2 (are-placed no_texts 0 (sections_in (without_mark bytes)).1 p.0 refl p.1)
    by false h = absurd (cc)
