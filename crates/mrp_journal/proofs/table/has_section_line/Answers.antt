use Rattle.std.proofs.Common.{◌≡◌, ◌≢◌, ◌∙◌, ◌||◌, ◌+◌, ◌<◌, ℕ, suc, Bool, true, false, List, length, drop, get_or, refl, ap, sym, add-one, drop-cons}
use Rattle.std.specs.Prelude.{◌==◌, ◌&&◌}
use Rattle.std.proofs.Math.ListN.{drop_of_length-le}
use Rattle.std.proofs.lemmas.Bool.{ne_eqb}
use Rattle.mrp_rows.specs.Bundle.{ends_line}
use Rattle.mrp_journal.proofs.SectionLines.{section_at, section-is, section-none, section-on}
use Rattle.mrp_journal.proofs.table.has_section_line.Goals as goal
use Rattle.mrp_journal.proofs.table.has_section_line.Goals.{else-begins-via-else-begins, else-begins-via-then-begins+else-byte-eq91}

not-bracket : (begins : Bool) (x : ℕ) → x ≢ 91 → (begins && (x == 91)) ≡ false
not-bracket true x other = ne_eqb x 91 other
not-bracket false x other = refl

-- one byte on
next : (text : List ℕ) (k : ℕ) (begins after has : Bool) → k < length text → (begins && (get_or text k 0 == 91)) ≡ false → after ≡ ends_line (get_or text k 0)
    → has ≡ section_at begins (drop k text) → has ≡ section_at after (drop (k + 1) text)
next text k begins after has within none moved e =
    e ∙ ap (section_at begins) (drop-cons text k 0 within) ∙ section-on begins (get_or text k 0) (drop (suc k) text)
    ∙ ap (λ (b : Bool). b || section_at (ends_line (get_or text k 0)) (drop (suc k) text)) none
    ∙ ap (λ (b : Bool). section_at b (drop (suc k) text)) (sym moved) ∙ ap (λ (n : ℕ). section_at after (drop n text)) (sym (add-one k))

found : (text : List ℕ) (k : ℕ) (begins has : Bool) → k < length text → begins ≡ true → get_or text k 0 ≡ 91 → has ≡ section_at begins (drop k text) → true ≡ has
found text k begins has within front is e =
    sym (e ∙ ap (section_at begins) (drop-cons text k 0 within) ∙ section-on begins (get_or text k 0) (drop (suc k) text)
    ∙ ap (λ (b : Bool). (b && (get_or text k 0 == 91)) || section_at (ends_line (get_or text k 0)) (drop (suc k) text)) front
    ∙ ap (λ (x : ℕ). (x == 91) || section_at (ends_line (get_or text k 0)) (drop (suc k) text)) is)

pub loop-byte-init : goal.loop-byte-init
loop-byte-init c = section-is c.args.text.now

pub loop-byte-preserved : goal.loop-byte-preserved
loop-byte-preserved c =
    let x = get_or c.args.text.now c.loop-byte.byte-index 0 in
    let none : (c.loop-byte.begins && (x == 91)) ≡ false = elim c.else-begins.branch [
      | else-begins-via-then-begins+else-byte-eq91 w ↦ not-bracket c.loop-byte.begins x w.if-byte-eq91.false
      | else-begins-via-else-begins w ↦ ap (λ (b : Bool). b && (x == 91)) w.if-begins.false
    ] in
    next c.args.text.now c.loop-byte.byte-index c.loop-byte.begins c.is_line_end-begins.result _ c.loop-byte-test.true none c.is_line_end-begins.ensures c.loop-byte.invariant

pub returns-then-byte-eq91 : goal.returns-then-byte-eq91
returns-then-byte-eq91 c = found c.args.text.now c.loop-byte.byte-index c.loop-byte.begins _ c.loop-byte-test.true c.if-begins.true c.if-byte-eq91.true c.loop-byte.invariant

pub returns : goal.returns
returns c = sym (c.loop-byte.invariant ∙ ap (section_at c.loop-byte.begins) (drop_of_length-le c.args.text.now c.loop-byte-test.false) ∙ section-none c.loop-byte.begins)
