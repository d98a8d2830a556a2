use Rattle.std.proofs.Common.{◌≡◌, ◌∙◌, ◌+◌, ◌-◌, ◌++◌, ℕ, List, length, get_or, ap, sym, subst, refl, arith, rules}
use Rattle.mrp_report.specs.wave.Chunks.{text_of}
use Rattle.mrp_item.specs.Places.{WholePlan}
use Rattle.mrp_report.specs.ReportText.{report_text}
use Rattle.mrp_report.specs.section.RunText.{run_text}
use Rattle.mrp_report.specs.section.Sections.{section_text}
use Rattle.mrp_report.specs.Written.{PassesOn}
use Rattle.mrp_report.specs.declared.section.Section.{Section}
use Rattle.mrp_report.specs.declared.section.Section.TheVariants as section
use Rattle.mrp_report.proofs.lemmas.wave.ChunkTexts.{text-is}
use Rattle.mrp_report.proofs.lemmas.section.ListTexts.{so_far, so_far-none, to-come, whole}
use Rattle.mrp_report.proofs.lemmas.section.ListWritten.{next-passed, next-written}
use Rattle.mrp_report.proofs.Progress.{IsWritten, ends-at_once, ends-failed, ends-of_call, ends-whole, written-none}
use Rattle.mrp_report.proofs.lemmas.section.SectionTexts.{in_order, report-is}
use Rattle.mrp_report.proofs.report.write_report.Goals as goal

pub loop-section-init : goal.loop-section-init
loop-section-init g c =
    let s = c.args.plan.now.inputs in
    let run : List ℕ = run_text s.front (length s.standing) in
    let head : c.write_run.new.page ≡ run = c.in_ok-write_run.ensures ∙ ap (λ (page : List ℕ). page ++ run) c.new-page.ensures in
    written-none g.W.Write.contents c.args.writer.now 1000000 c.new-tries.result c.write_run.new.page (so_far run (section_text s) in_order 0) c.new-tries.ensures (head ∙ so_far-none run (section_text s) in_order)

pub returns-in_err-pages : goal.returns-in_err-pages
returns-in_err-pages g c = ends-of_call (ends-at_once g.W.Write.contents c.args.writer.now 1000000 (report_text c.args.plan.now.inputs) c.from_residual.result (search rules))

pub returns-in_err-readings : goal.returns-in_err-readings
returns-in_err-readings g c = ends-of_call (ends-at_once g.W.Write.contents c.args.writer.now 1000000 (report_text c.args.plan.now.inputs) c.from_residual-in_err-readings.result (search rules))

pub returns-in_err-write_run : goal.returns-in_err-write_run
returns-in_err-write_run g c = ends-of_call (ends-at_once g.W.Write.contents c.args.writer.now 1000000 (report_text c.args.plan.now.inputs) c.from_residual-in_err-write_run.result (search rules))

pub returns-in_err-write_section : goal.returns-in_err-write_section
returns-in_err-write_section g c =
    let s = c.args.plan.now.inputs in
    let run : List ℕ = run_text s.front (length s.standing) in
    let k = c.loop-section.section-index in
    let x : Section = get_or in_order k section.Promises in
    let next : IsWritten g.W.Write.contents c.args.writer.now c.loop-section.writer 1000000 c.loop-section.tries (c.loop-section.page ++ section_text s x) (so_far run (section_text s) in_order (k + 1)) =
    next-written g.W.Write.contents c.args.writer.now c.loop-section.writer 1000000 c.loop-section.tries c.loop-section.page (c.loop-section.page ++ section_text s x) run (section_text s) in_order k x section.Promises
    c.loop-section.invariant c.loop-section-test.true refl refl in
    let (rest, is) = to-come run (section_text s) in_order (k + 1) in
    let texts : text_of c.of-chunks.result ≡ section_text s x = text-is c.of-chunks.result s x (c.of-chunks.ensures.inputs ∙ ap (λ (p : WholePlan). p.inputs) c.in_ok-readings.ensures) c.of-chunks.ensures.section in
    ends-of_call (ends-failed g.W.Write.contents c.args.writer.now c.loop-section.writer c.write_section.new.writer 1000000 c.loop-section.tries c.write_section.new.tries (c.loop-section.page ++ section_text s x)
    (so_far run (section_text s) in_order (k + 1)) rest (report_text s) _ c.from_residual-in_err-write_section.result next (report-is s ∙ is) (rw texts at c.in_err-write_section.ensures) (search rules))

pub loop-section-preserved : goal.loop-section-preserved
loop-section-preserved g c =
    let s = c.args.plan.now.inputs in
    let run : List ℕ = run_text s.front (length s.standing) in
    let k = c.loop-section.section-index in
    next-passed g.W.Write.contents c.args.writer.now c.loop-section.writer c.write_section.new.writer 1000000 c.loop-section.tries c.write_section.new.tries c.loop-section.page c.write_section.new.page run (section_text s)
    in_order k (get_or in_order k section.Promises) section.Promises c.loop-section.invariant c.loop-section-test.true refl c.in_ok-write_section.ensures.tries
    (subst (λ (t : List ℕ). PassesOn g.W.Write.contents c.loop-section.writer c.write_section.new.writer (c.loop-section.page ++ t) c.write_section.new.page (c.loop-section.tries - c.write_section.new.tries)) (text-is c.of-chunks.result c.args.plan.now.inputs (get_or in_order c.loop-section.section-index section.Promises) (c.of-chunks.ensures.inputs ∙ ap (λ (p : WholePlan). p.inputs) c.in_ok-readings.ensures) c.of-chunks.ensures.section)
    c.in_ok-write_section.ensures.whole)

pub returns : goal.returns
returns g c =
    let s = c.args.plan.now.inputs in
    let run : List ℕ = run_text s.front (length s.standing) in
    let all : c.loop-section.section-index ≡ length in_order = omega (arith, c.loop-section-test.false, c.loop-section.auto.section-index-end) in
    let written : IsWritten g.W.Write.contents c.args.writer.now c.loop-section.writer 1000000 c.loop-section.tries c.loop-section.page (report_text s) =
    subst (λ (t : List ℕ). IsWritten g.W.Write.contents c.args.writer.now c.loop-section.writer 1000000 c.loop-section.tries c.loop-section.page t)
    (whole run (section_text s) in_order c.loop-section.section-index all ∙ sym (report-is s)) c.loop-section.invariant in
    ends-whole g.W.Write.contents c.args.writer.now c.loop-section.writer c.hand_over.new.writer c.loop-section.tries c.hand_over.new.tries c.loop-section.page (report_text s) c.hand_over.result written c.hand_over.ensures.written
