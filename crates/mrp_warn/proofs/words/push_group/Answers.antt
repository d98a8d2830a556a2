use Rattle.std.proofs.Common.{◌≡◌, ◌∙◌, ◌++◌, ◌-◌, ◌≤◌, ℕ, List, length, take, ap, arith, sym}
use Rattle.std.specs.Prelude.{flat_map, string_bytes}
use Rattle.std.proofs.lemmas.List.{take_all}
use Rattle.mrp_warn.specs.declared.limits.TheConstants.{MOST_OF_A_KIND}
use Rattle.mrp_warn.specs.declared.oddity.Warning.{Warning}
use Rattle.mrp_warn.specs.Words.{more_text, warning_text}
use Rattle.mrp_warn.proofs.Worded.{closes}
use Rattle.mrp_warn.proofs.words.push_group.Goals as goal

pub returns : goal.returns
returns c =
    let sheets = c.args.sheets.now in
    let kind = c.args.group.now.kind in
    let ws : List Warning = c.args.group.now.warnings.items in
    let start = string_bytes c.args.text.now in
    let first : List Warning = take MOST_OF_A_KIND ws in
    let k = c.loop-warning.warning-index in
    let shown : c.shown-warning-items.result.now ≡ first = c.shown-warning-items.ensures ∙ ap (take MOST_OF_A_KIND) c.deref.ensures.value in
    let whole : length first ≤ k = omega (arith, ap (length {A = Warning}) shown, c.loop-warning-test.false) in
    let lines : string_bytes c.loop-warning.text ≡ start ++ flat_map (warning_text sheets kind) first =
    c.loop-warning.invariant ∙ ap (λ (xs : List Warning). start ++ flat_map (warning_text sheets kind) xs) (take_all k first whole) in
    let rest : c.saturating_sub-rest.result ≡ length ws - MOST_OF_A_KIND =
    c.saturating_sub-rest.ensures ∙ ap (λ (n : ℕ). n - MOST_OF_A_KIND) (c.len.ensures ∙ sym c.deref.ensures.len ∙ ap (length {A = Warning}) c.deref.ensures.value) in
    let more : c.deref-2.result.now ≡ more_text sheets kind (length ws - MOST_OF_A_KIND) = c.deref-2.ensures ∙ c.in_ok-more.ensures ∙ ap (more_text sheets kind) rest in
    closes start (flat_map (warning_text sheets kind) first) (more_text sheets kind (length ws - MOST_OF_A_KIND)) (string_bytes c.loop-warning.text) (string_bytes c.push_str-2.new.self)
    lines (c.in_ok-push_str-2.ensures.bytes ∙ ap (λ (t : List ℕ). string_bytes c.loop-warning.text ++ t) more)
