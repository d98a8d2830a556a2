use Rattle.std.proofs.Common.{◌≡◌, ◌∙◌, ◌+◌, ◌<◌, ℕ, suc, List, length, drop, get_or, ap, sym, add-one, drop-cons}
use Rattle.std.proofs.Math.ListN.{drop_of_length-le}
use Rattle.mrp_journal.specs.Table.{place_after, place_behind}
use Rattle.mrp_journal.specs.declared.table.Place.{Place}
use Rattle.mrp_journal.specs.declared.table.Place.TheVariants.{Between}
use Rattle.mrp_journal.proofs.RecordsBehind.{place-none, place-on}
use Rattle.mrp_journal.proofs.table.place_behind.Goals as goal

-- one byte on
next : (text : List ℕ) (k : ℕ) (at after : Place) → k < length text → after ≡ place_after at (get_or text k 0)
    → place_behind Between text ≡ place_behind at (drop k text) → place_behind Between text ≡ place_behind after (drop (k + 1) text)
next text k at after within moved e =
    e ∙ ap (place_behind at) (drop-cons text k 0 within) ∙ place-on at (get_or text k 0) (drop (suc k) text)
    ∙ ap (λ (p : Place). place_behind p (drop (suc k) text)) (sym moved) ∙ ap (λ (n : ℕ). place_behind after (drop n text)) (sym (add-one k))

pub loop-byte-preserved : goal.loop-byte-preserved
loop-byte-preserved c = next c.args.text.now c.loop-byte.byte-index c.loop-byte.at c.place_after-at.result c.loop-byte-test.true c.place_after-at.ensures c.loop-byte.invariant

pub returns : goal.returns
returns c = sym (c.loop-byte.invariant ∙ ap (place_behind c.loop-byte.at) (drop_of_length-le c.args.text.now c.loop-byte-test.false) ∙ place-none c.loop-byte.at)
