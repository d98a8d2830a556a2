use Rattle.std.proofs.Common.{◌∙◌, ◌++◌, ℕ, List, ap, ap₂}
use Rattle.std.specs.Prelude.{String, flat_map, string_bytes}
use Rattle.std.specs.declared.alloc.Global.{Global}
use Rattle.mrp_advice.proofs.Listings.{texts-end}
use Rattle.mrp_inspect.specs.Listed.{count_text}
use Rattle.mrp_inspect.proofs.faults.told_texts.Goals as goal

pub returns : goal.returns
returns c =
    ap (λ (ts : List (String Global)). flat_map string_bytes ts) c.in_ok-push.ensures.items
    ∙ texts-end c.in_ok-texts.texts.items c.in_ok-count.count
    ∙ ap₂ (λ (s t : List ℕ). s ++ t) c.in_ok-texts.ensures (c.in_ok-count.ensures ∙ ap count_text c.count.ensures)
