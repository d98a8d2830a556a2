use Rattle.std.proofs.Common.{◌≡◌, ◌∙◌, ℕ, ◌+◌, ◌<◌, List, [], ◌∷◌, ◌++◌, length, take, get_or, set, Option, Some, None, false, true, sym, ap, arith}
use Rattle.std.specs.Option.{is_some}
use Rattle.std.proofs.lemmas.List.{get_or_default, length-set, take_more}
use Rattle.mrp_tables.specs.declared.rows.Receipt.{Receipt}
use Rattle.mrp_report.specs.section.ReceiptNames.{order_of}
use Rattle.mrp_report.proofs.lemmas.section.ReceiptNames.{known-kept, known-put}
use Rattle.mrp_report.proofs.section.shop_names.receipt_names.Goals as goal
use Rattle.mrp_report.proofs.section.shop_names.receipt_names.Goals.{then-is_none, else-is_none}

pub loop-receipt-preserved : goal.loop-receipt-preserved
loop-receipt-preserved c =
    let rows = c.args.receipts.now in
    let k = c.loop-receipt.receipt-index in
    let x = c.receipt-item.result in
    let names = c.loop-receipt.names.items in
    let inside : x.number < length names = omega (arith, ap (λ (r : Receipt). r.number) c.receipt-item.is, c.loop-receipt.invariant.0 k x c.loop-receipt-test.true) in
    let read : c.index.result.now ≡ get_or names x.number None = c.index.ensures ∙ get_or_default names x.number _ None inside in
    let more : take k rows ++ x ∷ [] ≡ take (k + 1) rows = ap (λ (r : Receipt). take k rows ++ r ∷ []) c.receipt-item.is ∙ sym (take_more rows k x c.loop-receipt-test.true) in
    elim c.if-is_none.branch [
      | then-is_none w ↦
          let put : c.if-is_none.names.items ≡ set names x.number (Some x.order) = ap (λ v. v.items) w.names-is ∙ ap (λ (name : List ℕ). set names x.number (Some name)) w.of.ensures in
          let free : is_some (get_or names x.number None) ≡ false = sym (ap (λ (o : Option (List ℕ)). is_some o) read) ∙ w.if-is_none.ensures in (
            λ j d within. omega (arith, c.loop-receipt.invariant.0 j d within, ap (length {A = Option (List ℕ)}) put, length-set names x.number (Some x.order)),
            λ number. ap (λ (ns : List (Option (List ℕ))). get_or ns number None) put
                ∙ known-put names (take k rows) x c.loop-receipt.invariant.1 inside free number
                ∙ ap (λ (rs : List Receipt). order_of rs number) more,
          )
      | else-is_none w ↦
          let kept : c.if-is_none.names.items ≡ names = ap (λ v. v.items) w.names-is in
          let taken : is_some (get_or names x.number None) ≡ true = sym (ap (λ (o : Option (List ℕ)). is_some o) read) ∙ w.if-is_none.ensures in (
            λ j d within. omega (arith, c.loop-receipt.invariant.0 j d within, ap (length {A = Option (List ℕ)}) kept),
            λ number. ap (λ (ns : List (Option (List ℕ))). get_or ns number None) kept
                ∙ known-kept names (take k rows) x c.loop-receipt.invariant.1 taken number
                ∙ ap (λ (rs : List Receipt). order_of rs number) more,
          )
    ]
