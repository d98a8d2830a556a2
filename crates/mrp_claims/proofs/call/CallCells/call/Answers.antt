use Rattle.std.proofs.Common.{List, ℕ, sym, subst}
use Rattle.mrp_claims.specs.Reading.{ReadsCall}
use Rattle.mrp_claims.proofs.call.CallCells.call.Goals as goal

pub returns-then-is_word-2 : goal.returns-then-is_word-2
returns-then-is_word-2 c =
    subst (λ (word : List ℕ). ReadsCall word c.args.shop.now.tables c.args.self.now c.cancellation.result) (sym (c.is_word-2.ensures.0 c.if-is_word-2.true)) (c.cancellation.ensures c.args.shop.now.tables)

pub returns-then-is_word-5 : goal.returns-then-is_word-5
returns-then-is_word-5 c =
    subst (λ (word : List ℕ). ReadsCall word c.args.shop.now.tables c.args.self.now c.run.result) (sym (c.is_word-5.ensures.0 c.if-is_word-5.true)) (c.run.ensures c.args.shop.now.tables)
