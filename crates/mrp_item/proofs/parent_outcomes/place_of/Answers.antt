use Rattle.std.proofs.Common.{◌≡◌, ◌<◌, ◌≤◌, ◌⊎◌, ℕ, inl, inr, length, get_or, arith}
use Rattle.std.specs.Prelude.{Err}
use Rattle.std.proofs.lemmas.Bool.{cases_lt}
use Rattle.std.proofs.lemmas.List.Sorted.{searched}
use Rattle.mrp_item.proofs.parent_outcomes.place_of.Goals as goal

-- no number is both below and above itself
nowhere : (numbers : _) (number i k : ℕ) → k < length numbers → get_or numbers k 0 ≡ number → ((k : ℕ) → k < i → get_or numbers k 0 < number)
    → ((k : ℕ) → i ≤ k → k < length numbers → number < get_or numbers k 0) → (k < i) ⊎ (i ≤ k) → get_or numbers 0 0 ≡ number
nowhere numbers number i k h e below above (inl a) = absurd (let less = below k a in omega arith)
nowhere numbers number i k h e below above (inr b) = absurd (let more = above k b h in omega arith)

pub returns-in-Err-clause-found : goal.returns-in-Err-clause-found
returns-in-Err-clause-found c =
    let numbers = c.args.numbers.now in
    let (k, within, found) = c.requires.there in
    let around = searched numbers c.args.number (Err c.in-Err.field-0) c.in-Err.ensures.position c.requires.rises in
    nowhere numbers c.args.number c.in-Err.field-0 k within found around.1 around.2 (cases_lt k c.in-Err.field-0)
