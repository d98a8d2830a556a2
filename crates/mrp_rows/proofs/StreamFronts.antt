-- Known bytes of readers and writers, call after call.
use Rattle.std.proofs.Common.{◌≡◌, ℕ, ◌+◌, ◌≤◌, List, ◌++◌, length, take, drop, Option, Some, None, sym, ap, ◌∙◌, append_assoc, arith}
use Rattle.std.proofs.Common.{length-append}
use Rattle.std.proofs.Math.Seq.{take-add, take-append-add}
use Rattle.std.proofs.lemmas.List.{take-append-le}
use Rattle.std.proofs.KnownBytes.{Consumes-trans, Appends-trans}
use Rattle.std.specs.Io.KnownBytes.{Appends}
use Rattle.mrp_rows.specs.Streams.{Takes, WritesFront}

-- a prefix of a text was written, and then more of the rest
pub appends-more : (a b c : Option (List ℕ)) (text rest : List ℕ) (at n : ℕ) → Appends a b (take at text) → rest ≡ drop at text → Appends b c (take n rest) → Appends a c (take (at + n) text)
appends-more None b c text rest at n p is q = tt
appends-more (Some x) None c text rest at n p is q = absurd p
appends-more (Some x) (Some y) None text rest at n p is q = absurd q
appends-more (Some x) (Some y) (Some z) text rest at n p is q =
    q ∙ ap (λ l. l ++ take n rest) p ∙ append_assoc x (take at text) (take n rest) ∙ ap (λ r. x ++ (take at text ++ take n r)) is ∙ ap (λ l. x ++ l) (sym (take-add at n text))

-- bytes were taken, and then more
pub takes-more : (a b c : Option (List ℕ)) (m n o : ℕ) (xs ys : List ℕ) → Takes a b m n xs → Takes b c n o ys → Takes a c m o (xs ++ ys)
takes-more a b c m n o xs ys first second =
    (Consumes-trans a b c xs ys first.0 second.0, (simp length-append (omega (arith, first.1.0, second.1.0)), simp length-append (omega (arith, first.1.1, second.1.1))))

-- a prefix of a text is a prefix of a longer one
pub front-longer : (a b : Option (List ℕ)) (xs ys : List ℕ) → WritesFront a b xs → WritesFront a b (xs ++ ys)
front-longer a b xs ys front =
    let within : front.0 ≤ length xs = front.1 in
    (front.0, omega (arith, front.1, length-append xs ys), rw take-append-le front.2)

-- a text was written whole, and then a prefix of the next
pub front-after : (a b c : Option (List ℕ)) (xs ys : List ℕ) → Appends a b xs → WritesFront b c ys → WritesFront a c (xs ++ ys)
front-after a b c xs ys whole front =
    (length xs + front.0, omega (arith, front.1, length-append xs ys), rw take-append-add (Appends-trans a b c xs (take front.0 ys) whole front.2))
