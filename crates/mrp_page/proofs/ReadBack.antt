-- An escaped text reads back.
use Rattle.std.proofs.Common.{◌≡◌, ◌∙◌, ℕ, Bool, true, false, List, [], ◌∷◌, ◌++◌, Some, None, refl, ap}
use Rattle.std.proofs.Math.Dec.{eqb}
use Rattle.std.proofs.lemmas.Bool.{eqb-true}
use Rattle.std.proofs.lemmas.List.Concat.{flat_map-cons}
use Rattle.mrp_page.specs.Escaped.{before, escaped, escaped_byte, read_back, read_from, referred}

abbrev Reads : ℕ → List ℕ → Type 0
Reads byte rest = read_from None (escaped_byte byte ++ rest) ≡ before (Some byte) (read_from None rest)

reads-at : (n : ℕ) (byte : ℕ) (rest : List ℕ) → byte ≡ n → Reads n rest → Reads byte rest
reads-at n byte rest is reads = rw is reads

-- a byte that was escaped is read
reads : (byte : ℕ) (rest : List ℕ) → Reads byte rest
unfolding read_from referred
reads byte rest = at-lt (eqb byte 60) refl
  where
    at-other : (b : Bool) → eqb byte 39 ≡ b → eqb byte 60 ≡ false → eqb byte 62 ≡ false → eqb byte 38 ≡ false → eqb byte 34 ≡ false → Reads byte rest
    at-other true is _ _ _ _ = reads-at 39 byte rest (eqb-true byte 39 is) refl
    at-other false e a b c d = rw (a, b, c, d, e) (rw (c, a, b, d, e) refl)

    at-quote : (b : Bool) → eqb byte 34 ≡ b → eqb byte 60 ≡ false → eqb byte 62 ≡ false → eqb byte 38 ≡ false → Reads byte rest
    at-quote true is _ _ _ = reads-at 34 byte rest (eqb-true byte 34 is) refl
    at-quote false d a b c = at-other (eqb byte 39) refl a b c d

    at-amp : (b : Bool) → eqb byte 38 ≡ b → eqb byte 60 ≡ false → eqb byte 62 ≡ false → Reads byte rest
    at-amp true is _ _ = reads-at 38 byte rest (eqb-true byte 38 is) refl
    at-amp false c a b = at-quote (eqb byte 34) refl a b c

    at-gt : (b : Bool) → eqb byte 62 ≡ b → eqb byte 60 ≡ false → Reads byte rest
    at-gt true is _ = reads-at 62 byte rest (eqb-true byte 62 is) refl
    at-gt false b a = at-amp (eqb byte 38) refl a b

    at-lt : (b : Bool) → eqb byte 60 ≡ b → Reads byte rest
    at-lt true is = reads-at 60 byte rest (eqb-true byte 60 is) refl
    at-lt false a = at-gt (eqb byte 62) refl a

pub reads-back : (text : List ℕ) → read_back (escaped text) ≡ Some text
unfolding read_from escaped
reads-back [] = refl
reads-back (byte ∷ text) =
    ap (read_from None) (flat_map-cons escaped_byte byte text) ∙ reads byte (escaped text) ∙ ap (before (Some byte)) (reads-back text)
