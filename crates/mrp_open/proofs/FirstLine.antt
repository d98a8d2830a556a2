-- How long the first line of a text is.
use Rattle.std.proofs.Common.{◌≡◌, ◌+◌, ◌<◌, ℕ, zero, suc, Bool, true, false, List, [], ◌∷◌, length, refl, sym, arith}
use Rattle.std.specs.Prelude.{◌==◌}
use Rattle.memchr.specs.Find.{Nowhere, Passes, is_byte}
use Rattle.mrp_open.specs.Lines.{line_len}

none : line_len [] ≡ 0
unfolding line_len
none = refl

line-end : (byte : ℕ) (rest : List ℕ) → (byte == 10) ≡ true → line_len (byte ∷ rest) ≡ 1
unfolding line_len
line-end byte rest e = rw e refl

line-on : (byte : ℕ) (rest : List ℕ) → (byte == 10) ≡ false → line_len (byte ∷ rest) ≡ line_len rest + 1
unfolding line_len
line-on byte rest e = rw e refl

-- up to its first line feed
pub line-to : (text : List ℕ) (at : ℕ) → at < length text → Nowhere (Passes (is_byte 10) text) 0 at → Passes (is_byte 10) text at → at + 1 ≡ line_len text
line-to [] at within before here = absurd (omega arith)
line-to (byte ∷ rest) zero within before here = sym (line-end byte rest here)
line-to (byte ∷ rest) (suc at) within before here = by (byte == 10) refl (line-to rest at (omega arith) (λ k low high. before (suc k) (omega arith) (omega arith)) here)
  where
    by : (b : Bool) → (byte == 10) ≡ b → at + 1 ≡ line_len rest → suc at + 1 ≡ line_len (byte ∷ rest)
    by true e more = absurd (before 0 (omega arith) (omega arith) e)
    by false e more =
        let on = line-on byte rest e in
        omega arith

-- all of it, where it has none
pub line-all : (text : List ℕ) → Nowhere (Passes (is_byte 10) text) 0 (length text) → length text ≡ line_len text
line-all [] before = sym none
line-all (byte ∷ rest) before = by (byte == 10) refl (line-all rest (λ k low high. before (suc k) (omega arith) (omega arith)))
  where
    by : (b : Bool) → (byte == 10) ≡ b → length rest ≡ line_len rest → length (byte ∷ rest) ≡ line_len (byte ∷ rest)
    by true e more = absurd (before 0 (omega arith) (omega arith) e)
    by false e more =
        let on = line-on byte rest e in
        omega arith
