-- Pieces, one after another, and the brackets that begin them.
use Rattle.std.proofs.Common.{◌≡◌, ◌∙◌, ◌+◌, ◌-◌, ◌≤◌, ◌<◌, ℕ, List, [], ◌∷◌, ◌++◌, Some, None, append_assoc, append-nil, arith, drop, get_or, subst, sym, ap, true, ⊎_elim}
use Rattle.std.specs.Prelude.{◌==◌}
use Rattle.std.proofs.lemmas.Bool.{cases_eq, cases_lt, eq-eqb, eqb-true}
use Rattle.std.proofs.lemmas.List.{get_or-drop}
use Rattle.mrp_rows.specs.Bundle.{Section, line_text, lines_of, parts_of, sections_in}
use Rattle.mrp_rows.specs.declared.fault.Table.{Table}
use Rattle.mrp_inspect.specs.declared.lines.Counter.{Counter}
use Rattle.mrp_inspect.specs.Lines.{at_front, counted_all}
use Rattle.mrp_inspect.specs.Pieces.{FilePiece, piece_from, pieces_behind, pieces_in}

-- one section more
pub piece-next : (file : Table) (here below : Counter) (sections more : List Section) (line text : List ℕ) (old new whole : List FilePiece)
    → sections ≡ record { line = line; text = text } ∷ more → below ≡ counted_all (counted_all here line) text
    → new ≡ old ++ piece_from file here (counted_all here line) (Some (line_text line)) text ∷ []
    → whole ≡ old ++ pieces_behind file here sections → whole ≡ new ++ pieces_behind file below more
unfolding pieces_behind
piece-next file here below sections more line text old new whole is below_is grown so_far =
    so_far ∙ ap (λ (s : List Section). old ++ pieces_behind file here s) is
    ∙ sym (append_assoc old (piece_from file here (counted_all here line) (Some (line_text line)) text ∷ []) (pieces_behind file (counted_all (counted_all here line) text) more))
    ∙ ap (λ (ps : List FilePiece). ps ++ pieces_behind file (counted_all (counted_all here line) text) more) (sym grown)
    ∙ ap (λ (c : Counter). new ++ pieces_behind file c more) (sym below_is)

-- no section more
pub piece-end : (file : Table) (here : Counter) (rest : List ℕ) (old whole : List FilePiece) → rest ≡ [] → whole ≡ old ++ pieces_behind file here (sections_in rest).1 → old ≡ whole
unfolding pieces_behind lines_of parts_of
piece-end file here rest old whole none so_far =
    sym (so_far ∙ ap (λ (r : List ℕ). old ++ pieces_behind file here (sections_in r).1) none ∙ append-nil old)

-- the pieces of a file's text: its front, and those behind it
pub file-pieces : (file : Table) (content text sections : List ℕ) (old one new : List FilePiece) (own : FilePiece) (here : Counter) → (sections_in content).0 ≡ text → (sections_in content).1 ≡ (sections_in sections).1
    → own ≡ piece_from file at_front at_front None text → one ≡ old ++ own ∷ [] → here ≡ counted_all at_front text → new ≡ one ++ pieces_behind file here (sections_in sections).1 → new ≡ old ++ pieces_in file content
file-pieces file content text sections old one new own here front rest own_is one_is here_is new_is =
    let behind : List FilePiece = pieces_behind file here (sections_in sections).1 in
    new_is ∙ ap (λ (ps : List FilePiece). ps ++ behind) one_is ∙ append_assoc old (own ∷ []) behind
    ∙ ap (λ (p : FilePiece). old ++ (p ∷ behind)) own_is
    ∙ ap (λ (c : Counter). old ++ (piece_from file at_front at_front None text ∷ pieces_behind file c (sections_in sections).1)) here_is
    ∙ ap (λ (ss : List Section). old ++ (piece_from file at_front at_front None text ∷ pieces_behind file (counted_all at_front text) ss)) (sym rest)
    ∙ ap (λ (t : List ℕ). old ++ (piece_from file at_front at_front None t ∷ pieces_behind file (counted_all at_front t) (sections_in content).1)) (sym front)

-- a bracket is where it is behind so many bytes
pub bracket-behind : (bytes rest : List ℕ) (from gap : ℕ) → rest ≡ drop from bytes → (get_or rest gap 0 == 91) ≡ true → get_or bytes (from + gap) 0 ≡ 91
bracket-behind bytes rest from gap is found = sym (get_or-drop from bytes gap 0) ∙ ap (λ (r : List ℕ). get_or r gap 0) (sym is) ∙ eqb-true (get_or rest gap 0) 91 found

-- none is among so many bytes where none is behind those in front
pub none-behind : (bytes rest : List ℕ) (from len : ℕ) → rest ≡ drop from bytes → ((k : ℕ) → 0 ≤ k → k < len → (get_or rest k 0 == 91) ≡ true → ⊥) → (k : ℕ) → from ≤ k → k < from + len → get_or bytes k 0 ≡ 91 → ⊥
none-behind bytes rest from len is none k low high found =
    let same : from + (k - from) ≡ k = omega (arith, low) in
    let here : get_or rest (k - from) 0 ≡ 91 = ap (λ (r : List ℕ). get_or r (k - from) 0) is ∙ get_or-drop from bytes (k - from) 0 ∙ ap (λ (n : ℕ). get_or bytes n 0) same ∙ found in
    let within : k - from < len = omega (arith, low, high) in
    none (k - from) (omega arith) within (eq-eqb (get_or rest (k - from) 0) 91 here)

-- what holds up to a place, there, and behind it up to the next holds up to the next
pub up-to-next : {P : ℕ → Type 0} (at next : ℕ) → ((k : ℕ) → k < at → P k) → P at → ((k : ℕ) → at + 1 ≤ k → k < next → P k) → (k : ℕ) → k < next → P k
up-to-next {P} at next below here behind k high =
    ⊎_elim (λ low. below k low) (λ from. ⊎_elim (λ e. subst P (sym e) here) (λ ne. behind k (omega (arith, from, ne)) high) (cases_eq k at)) (cases_lt k at)
