-- Lists in chunks of one size, and a rest.
use Rattle.std.specs.Prelude.{flat_map}
use Rattle.std.proofs.Common.{◌≡◌, ℕ, zero, suc, ◌+◌, ◌-◌, ◌*◌, ◌/◌, ◌%◌, ◌<◌, ◌≤◌, List, [], ◌∷◌, ◌++◌, length, get_or, ap, sym, ◌∙◌, append_assoc, arith}
use Rattle.std.proofs.lemmas.List.{append-nil, get_or_append_left, get_or-append_right, get_or-append-add, length-append}
use Rattle.std.proofs.lemmas.List.Concat.{flat_map-append}
use Rattle.std.proofs.lemmas.List.Elements.{All-head, All-tail}
use Rattle.std.proofs.Math.Nat.{mul-le-mul_left}
use Rattle.mrp_book.specs.Chunks.{AreChunks, joined}

length_chunks : {A : Type 0} (size : ℕ) (chunks : List (List A)) → AreChunks size chunks → length (flat_map (λ (c : List A). c) chunks) ≡ length chunks * size
length_chunks size [] all = omega arith
length_chunks {A} size (c ∷ cs) all =
    let own : length c ≡ size = All-head (λ (c : List A). length c ≡ size) c cs all in
    let rest = length_chunks size cs (All-tail (λ (c : List A). length c ≡ size) c cs all) in
    omega (arith, length-append c (flat_map (λ (c : List A). c) cs), own, rest)

in_chunk : {A : Type 0} (size : ℕ) (chunks : List (List A)) (k j : ℕ) (d : A) → AreChunks size chunks → k < length chunks → j < size
    → get_or (flat_map (λ (c : List A). c) chunks) (k * size + j) d ≡ get_or (get_or chunks k []) j d
in_chunk size [] k j d all within inside = absurd (omega arith)
in_chunk {A} size (c ∷ cs) zero j d all within inside =
    let own : length c ≡ size = All-head (λ (c : List A). length c ≡ size) c cs all in
    let first : 0 * size + j ≡ j = omega arith in
    ap (λ (i : ℕ). get_or (c ++ flat_map (λ (c : List A). c) cs) i d) first ∙ get_or_append_left c (flat_map (λ (c : List A). c) cs) d j (omega arith)
in_chunk {A} size (c ∷ cs) (suc k) j d all within inside =
    let own : length c ≡ size = All-head (λ (c : List A). length c ≡ size) c cs all in
    let later : suc k * size + j ≡ length c + (k * size + j) = omega arith in
    ap (λ (i : ℕ). get_or (c ++ flat_map (λ (c : List A). c) cs) i d) later ∙ get_or-append-add c (flat_map (λ (c : List A). c) cs) (k * size + j) d
    ∙ in_chunk size cs k j d (All-tail (λ (c : List A). length c ≡ size) c cs all) (omega arith) inside

module _ {A : Type 0} (size : ℕ) (chunks : List (List A)) (rest : List A) (all : AreChunks size chunks) (i : ℕ) (d : A) where
  -- an element of a chunk
  pub at_chunk : 0 < size → i / size < length chunks → get_or (joined chunks rest) i d ≡ get_or (get_or chunks (i / size) []) (i % size) d
  at_chunk some within =
      let flat : List A = flat_map (λ (c : List A). c) chunks in
      let parts : i ≡ i / size * size + i % size = omega arith in
      let up : size * (i / size + 1) ≤ size * length chunks = mul-le-mul_left size (omega arith) in
      let inside : i < length flat = omega (arith, length_chunks size chunks all) in
      get_or_append_left flat rest d i inside ∙ ap (λ (x : ℕ). get_or flat x d) parts ∙ in_chunk size chunks (i / size) (i % size) d all within (omega arith)

  -- an element of the rest
  pub past_chunks : length chunks * size ≤ i → get_or (joined chunks rest) i d ≡ get_or rest (i - length chunks * size) d
  past_chunks past = get_or-append_right (flat_map (λ (c : List A). c) chunks) rest (length chunks * size) i d (length_chunks size chunks all) past

-- a rest that becomes a chunk
pub joined-push : {A : Type 0} (chunks : List (List A)) (rest : List A) → joined (chunks ++ rest ∷ []) [] ≡ joined chunks rest
joined-push {A} chunks rest =
    append-nil (flat_map (λ (c : List A). c) (chunks ++ rest ∷ [])) ∙ flat_map-append (λ (c : List A). c) chunks (rest ∷ [])
    ∙ ap (λ (x : List A). flat_map (λ (c : List A). c) chunks ++ x) (append-nil rest)

-- one more in the rest
pub joined-more : {A : Type 0} (chunks : List (List A)) (rest : List A) (x : A) → joined chunks (rest ++ x ∷ []) ≡ joined chunks rest ++ x ∷ []
joined-more {A} chunks rest x = sym (append_assoc (flat_map (λ (c : List A). c) chunks) rest (x ∷ []))

-- how many there are
pub length-joined : {A : Type 0} (size : ℕ) (chunks : List (List A)) (rest : List A) → AreChunks size chunks → length (joined chunks rest) ≡ length chunks * size + length rest
length-joined {A} size chunks rest all = omega (arith, length-append (flat_map (λ (c : List A). c) chunks) rest, length_chunks size chunks all)
