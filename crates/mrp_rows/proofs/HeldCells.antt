-- Cells by their places among bytes.
use Rattle.std.proofs.Common.{◌≡◌, ◌∙◌, ◌-◌, ◌<◌, ◌≤◌, ℕ, zero, suc, All, List, [], ◌∷◌, ◌++◌, ap, arith, drop, get_or, length, map, refl, sym, take}
use Rattle.std.proofs.lemmas.List.{drop-append-le, length-drop, take-append-drop, take-append-le, take_rest}
use Rattle.std.proofs.lemmas.List.Elements.{All-append, All-weaker}
use Rattle.mrp_rows.specs.CellTexts.{IsWithin, Place, bytes_at}

-- with more bytes behind them
at-more : (text more : List ℕ) (place : Place) → IsWithin (length text) place → bytes_at (text ++ more) place ≡ bytes_at text place
at-more text more place h =
    let room : place.0 ≤ length text = omega (arith, h.ordered, h.inside) in
    let fits : place.1 - place.0 ≤ length (drop place.0 text) = omega (arith, h.inside, length-drop place.0 text) in
    ap (λ t. take (place.1 - place.0) t) (drop-append-le place.0 text more room) ∙ take-append-le (place.1 - place.0) (drop place.0 text) more fits

map-same : (f g : Place → List ℕ) (places : List Place) → ((k : ℕ) (d : Place) → k < length places → f (get_or places k d) ≡ g (get_or places k d)) → map f places ≡ map g places
map-same f g [] same = refl
map-same f g (p ∷ places) same =
    let first : f p ≡ g p = same 0 p (omega arith) in
    rw (first, map-same f g places (λ k d within. same (suc k) d (omega arith))) refl

pub all-more : (text more : List ℕ) (places : List Place) → All (IsWithin (length text)) places → map (bytes_at (text ++ more)) places ≡ map (bytes_at text) places
all-more text more places h = map-same (bytes_at (text ++ more)) (bytes_at text) places (λ k d within. at-more text more (get_or places k d) (h k d within))

-- of the first bytes of a text
pub all-front : (text : List ℕ) (len : ℕ) (places : List Place) → length (take len text) ≡ len → All (IsWithin len) places → map (bytes_at (take len text)) places ≡ map (bytes_at text) places
all-front text len places long h =
    sym (all-more (take len text) (drop len text) places (rw long h)) ∙ ap (λ t. map (bytes_at t) places) (take-append-drop len text)

pub within-more : (size more : ℕ) (places : List Place) → size ≤ more → All (IsWithin size) places → All (IsWithin more) places
within-more size more places le h = All-weaker (IsWithin size) (IsWithin more) (λ place w. record { ordered = w.ordered; inside = omega (arith, w.inside) }) places h

pub within-one : (size : ℕ) (place : Place) → IsWithin size place → All (IsWithin size) (place ∷ [])
within-one size place w zero d within = w
within-one size place w (suc k) d within = absurd (omega arith)

pub within-next : (size : ℕ) (places : List Place) (place : Place) → All (IsWithin size) places → IsWithin size place → All (IsWithin size) (places ++ (place ∷ []))
within-next size places place h w = All-append (IsWithin size) places (place ∷ []) h (within-one size place w)

pub none-within : (size : ℕ) → All (IsWithin size) []
none-within size k d within = absurd (omega arith)

-- up to the end
pub at-end : (text : List ℕ) (start : ℕ) → bytes_at text (start, length text) ≡ drop start text
at-end text start = take_rest text start
