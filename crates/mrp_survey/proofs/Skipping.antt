-- Bytes of a record that are neither quotes nor line ends.
use Rattle.std.proofs.Common.{◌≡◌, ◌≢◌, ◌∙◌, ◌<◌, ◌≤◌, ℕ, zero, suc, Bool, true, false, List, [], ◌∷◌, ◌++◌, drop, get_or, length, take, refl, sym, ap, arith}
use Rattle.std.specs.Prelude.{◌==◌, ◌||◌, not, if◌then◌else◌}
use Rattle.std.specs.List.{list_all}
use Rattle.std.proofs.lemmas.Bool.{and_parts}
use Rattle.std.proofs.lemmas.List.{take-append-drop}
use Rattle.mrp_survey.specs.declared.lines.Reading.{Reading}
use Rattle.mrp_survey.specs.declared.lines.Spot.{Spot}
use Rattle.mrp_survey.specs.declared.lines.Spot.TheVariants as spot
use Rattle.mrp_survey.specs.Lines.{ends_own_line, is_between, is_special, lines_from, spot_after, spot_behind, step_to}

abbrev is_plain : ℕ → Bool
is_plain byte = not (is_special byte)

-- a byte that is neither a quote nor a line end
record IsPlain (b : ℕ) : Type 0 where
  quote : (b == 34) ≡ false
  feed : (b == 10) ≡ false
  return : (b == 13) ≡ false

plain-parts : (b : ℕ) → is_plain b ≡ true → IsPlain b
plain-parts b = by (b == 34) refl (b == 10) refl (b == 13) refl
  where
    by : (q : Bool) → (b == 34) ≡ q → (f : Bool) → (b == 10) ≡ f → (r : Bool) → (b == 13) ≡ r → not (q || f || r) ≡ true → IsPlain b
    by true eq f ef r er is = absurd cc
    by false eq true ef r er is = absurd cc
    by false eq false ef true er is = absurd cc
    by false eq false ef false er is = record { quote = eq; feed = ef; return = er }

behind-plain : (b : ℕ) → IsPlain b → spot_behind b ≡ (if b == 44 then spot.Front else spot.Bare)
behind-plain b p = rw (p.feed, p.return) refl

behind-inside : (b : ℕ) → IsPlain b → is_between (spot_behind b) ≡ false
behind-inside b p = rw (behind-plain b p) (by (b == 44))
  where
    by : (c : Bool) → is_between (if c then spot.Front else spot.Bare) ≡ false
    by true = refl
    by false = refl

-- behind such bytes a record goes on
stays : (s : Spot) (b : ℕ) → is_between s ≡ false → IsPlain b → is_between (spot_after s b) ≡ false
stays spot.Between b inside p = absurd cc
stays spot.Front b inside p = rw p.quote (behind-inside b p)
stays spot.Bare b inside p = behind-inside b p
stays spot.Quoted b inside p = rw p.quote refl
stays spot.Behind b inside p = rw p.quote (behind-inside b p)

-- the last of such bytes says where the next one is
after-behind : (b l : ℕ) → IsPlain b → IsPlain l → spot_after (spot_behind b) l ≡ spot_behind l
after-behind b l p own = rw (behind-plain b p) (by (b == 44))
  where
    by : (c : Bool) → spot_after (if c then spot.Front else spot.Bare) l ≡ spot_behind l
    by true = rw own.quote refl
    by false = refl

spot-last : (s : Spot) (b l : ℕ) → is_between s ≡ false → IsPlain b → IsPlain l → spot_after (spot_after s b) l ≡ spot_after s l
spot-last spot.Between b l inside p own = absurd cc
spot-last spot.Front b l inside p own = rw (p.quote, own.quote) (after-behind b l p own)
spot-last spot.Bare b l inside p own = after-behind b l p own
spot-last spot.Quoted b l inside p own = rw (p.quote, own.quote) refl
spot-last spot.Behind b l inside p own = rw (p.quote, own.quote) (after-behind b l p own)

-- such a byte ends no line
no-end : (after_return : Bool) (b : ℕ) → IsPlain b → ends_own_line after_return b ≡ false
no-end after_return b p = rw (p.feed, p.return) refl

pub line-stays : (r : Reading) (b : ℕ) → is_special b ≡ false → (step_to r b).line ≡ r.line
line-stays r b is = rw (no-end r.after_return b (plain-parts b (ap not is))) refl

step-last : (r : Reading) (b l : ℕ) → is_between r.spot ≡ false → IsPlain b → IsPlain l → step_to (step_to r b) l ≡ step_to r l
step-last r b l inside p own = rw (spot-last r.spot b l inside p own, no-end r.after_return b p, no-end (b == 13) l own, no-end r.after_return l own) refl

-- in a record nothing begins
goes-on : (r : Reading) (b : ℕ) (bytes : List ℕ) → is_between r.spot ≡ false → lines_from r (b ∷ bytes) ≡ lines_from (step_to r b) bytes
unfolding lines_from
goes-on r b bytes inside = rw inside refl

last-plain : (front : List ℕ) (l : ℕ) → list_all is_plain (front ++ l ∷ []) ≡ true → is_plain l ≡ true
last-plain [] l all = (and_parts (is_plain l) true all).0
last-plain (b ∷ front) l all = last-plain front l (and_parts (is_plain b) (list_all is_plain (front ++ l ∷ [])) all).1

skip-plain : (r : Reading) (front : List ℕ) (l : ℕ) (rest : List ℕ) → is_between r.spot ≡ false → list_all is_plain (front ++ l ∷ []) ≡ true → lines_from r ((front ++ l ∷ []) ++ rest) ≡ lines_from (step_to r l) rest
skip-plain r [] l rest inside all = goes-on r l rest inside
skip-plain r (b ∷ front) l rest inside all =
    let (here, more) = and_parts (is_plain b) (list_all is_plain (front ++ l ∷ [])) all in
    let p = plain-parts b here in
    let own = plain-parts l (last-plain front l more) in
    goes-on r b ((front ++ l ∷ []) ++ rest) inside
    ∙ skip-plain (step_to r b) front l rest (stays r.spot b inside p) more
    ∙ ap (λ (q : Reading). lines_from q rest) (step-last r b l inside p own)

plain-all : (xs : List ℕ) (n : ℕ) → ((k : ℕ) → k < n → is_special (get_or xs k 0) ≡ false) → n ≤ length xs → list_all is_plain (take n xs) ≡ true
plain-all xs zero each low = refl
plain-all [] (suc n) each low = absurd (omega (arith, low))
plain-all (x ∷ xs) (suc n) each low =
    let first : is_special x ≡ false = each 0 (omega arith) in
    let more : list_all is_plain (take n xs) ≡ true = plain-all xs n (λ k below. each (suc k) (omega (arith, below))) (omega (arith, low)) in
    rw (first, more) refl

-- the lines of the records that begin behind such bytes
pub skipped : (r : Reading) (bytes run rest front : List ℕ) (n l : ℕ) → is_between r.spot ≡ false → ((k : ℕ) → k < n → is_special (get_or bytes k 0) ≡ false) → n ≤ length bytes → run ≡ take n bytes → rest ≡ drop n bytes → run ≡ front ++ l ∷ []
    → lines_from r bytes ≡ lines_from (step_to r l) rest
skipped r bytes run rest front n l inside each within run_is rest_is parts =
    let all : list_all is_plain (front ++ l ∷ []) ≡ true = ap (list_all is_plain) (sym parts ∙ run_is) ∙ plain-all bytes n each within in
    let whole : bytes ≡ (front ++ l ∷ []) ++ rest = sym (take-append-drop n bytes) ∙ ap (λ (t : List ℕ). t ++ drop n bytes) (sym run_is ∙ parts) ∙ ap (λ (t : List ℕ). (front ++ l ∷ []) ++ t) (sym rest_is) in
    ap (lines_from r) whole ∙ skip-plain r front l rest inside all

pub last-special : (bytes run front : List ℕ) (n l : ℕ) → ((k : ℕ) → k < n → is_special (get_or bytes k 0) ≡ false) → n ≤ length bytes → run ≡ take n bytes → run ≡ front ++ l ∷ [] → is_special l ≡ false
last-special bytes run front n l each within run_is parts =
    let all : list_all is_plain (front ++ l ∷ []) ≡ true = ap (list_all is_plain) (sym parts ∙ run_is) ∙ plain-all bytes n each within in
    by (is_special l) (last-plain front l all)
  where
    by : (b : Bool) → not b ≡ true → b ≡ false
    by true e = absurd cc
    by false e = refl

pub not-true : (b : Bool) → b ≢ true → b ≡ false
not-true true other = absurd (other refl)
not-true false other = refl
