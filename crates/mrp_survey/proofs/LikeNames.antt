-- Names in lower case, and the first known name under each.
use Rattle.std.proofs.Common.{◌≡◌, ◌∙◌, ◌+◌, ◌-◌, ◌<◌, ◌≤◌, ℕ, zero, suc, Bool, true, false, cond, List, [], ◌∷◌, ◌++◌, Option, Some, None, length, get_or, set, take, nat_eq, replicate, refl, sym, ap, arith, add-one}
use Rattle.std.specs.Prelude.{◌&&◌, if◌then◌else◌, is_some, nat_le, option_map, unwrap_or}
use Rattle.std.specs.Char.{to_ascii_lowercase}
use Rattle.std.specs.Cmp.Lexicographic.{pointwise, same_text}
use Rattle.std.specs.List.{list_all, slice_get}
use Rattle.std.specs.Map.{lookup}
use Rattle.std.proofs.lemmas.Bool.{and_from, and_parts}
use Rattle.std.proofs.lemmas.Bool.Decides.{nat_tests}
use Rattle.std.proofs.lemmas.List.{get_or-map, length-map, take_all, take_more}
use Rattle.std.proofs.Math.Seq.{take-append_seam}
use Rattle.std.proofs.lemmas.Option.{get_or_from_slice_get, slice_get-get_or, slice_get_within}
use Rattle.mrp_rows.specs.declared.name.TheConstants.{LONGEST_NAME}
use Rattle.mrp_rows.specs.Name.{has_name_ends, is_name, is_printable, name_in}
use Rattle.mrp_tables.specs.declared.item.Class.{Class}
use Rattle.mrp_survey.specs.Likes.{Firsts, HasFirsts, are_alike, first_like, lowered, with_first}
use Rattle.mrp_survey.specs.Names.{Names, name_at}

-- the parts of a name
pub record IsNamed (text : List ℕ) : Type 0 where
  pub some : nat_le 1 (length text) ≡ true
  pub short : nat_le (length text) LONGEST_NAME ≡ true
  pub all : list_all is_printable text ≡ true
  pub ends : has_name_ends (get_or text 0 0) (get_or text (length text - 1) 0) ≡ true

pub named : (text : List ℕ) → is_name text ≡ true → IsNamed text
named text is =
    let a = nat_le 1 (length text) in
    let b = nat_le (length text) LONGEST_NAME in
    let c = list_all is_printable text in
    let d = has_name_ends (get_or text 0 0) (get_or text (length text - 1) 0) in
    let (abc, ends) = and_parts (a && b && c) d is in
    let (ab, all) = and_parts (a && b) c abc in
    let (some, short) = and_parts a b ab in
    record { some = some; short = short; all = all; ends = ends }

pub positive : (n : ℕ) → nat_le 1 n ≡ true → 1 ≤ n
positive n is = grind (arith, nat_tests)

pub short-name : (text : List ℕ) → is_name text ≡ true → length text ≤ LONGEST_NAME
short-name text is = by (length text) (named text is).short
  where
    by : (n : ℕ) → nat_le n LONGEST_NAME ≡ true → n ≤ LONGEST_NAME
    by n is = grind (arith, nat_tests)

lower-printable : (b : ℕ) → is_printable b ≡ true → is_printable (to_ascii_lowercase b) ≡ true
lower-printable b is = grind (arith, nat_tests)

lower-all : (text : List ℕ) → list_all is_printable text ≡ true → list_all is_printable (lowered text) ≡ true
lower-all [] all = refl
lower-all (b ∷ text) all =
    let (here, rest) = and_parts (is_printable b) (list_all is_printable text) all in
    and_from (is_printable (to_ascii_lowercase b)) (list_all is_printable (lowered text)) (lower-printable b here) (lower-all text rest)

lower-ends : (first last : ℕ) → has_name_ends first last ≡ true → has_name_ends (to_ascii_lowercase first) (to_ascii_lowercase last) ≡ true
lower-ends first last ends = grind (arith, nat_tests)

-- a name in lower case is a name
pub lowered-name : (text : List ℕ) → is_name text ≡ true → is_name (lowered text) ≡ true
lowered-name text is =
    let own = named text is in
    let size : length (lowered text) ≡ length text = length-map text to_ascii_lowercase in
    let some = positive (length text) own.some in
    let first : get_or (lowered text) 0 0 ≡ to_ascii_lowercase (get_or text 0 0) = get_or-map to_ascii_lowercase text 0 0 0 (omega (arith, some)) in
    let last : get_or (lowered text) (length text - 1) 0 ≡ to_ascii_lowercase (get_or text (length text - 1) 0) = get_or-map to_ascii_lowercase text (length text - 1) 0 0 (omega (arith, some)) in
    let ends : has_name_ends (get_or (lowered text) 0 0) (get_or (lowered text) (length text - 1) 0) ≡ true = rw (first, last) (lower-ends (get_or text 0 0) (get_or text (length text - 1) 0) own.ends) in
    rw size (and_from _ _ (and_from _ _ (and_from _ _ own.some own.short) (lower-all text own.all)) ends)

-- what is read of a text in lower case
pub named-lower : (text bytes : List ℕ) (read : Option (List ℕ)) → is_name text ≡ true → bytes ≡ lowered text → read ≡ name_in bytes → read ≡ Some (lowered text)
named-lower text bytes read is bytes_is read_is =
    let name : is_name (lowered text) ≡ true = lowered-name text is in
    read_is ∙ ap name_in bytes_is ∙ rw name refl

-- all bytes
pub all-written : (text bytes : List ℕ) (place : ℕ) → place ≤ length text → length text ≤ place → bytes ≡ take place (lowered text) ++ replicate (LONGEST_NAME - place) 0 → take (length text) bytes ≡ lowered text
all-written text bytes place most least is =
    let size : length (lowered text) ≡ length text = length-map text to_ascii_lowercase in
    let all : take place (lowered text) ≡ lowered text = take_all place (lowered text) (omega (arith, size, least)) in
    ap (take (length text)) (is ∙ ap (λ (l : List ℕ). l ++ replicate (LONGEST_NAME - place) 0) all)
    ∙ ap (λ (n : ℕ). take n (lowered text ++ replicate (LONGEST_NAME - place) 0)) (sym size)
    ∙ take-append_seam (lowered text) (replicate (LONGEST_NAME - place) 0)

-- bytes so far, and one more
set-next : (t : List ℕ) (i m : ℕ) → i < length t → set (take i t ++ replicate (suc m) 0) i (get_or t i 0) ≡ take (suc i) t ++ replicate m 0
set-next [] i m within = absurd (omega (arith, within))
set-next (x ∷ t) zero m within = refl
set-next (x ∷ t) (suc i) m within = ap (λ (l : List ℕ). x ∷ l) (set-next t i m (omega (arith, within)))

pub written : (text bytes : List ℕ) (i : ℕ) → i < length text → i < LONGEST_NAME → bytes ≡ take i (lowered text) ++ replicate (LONGEST_NAME - i) 0
    → set bytes i (to_ascii_lowercase (get_or text i 0)) ≡ take (i + 1) (lowered text) ++ replicate (LONGEST_NAME - (i + 1)) 0
written text bytes i within small so_far =
    let one : LONGEST_NAME - i ≡ suc (LONGEST_NAME - (i + 1)) = omega arith in
    let here : get_or (lowered text) i 0 ≡ to_ascii_lowercase (get_or text i 0) = get_or-map to_ascii_lowercase text i 0 0 within in
    rw (so_far, one, ← here) (set-next (lowered text) i (LONGEST_NAME - (i + 1)) (rw (length-map text to_ascii_lowercase) within) ∙ ap (λ (j : ℕ). take j (lowered text) ++ replicate (LONGEST_NAME - (i + 1)) 0) (sym (add-one i)))

abbrev or_else : {X : Type 0} → Option X → Option X → Option X
or_else (Some x) other = Some x
or_else None other = other

or-none : {X : Type 0} (o : Option X) → or_else o None ≡ o
or-none None = refl
or-none (Some x) = refl

or-some : {X : Type 0} (o other : Option X) → is_some o ≡ true → or_else o other ≡ o
or-some None other some = absurd cc
or-some (Some x) other some = refl

or-other : {X : Type 0} (o other : Option X) → is_some o ≡ false → or_else o other ≡ other
or-other None other none = refl
or-other (Some x) other none = absurd cc

-- an entry more
looked : {K X : Type 0} (test : K → Bool) (es : List (K × X)) (k : K) (v : X) → lookup test (es ++ (k, v) ∷ []) ≡ or_else (lookup test es) (cond (test k) (Some v) None)
looked test [] k v = refl
looked {K} {X} test (e ∷ es) k v = by (test e.0) (looked test es k v)
  where
    by : (b : Bool) → lookup test (es ++ (k, v) ∷ []) ≡ or_else (lookup test es) (cond (test k) (Some v) None) → cond b (Some e.1) (lookup test (es ++ (k, v) ∷ [])) ≡ or_else (cond b (Some e.1) (lookup test es)) (cond (test k) (Some v) None)
    by true more = refl
    by false more = more

-- a known name more
liked : (names : Names) (name : List ℕ) (class : Option Class) (q : List ℕ) → first_like (names ++ (name, class) ∷ []) q ≡ or_else (first_like names q) (if are_alike q name then Some name else None)
liked [] name class q = refl
liked (known ∷ names) name class q = by (are_alike q known.0) (liked names name class q)
  where
    by : (b : Bool) → first_like (names ++ (name, class) ∷ []) q ≡ or_else (first_like names q) (if are_alike q name then Some name else None) → (if b then Some known.0 else first_like (names ++ (name, class) ∷ []) q) ≡ or_else (if b then Some known.0 else first_like names q) (if are_alike q name then Some name else None)
    by true more = refl
    by false more = more

-- a name that a known one equals but for capitals is the first of none
passed : (names : Names) (firsts : Firsts) (name q : List ℕ) → HasFirsts names firsts → is_some (lookup (pointwise nat_eq (lowered name)) firsts) ≡ true → (alike : Bool) → are_alike q name ≡ alike
    → or_else (first_like names q) (if alike then Some name else None) ≡ first_like names q
passed names firsts name q has there false is = or-none (first_like names q)
passed names firsts name q has there true is =
    let same : lowered q ≡ lowered name = same_text (lowered q) (lowered name) (sym is) in
    let at : lookup (pointwise nat_eq (lowered q)) firsts ≡ lookup (pointwise nat_eq (lowered name)) firsts = ap (λ (k : List ℕ). lookup (pointwise nat_eq k) firsts) same in
    or-some (first_like names q) (Some name) (ap is_some (sym (has q)) ∙ ap is_some at ∙ there)

-- the first names, and one name more
pub firsts-further : (names : Names) (firsts : Firsts) (name : List ℕ) (class : Option Class) → HasFirsts names firsts → HasFirsts (names ++ (name, class) ∷ []) (with_first firsts name)
firsts-further names firsts name class has q = by (is_some (lookup (pointwise nat_eq (lowered name)) firsts)) refl
  where
    by : (there : Bool) → is_some (lookup (pointwise nat_eq (lowered name)) firsts) ≡ there
        → lookup (pointwise nat_eq (lowered q)) (if there then firsts else firsts ++ (lowered name, name) ∷ []) ≡ first_like (names ++ (name, class) ∷ []) q
    by true is = has q ∙ sym (passed names firsts name q has is (are_alike q name) refl) ∙ sym (liked names name class q)
    by false is = looked (pointwise nat_eq (lowered q)) firsts (lowered name) name ∙ ap (λ (o : Option (List ℕ)). or_else o (if are_alike q name then Some name else None)) (has q) ∙ sym (liked names name class q)

-- the entry of a known name
entry-of : (entry : Option (List ℕ × Option Class)) (name : List ℕ) → option_map (λ e. e.0) entry ≡ Some name → (class : Option Class) × (entry ≡ Some (name, class))
entry-of None name is = absurd cc
entry-of (Some (own, class)) name is =
    let same : own ≡ name = ap (λ (o : Option (List ℕ)). unwrap_or o name) is in
    (class, ap (λ (n : List ℕ). Some (n, class)) same)

-- the first names of so many known ones, and of the next
pub firsts-next : (names : Names) (firsts more : Firsts) (place : ℕ) (name : List ℕ) → name_at names place ≡ Some name → more ≡ with_first firsts name → HasFirsts (take place names) firsts → HasFirsts (take (place + 1) names) more
firsts-next names firsts more place name is added has =
    let (class, entry) = entry-of (slice_get names place) name is in
    let longer : take (place + 1) names ≡ take place names ++ (name, class) ∷ [] =
    take_more names place (name, class) (slice_get_within names place (name, class) entry)
    ∙ ap (λ (e : List ℕ × Option Class). take place names ++ e ∷ []) (get_or_from_slice_get names place (name, class) (name, class) entry) in
    rw (added, longer) (firsts-further (take place names) firsts name class has)

-- there is no next name
pub firsts-past : (names : Names) (firsts : Firsts) (place : ℕ) → place < length names → name_at names place ≡ None → HasFirsts (take (place + 1) names) firsts
firsts-past names firsts place within none =
    let entry = slice_get-get_or names place ([], None) within in
    absurd (let no : option_map (λ (e : List ℕ × Option Class). e.0) (Some (get_or names place ([], None))) ≡ None = ap (option_map (λ (e : List ℕ × Option Class). e.0)) (sym entry) ∙ none in cc)

pub none-some : (text : List ℕ) (read : Option (List ℕ)) → read ≡ Some text → read ≡ None → ⊥
none-some text read some none = let no : Some text ≡ None = sym some ∙ none in cc
