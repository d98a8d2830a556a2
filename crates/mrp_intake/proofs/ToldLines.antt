-- The lines of an input that comes in pieces.
use Rattle.std.proofs.Common.{◌≡◌, ◌≢◌, ◌<◌, ◌+◌, ℕ, zero, suc, Bool, true, false, List, [], ◌∷◌, ◌++◌, length, map, take, drop, Option, Some, None, refl, sym, ap, ◌∙◌, append_assoc, add-one, arith}
use Rattle.std.specs.Prelude.{◌||◌, ◌==◌, slice_index}
use Rattle.std.specs.List.{list_any, onto_first}
use Rattle.std.proofs.lemmas.Bool.{eqb-true}
use Rattle.std.proofs.lemmas.List.{append-nil, map-append}
use Rattle.std.proofs.lemmas.List.Folds.{list_any-append}
use Rattle.memchr.specs.Find.{IsLastByte, NoneAfter, NoneBefore, Nowhere, Passes, is_byte}
use Rattle.std.specs.Prelude.{⊤}
use Rattle.std.specs.Io.KnownBytes.{Consumes, IsAtEnd, Keeps}
use Rattle.std.proofs.KnownBytes.{Consumes-kept, Consumes-nil, Consumes-trans}
use Rattle.mrp_intake.specs.Intake.{BringsKnown, IsEnded, IsInLine, IsLineLeft, ReadsOn, Taken}
use Rattle.mrp_intake.specs.Lines.{lines_of, told_lines, told_of}

-- a byte that ends no line goes onto the first line
pub lines-on : (x : ℕ) (xs : List ℕ) → (x == 10) ≡ false → lines_of (x ∷ xs) ≡ onto_first x (lines_of xs)
unfolding lines_of
lines-on x xs e = rw e refl

-- a line feed ends a line
pub lines-end : (x : ℕ) (xs : List ℕ) → (x == 10) ≡ true → lines_of (x ∷ xs) ≡ (x ∷ []) ∷ lines_of xs
unfolding lines_of
lines-end x xs e = rw e refl

lines-none : lines_of [] ≡ []
unfolding lines_of
lines-none = refl

-- a line that has begun goes onto the first line
abbrev pub onto_lines : List ℕ → List (List ℕ) → List (List ℕ)
onto_lines [] ls = ls
onto_lines (x ∷ xs) ls = onto_first x (onto_lines xs ls)

head-off : (x : ℕ) (xs : List ℕ) → IsInLine (x ∷ xs) → ((x == 10) ≡ false) × IsInLine xs
head-off x xs e = by (x == 10) (list_any (λ byte. byte == 10) xs) e
  where
    by : (a b : Bool) → (a || b) ≡ false → (a ≡ false) × (b ≡ false)
    by true b h = absurd cc
    by false b h = (refl, h)

pub lines-onto : (xs ys : List ℕ) → IsInLine xs → lines_of (xs ++ ys) ≡ onto_lines xs (lines_of ys)
lines-onto [] ys e = refl
lines-onto (x ∷ xs) ys e =
    let off = head-off x xs e in
    lines-on x (xs ++ ys) off.0 ∙ ap (onto_first x) (lines-onto xs ys off.1)

-- behind a line feed other lines begin
onto-append : (x : ℕ) (l : List ℕ) (ls ms : List (List ℕ)) → onto_first x ((l ∷ ls) ++ ms) ≡ onto_first x (l ∷ ls) ++ ms
onto-append x l ls ms = refl

-- the lines of a text in which one ends are some
some-lines : (xs : List ℕ) (x : ℕ) → (l : List ℕ) × (ls : List (List ℕ)) × (lines_of (xs ++ x ∷ []) ≡ l ∷ ls)
some-lines [] x = by (x == 10) refl
  where
    by : (b : Bool) → (x == 10) ≡ b → (l : List ℕ) × (ls : List (List ℕ)) × (lines_of (x ∷ []) ≡ l ∷ ls)
    by true e = (x ∷ [], lines_of [], lines-end x [] e)
    by false e = (x ∷ [], [], lines-on x [] e ∙ ap (onto_first x) lines-none)
some-lines (y ∷ xs) x = by (y == 10) refl (some-lines xs x)
  where
    by : (b : Bool) → (y == 10) ≡ b → ((l : List ℕ) × (ls : List (List ℕ)) × (lines_of (xs ++ x ∷ []) ≡ l ∷ ls)) → (l : List ℕ) × (ls : List (List ℕ)) × (lines_of (y ∷ (xs ++ x ∷ [])) ≡ l ∷ ls)
    by true e more = (y ∷ [], lines_of (xs ++ x ∷ []), lines-end y (xs ++ x ∷ []) e)
    by false e more = (y ∷ more.0, more.1, lines-on y (xs ++ x ∷ []) e ∙ ap (onto_first y) more.2)

-- the lines of whole lines, and then those of the rest
lines-behind : (front ys : List ℕ) → lines_of ((front ++ 10 ∷ []) ++ ys) ≡ lines_of (front ++ 10 ∷ []) ++ lines_of ys
lines-behind [] ys = lines-end 10 ys refl ∙ ap (λ (ls : List (List ℕ)). ls ++ lines_of ys) (sym (lines-end 10 [] refl ∙ ap (λ ls. (10 ∷ []) ∷ ls) lines-none))
lines-behind (x ∷ front) ys = by (x == 10) refl (lines-behind front ys)
  where
    by : (b : Bool) → (x == 10) ≡ b → lines_of ((front ++ 10 ∷ []) ++ ys) ≡ lines_of (front ++ 10 ∷ []) ++ lines_of ys → lines_of ((x ∷ front ++ 10 ∷ []) ++ ys) ≡ lines_of (x ∷ front ++ 10 ∷ []) ++ lines_of ys
    by true e more = lines-end x ((front ++ 10 ∷ []) ++ ys) e ∙ ap (λ ls. (x ∷ []) ∷ ls) more ∙ ap (λ (ls : List (List ℕ)). ls ++ lines_of ys) (sym (lines-end x (front ++ 10 ∷ []) e))
    by false e more =
        let some = some-lines front 10 in
        lines-on x ((front ++ 10 ∷ []) ++ ys) e ∙ ap (onto_first x) more
        ∙ ap (λ (ls : List (List ℕ)). onto_first x (ls ++ lines_of ys)) some.2
        ∙ sym (ap (λ (ls : List (List ℕ)). onto_first x ls ++ lines_of ys) some.2)
        ∙ ap (λ (ls : List (List ℕ)). ls ++ lines_of ys) (sym (lines-on x (front ++ 10 ∷ []) e))

pub told-behind : (xs ys : List ℕ) → IsEnded xs → told_lines (xs ++ ys) ≡ told_lines xs ++ told_lines ys
told-behind xs ys ended =
    ap told_lines (ap (λ (l : List ℕ). l ++ ys) ended.is) ∙ ap (map told_of) (lines-behind ended.front ys)
    ∙ map-append told_of (lines_of (ended.front ++ 10 ∷ [])) (lines_of ys)
    ∙ ap (λ (l : List ℕ). told_lines l ++ told_lines ys) (sym ended.is)

-- one list begins as another that is cut
take-front : (n : ℕ) (l f : List ℕ) → take n (l ++ f) ≡ take n (take n l ++ f)
take-front zero l f = refl
take-front (suc n) [] f = refl
take-front (suc n) (x ∷ l) f = ap (λ (r : List ℕ). x ∷ r) (take-front n l f)

take-again : (n : ℕ) (l : List ℕ) → take n l ≡ take n (take n l)
take-again zero l = refl
take-again (suc n) [] = refl
take-again (suc n) (x ∷ l) = ap (λ (r : List ℕ). x ∷ r) (take-again n l)

onto-some : (x : ℕ) (l f : List ℕ) (fs : List (List ℕ)) → onto_lines (x ∷ l) (f ∷ fs) ≡ (x ∷ (l ++ f)) ∷ fs
onto-some x [] f fs = refl
onto-some x (y ∷ l) f fs = ap (onto_first x) (onto-some y l f fs)

onto-none : (x : ℕ) (l : List ℕ) → onto_lines (x ∷ l) [] ≡ (x ∷ l) ∷ []
onto-none x [] = refl
onto-none x (y ∷ l) = ap (onto_first x) (onto-none y l)

-- a line that has begun may be cut where more of it is not told
short : (n : ℕ) (l : List ℕ) (ls : List (List ℕ)) → map (take (suc n)) (onto_lines l ls) ≡ map (take (suc n)) (onto_lines (take (suc n) l) ls)
short n [] ls = refl
short n (x ∷ l) [] = ap (map (take (suc n))) (onto-none x l) ∙ ap (λ (r : List ℕ). (x ∷ r) ∷ []) (take-again n l) ∙ sym (ap (map (take (suc n))) (onto-none x (take n l)))
short n (x ∷ l) (f ∷ fs) =
    ap (map (take (suc n))) (onto-some x l f fs) ∙ ap (λ (r : List ℕ). (x ∷ r) ∷ map (take (suc n)) fs) (take-front n l f) ∙ sym (ap (map (take (suc n))) (onto-some x (take n l) f fs))

pub in-take : (n : ℕ) (l : List ℕ) → IsInLine l → IsInLine (take n l)
in-take zero l e = refl
in-take (suc n) [] e = refl
in-take (suc n) (x ∷ l) e =
    let off = head-off x l e in
    let more : IsInLine (take n l) = in-take n l off.1 in
    ap (λ b. b || list_any (λ byte. byte == 10) (take n l)) off.0 ∙ more

pub in-append : (xs ys : List ℕ) → IsInLine xs → IsInLine ys → IsInLine (xs ++ ys)
in-append xs ys e f = list_any-append (λ byte. byte == 10) xs ys ∙ ap (λ b. b || list_any (λ byte. byte == 10) ys) e ∙ f

pub told-short : (l ys : List ℕ) → IsInLine l → told_lines (l ++ ys) ≡ told_lines (take 4097 l ++ ys)
told-short l ys e =
    ap (map told_of) (lines-onto l ys e) ∙ short 4096 l (lines_of ys) ∙ sym (ap (map told_of) (lines-onto (take 4097 l) ys (in-take 4097 l e)))

-- as searches have it
none-in : (xs : List ℕ) → ((k : ℕ) → k < length xs → ¬ ((slice_index xs k == 10) ≡ true)) → IsInLine xs
none-in [] none = refl
none-in (x ∷ xs) none = by (x == 10) refl (none-in xs (λ k in_xs e. none (suc k) (omega arith) e))
  where
    by : (b : Bool) → (x == 10) ≡ b → IsInLine xs → IsInLine (x ∷ xs)
    by true e rest = absurd (none 0 (omega arith) e)
    by false e rest = ap (λ b. b || list_any (λ byte. byte == 10) xs) e ∙ rest

pub nowhere-in : (xs : List ℕ) → Nowhere (Passes (is_byte 10) xs) 0 (length xs) → IsInLine xs
nowhere-in xs nowhere = none-in xs (λ k in_xs e. nowhere k (omega arith) in_xs e)

ended-at : (xs : List ℕ) (k : ℕ) → k < length xs → (slice_index xs k == 10) ≡ true → IsEnded (take (suc k) xs)
ended-at [] k in_xs e = absurd (omega arith)
ended-at (x ∷ xs) zero in_xs e = let is : x ≡ 10 = eqb-true x 10 e in record { front = []; is = rw is refl }
ended-at (x ∷ xs) (suc k) in_xs e =
    let more = ended-at xs k (omega arith) e in
    record { front = x ∷ more.front; is = ap (λ (l : List ℕ). x ∷ l) more.is }

pub ended-last : (xs : List ℕ) (at : ℕ) → NoneAfter (Passes (is_byte 10) xs) 0 (length xs) at → Passes (is_byte 10) xs at → IsEnded (take (at + 1) xs)
ended-last xs at found passes = let high : at < length xs = found.high in rw add-one (ended-at xs at high passes)

in-behind : (xs : List ℕ) (k : ℕ) → ((j : ℕ) → k < j → j < length xs → ¬ ((slice_index xs j == 10) ≡ true)) → IsInLine (drop (suc k) xs)
in-behind [] k after = refl
in-behind (x ∷ xs) zero after = none-in xs (λ j in_rest e. after (suc j) (omega arith) (omega arith) e)
in-behind (x ∷ xs) (suc k) after = in-behind xs k (λ j behind in_rest e. after (suc j) (omega arith) (omega arith) e)

pub in-after : (xs : List ℕ) (at : ℕ) → NoneAfter (Passes (is_byte 10) xs) 0 (length xs) at → IsInLine (drop (at + 1) xs)
in-after xs at found = rw add-one (in-behind xs at (λ j behind in_xs e. found.after j (omega arith) in_xs e))

-- the first line of a text
first-at : (xs : List ℕ) (k : ℕ) → k < length xs → (slice_index xs k == 10) ≡ true → ((j : ℕ) → j < k → ¬ ((slice_index xs j == 10) ≡ true)) → lines_of xs ≡ take (suc k) xs ∷ lines_of (drop (suc k) xs)
first-at [] k in_xs e before = absurd (omega arith)
first-at (x ∷ xs) zero in_xs e before = lines-end x xs e
first-at (x ∷ xs) (suc k) in_xs e before =
    by (x == 10) refl (first-at xs k (omega arith) e (λ j front p. before (suc j) (omega arith) p))
  where
    by : (b : Bool) → (x == 10) ≡ b → lines_of xs ≡ take (suc k) xs ∷ lines_of (drop (suc k) xs) → lines_of (x ∷ xs) ≡ (x ∷ take (suc k) xs) ∷ lines_of (drop (suc k) xs)
    by true p more = absurd (before 0 (omega arith) p)
    by false p more = lines-on x xs p ∙ ap (onto_first x) more

pub first-line : (xs : List ℕ) (at : ℕ) → NoneBefore (Passes (is_byte 10) xs) 0 (length xs) at → Passes (is_byte 10) xs at → lines_of xs ≡ take (at + 1) xs ∷ lines_of (drop (at + 1) xs)
first-line xs at found passes = let high : at < length xs = found.high in rw add-one (first-at xs at high passes (λ j front e. found.before j (omega arith) front e))

pub only-line : (xs : List ℕ) → 0 < length xs → Nowhere (Passes (is_byte 10) xs) 0 (length xs) → lines_of xs ≡ xs ∷ lines_of []
only-line [] some nowhere = absurd (omega arith)
only-line (x ∷ xs) some nowhere =
    let e : IsInLine (x ∷ xs) = nowhere-in (x ∷ xs) nowhere in
    ap lines_of (sym (append-nil (x ∷ xs))) ∙ lines-onto (x ∷ xs) [] e ∙ ap (onto_lines (x ∷ xs)) lines-none ∙ onto-none x xs ∙ ap (λ (ls : List (List ℕ)). (x ∷ xs) ∷ ls) (sym lines-none)

-- a piece completes lines
pub piece-brings : (begun given lines more new after : List ℕ) → given ≡ lines ++ more → IsEnded lines → told_lines (more ++ after) ≡ told_lines (new ++ after)
    → told_lines (begun ++ given ++ after) ≡ told_lines (begun ++ lines) ++ told_lines (new ++ after)
piece-brings begun given lines more new after is ended same =
    let whole : IsEnded (begun ++ lines) = record { front = begun ++ ended.front; is = ap (λ (l : List ℕ). begun ++ l) ended.is ∙ sym (append_assoc begun ended.front (10 ∷ [])) } in
    let cut : begun ++ given ++ after ≡ (begun ++ lines) ++ (more ++ after) =
    ap (λ (l : List ℕ). begun ++ l ++ after) is ∙ ap (λ (l : List ℕ). l ++ after) (sym (append_assoc begun lines more)) ∙ append_assoc (begun ++ lines) more after in
    ap told_lines cut ∙ told-behind (begun ++ lines) (more ++ after) whole ∙ ap (λ (ls : List (List ℕ)). told_lines (begun ++ lines) ++ ls) same

-- an empty batch has no lines
pub told-none : (batch text : List ℕ) → batch ≡ [] → told_lines text ≡ told_lines batch ++ told_lines text
told-none batch text e = ap (λ (ls : List (List ℕ)). map told_of ls ++ told_lines text) (sym lines-none) ∙ ap (λ (l : List ℕ). told_lines l ++ told_lines text) (sym e)

-- whole lines behind a line that has begun
pub ended-behind : (begun lines : List ℕ) → IsEnded lines → IsEnded (begun ++ lines)
ended-behind begun lines ended = record { front = begun ++ ended.front; is = ap (λ (l : List ℕ). begun ++ l) ended.is ∙ sym (append_assoc begun ended.front (10 ∷ [])) }

-- a search that finds no line feed
pub none-found : (xs : List ℕ) (found : Option ℕ) → IsLastByte (is_byte 10) xs found → ((at : ℕ) → found ≡ Some at → ⊥) → IsInLine xs
none-found xs None nowhere none = nowhere-in xs nowhere
none-found xs (Some at) last none = absurd (none at refl)

-- the lines that were to come are still to come, as far as that is known
abbrev pub ToCome : List ℕ → Option (List ℕ) → List ℕ → Option (List ℕ) → Type 0
ToCome begun None more now = ⊤
ToCome begun (Some xs) more None = ⊥
ToCome begun (Some xs) more (Some ys) = told_lines (begun ++ xs) ≡ told_lines (more ++ ys)

pub to-come-same : (begun : List ℕ) (now : Option (List ℕ)) → ToCome begun now begun now
to-come-same begun None = tt
to-come-same begun (Some xs) = refl

-- nothing was read
pub to-come-kept : (begun more : List ℕ) (first now next : Option (List ℕ)) → ToCome begun first more now → Keeps now next → ToCome begun first more next
to-come-kept begun more None now next t k = tt
to-come-kept begun more (Some xs) None next t k = absurd t
to-come-kept begun more (Some xs) (Some ys) None t k = absurd k
to-come-kept begun more (Some xs) (Some ys) (Some zs) t k = t ∙ ap (λ l. told_lines (more ++ l)) (sym k)

-- a piece was read
pub to-come-brings : (old new : Taken) (more given : List ℕ) (first now next : Option (List ℕ)) → ToCome old.begun first more now → Consumes now next given
    → ((after : List ℕ) → told_lines (more ++ given ++ after) ≡ told_lines new.batch ++ told_lines (new.begun ++ after)) → BringsKnown old new first next
to-come-brings old new more given None now next t k b = tt
to-come-brings old new more given (Some xs) None next t k b = absurd t
to-come-brings old new more given (Some xs) (Some ys) None t k b = absurd k
to-come-brings old new more given (Some xs) (Some ys) (Some zs) t k b =
    t ∙ ap (λ l. told_lines (more ++ l)) k ∙ ap told_lines (sym (append_assoc more given zs)) ∙ b zs

-- it completed no line
pub to-come-on : (old new : Taken) (first next : Option (List ℕ)) → BringsKnown old new first next → new.batch ≡ [] → ToCome old.begun first new.begun next
to-come-on old new None next b e = tt
to-come-on old new (Some xs) None b e = absurd b
to-come-on old new (Some xs) (Some zs) b e = b ∙ sym (told-none new.batch (new.begun ++ zs) e)

-- the input has ended
pub to-come-end : (old new : Taken) (more : List ℕ) (first now next : Option (List ℕ)) → ToCome old.begun first more now → Consumes now next [] → IsAtEnd next
    → new ≡ record { batch = more; begun = [] } → BringsKnown old new first next
to-come-end old new more None now next t k e is = tt
to-come-end old new more (Some xs) None next t k e is = absurd t
to-come-end old new more (Some xs) (Some ys) None t k e is = absurd k
to-come-end old new more (Some xs) (Some ys) (Some zs) t k e is =
    let none : ys ≡ [] = k ∙ e in
    let last : told_lines (old.begun ++ xs) ≡ told_lines more ++ told_lines [] = t ∙ ap (λ l. told_lines (more ++ l)) none ∙ ap told_lines (append-nil more) ∙ sym (ap (λ (ls : List (List ℕ)). told_lines more ++ map told_of ls) lines-none ∙ append-nil (told_lines more)) in
    let rest : told_lines [] ≡ told_lines ([] ++ zs) = ap told_lines (sym e) in
    last ∙ ap (λ (ls : List (List ℕ)). told_lines more ++ ls) rest ∙ sym (ap (λ (n : Taken). told_lines n.batch ++ told_lines (n.begun ++ zs)) is)

-- no read gave anything yet
pub reads-none : (o : Option (List ℕ)) → ReadsOn o o
reads-none o = ([], Consumes-nil o, refl)

-- one more gave no line feed
pub reads-more : (first now next : Option (List ℕ)) (given : List ℕ) → ReadsOn first now → Consumes now next given → IsInLine given → ReadsOn first next
reads-more first now next given r k e = (r.0 ++ given, Consumes-trans first now next r.0 given r.1 k, in-append r.0 given r.2 e)

-- one more was interrupted
pub reads-kept : (first now next : Option (List ℕ)) → ReadsOn first now → Keeps now next → ReadsOn first next
reads-kept first now next r k = (r.0, Consumes-kept first now next r.0 r.1 k, r.2)

-- a text that ends as a line does is not empty
pub ended-some : (xs : List ℕ) → IsEnded xs → xs ≢ []
ended-some xs ended = by ended.front ended.is
  where
    by : (front : List ℕ) → xs ≡ front ++ 10 ∷ [] → xs ≢ []
    by [] is = λ none. let e : 10 ∷ [] ≡ [] = sym is ∙ none in cc
    by (x ∷ front) is = λ none. let e : x ∷ (front ++ 10 ∷ []) ≡ [] = sym is ∙ none in cc

-- a text that is not empty has a line
pub told-some : (xs : List ℕ) → xs ≢ [] → told_lines xs ≢ []
told-some [] some = absurd (some refl)
told-some (x ∷ xs) some = by (x == 10) refl
  where
    onto : (ls : List (List ℕ)) → told_lines (x ∷ xs) ≡ map told_of (onto_first x ls) → told_lines (x ∷ xs) ≢ []
    onto [] is = λ none. let e : told_of (x ∷ []) ∷ [] ≡ [] = sym is ∙ none in cc
    onto (l ∷ ls) is = λ none. let e : told_of (x ∷ l) ∷ map told_of ls ≡ [] = sym is ∙ none in cc

    by : (b : Bool) → (x == 10) ≡ b → told_lines (x ∷ xs) ≢ []
    by true e = λ none. let is : told_of (x ∷ []) ∷ told_lines xs ≡ [] = sym (ap (map told_of) (lines-end x xs e)) ∙ none in cc
    by false e = onto (lines_of xs) (ap (map told_of) (lines-on x xs e))

pub front-some : (front behind : List ℕ) → front ≢ [] → front ++ behind ≢ []
front-some [] behind some = absurd (some refl)
front-some (x ∷ front) behind some = λ none. let e : x ∷ (front ++ behind) ≡ [] = none in cc

pub behind-some : (front behind : List ℕ) → behind ≢ [] → front ++ behind ≢ []
behind-some [] behind some = some
behind-some (x ∷ front) behind some = λ none. let e : x ∷ (front ++ behind) ≡ [] = none in cc

-- of a line that is to come some was read
pub line-left : (begun more given : List ℕ) (first now next : Option (List ℕ)) → ToCome begun first more now → Consumes now next given → more ++ given ≢ [] → IsLineLeft begun first
line-left begun more given None now next t k some = tt
line-left begun more given (Some xs) None next t k some = absurd t
line-left begun more given (Some xs) (Some ys) None t k some = absurd k
line-left begun more given (Some xs) (Some ys) (Some zs) t k some = λ none.
    let is : told_lines (begun ++ xs) ≡ told_lines ((more ++ given) ++ zs) = t ∙ ap (λ l. told_lines (more ++ l)) k ∙ ap told_lines (sym (append_assoc more given zs)) in
    told-some ((more ++ given) ++ zs) (front-some (more ++ given) zs some) (sym is ∙ none)
