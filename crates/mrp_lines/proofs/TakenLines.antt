-- What csv reads of a text whose first lines were taken off.
use Rattle.std.proofs.Common.{◌≡◌, ◌∙◌, ◌⊎◌, ◌+◌, ◌*◌, ◌<◌, ◌≤◌, ℕ, zero, suc, Bool, true, false, List, [], ◌∷◌, ◌++◌, Option, None, Some, inl, inr, length, take, refl, sym, ap, subst, append_assoc, arith}
use Rattle.std.specs.Prelude.{◌==◌, ◌&&◌, ◌-◌, All, if◌then◌else◌, slice_index}
use Rattle.std.specs.Io.KnownBytes.{Consumes, Keeps}
use Rattle.std.proofs.lemmas.Bool.{eqb-true}
use Rattle.std.proofs.lemmas.List.{take_more}
use Rattle.std.proofs.lemmas.List.Elements.{All-head, All-tail}
use Rattle.csv.specs.Machine.{Read, next_record}
use Rattle.csv.specs.Reading.{Reached, default_config, is_bom, strip_bom}
use Rattle.csv.specs.declared.parser.State.{State}
use Rattle.csv.specs.declared.parser.State.TheVariants as st
use Rattle.mrp_rows.specs.Bundle.{ends_line}
use Rattle.mrp_lines.specs.Lines.{AreLinesAt, IsEndless, IsLineAt, IsPlainLine, cells_of, ends, size_of}
use Rattle.mrp_lines.specs.declared.line.TheConstants.{LONGEST_LINE}
use Rattle.mrp_lines.specs.Taken.{AreAlike, AreRecordsOf, BeginsWith, HasBroken, HasLong, IsTaken}
use Rattle.mrp_lines.proofs.Chunks.{AllStay, AreWhole, OneBreaks, ReadsAlike, alike-reached, alike-records, chunk-rows, none-more}
use Rattle.mrp_lines.proofs.LineRecords.{line-next}
use Rattle.mrp_lines.proofs.Machine.{long-record, open-some, start-begins, start-skips}

-- records, and then more
reached-append : (s t u : State) (xs ys zs : List ℕ) (rows more : List (List (List ℕ))) → Reached default_config s xs rows t ys → Reached default_config t ys more u zs → Reached default_config s xs (rows ++ more) u zs
unfolding Reached
reached-append s t u xs ys zs [] more a b = rw (a.0, a.1) b
reached-append s t u xs ys zs (r ∷ rows) more (p, next, is, a) b = (p, next, is, reached-append p.1 t u p.2 ys zs rows more a b)

-- no byte order mark
strip-other : (byte : ℕ) (rest : List ℕ) → (byte == 239) ≡ false → strip_bom (byte ∷ rest) ≡ byte ∷ rest
unfolding strip_bom
strip-other byte [] other = refl
strip-other byte (b ∷ []) other = refl
strip-other byte (b ∷ c ∷ rest) other = rw other refl

-- csv skips a line feed in front
skip-feed : (rest : List ℕ) → AreAlike st.StartRecord (strip_bom (10 ∷ rest)) st.StartRecord rest
skip-feed rest = ap (λ (xs : List ℕ). next_record default_config st.StartRecord [] [] xs) (strip-other 10 rest refl) ∙ start-skips st.StartRecord 10 rest refl refl

pub taken-none : (text : List ℕ) → IsTaken text [] [] text
unfolding Reached
taken-none text = record { state = st.StartRecord; left = strip_bom text; reached = (refl, refl); alike = refl; front_is = inl refl }

module _ (text : List ℕ) (records : List (List (List ℕ))) (front rest : List ℕ) (taken : IsTaken text records front rest) where
  -- csv reads the rest
  pub taken-all : (more : List (List (List ℕ))) → AreRecordsOf (front ++ rest) more → AreRecordsOf text (records ++ more)
  taken-all more are =
      let (u, zs, reached, none) = alike-records taken.state st.StartRecord taken.left (strip_bom (front ++ rest)) more taken.alike are in
      (u, zs, reached-append st.StartRecord taken.state u (strip_bom text) taken.left zs records more taken.reached reached, none)

  -- these records follow, and csv reads on as in what is left
  follow : (more : List (List (List ℕ))) (u : State) (zs : List ℕ) → Reached default_config st.StartRecord (strip_bom (front ++ rest)) more u zs → ReadsAlike st.StartRecord (strip_bom text) (records ++ more) u zs
  follow more u zs reached =
      let next = alike-reached taken.state st.StartRecord taken.left (strip_bom (front ++ rest)) more u zs taken.alike reached in
      record { state = next.state; left = next.left; reached = reached-append st.StartRecord taken.state next.state (strip_bom text) taken.left next.left records more taken.reached next.reached; alike = next.alike }

  pub taken-first : (more : List (List (List ℕ))) → BeginsWith (front ++ rest) more → BeginsWith text (records ++ more)
  taken-first more (u, zs, reached) = let next = follow more u zs reached in (next.state, next.left, next.reached)

  -- with these records, what is left behind
  taken-behind : (more : List (List (List ℕ))) (u : State) (zs behind : List ℕ) → Reached default_config st.StartRecord (strip_bom (front ++ rest)) more u zs → AreAlike u zs st.StartRecord behind → IsTaken text (records ++ more) (10 ∷ []) behind
  taken-behind more u zs behind reached alike =
      let next = follow more u zs reached in
      record { state = next.state; left = next.left; reached = next.reached; alike = next.alike ∙ alike ∙ sym (skip-feed behind); front_is = inr refl }

-- the records of what was taken are the first of the text
pub taken-begins : (text : List ℕ) (records : List (List (List ℕ))) (front rest : List ℕ) → IsTaken text records front rest → BeginsWith text records
taken-begins text records front rest taken = (taken.state, taken.left, taken.reached)

-- a line without quotes
strip-line : (line rest : List ℕ) → IsPlainLine line → strip_bom (line ++ rest) ≡ line ++ rest
strip-line [] rest is = absurd (omega (arith, is.some))
strip-line (byte ∷ line) rest is = strip-other byte (line ++ rest) is.mark

line-first : (front line rest : List ℕ) → (front ≡ []) ⊎ (front ≡ 10 ∷ []) → IsPlainLine line → next_record default_config st.StartRecord [] [] (strip_bom (front ++ (line ++ (10 ∷ rest)))) ≡ Some (cells_of line, st.StartRecord, rest)
line-first front line rest (inl bare) is = rw (bare, strip-line line (10 ∷ rest) is) (line-next line rest is)
line-first front line rest (inr feed) is = rw feed (skip-feed (line ++ (10 ∷ rest)) ∙ line-next line rest is)

pub taken-more : (text : List ℕ) (records : List (List (List ℕ))) (front line rest : List ℕ) → IsPlainLine line → IsTaken text records front (line ++ (10 ∷ rest)) → IsTaken text (records ++ (cells_of line ∷ [])) (10 ∷ []) rest
unfolding Reached
taken-more text records front line rest is taken =
    taken-behind text records front (line ++ (10 ∷ rest)) taken (cells_of line ∷ []) st.StartRecord rest rest ((cells_of line, st.StartRecord, rest), line-first front line rest taken.front_is is, refl, (refl, refl)) refl

-- a byte order mark does not reach past the end of a line
ends-other : (byte code : ℕ) → ends_line byte ≡ true → ends_line code ≡ false → (byte == code) ≡ false
ends-other byte code e other = by (byte == code) refl
  where
    by : (b : Bool) → (byte == code) ≡ b → (byte == code) ≡ false
    by false q = q
    by true q =
        let never : ends_line code ≡ true = rw (eqb-true byte code q) at e in
        absurd (let both = sym never ∙ other in cc)

pub strip-whole : (xs more : List ℕ) → ends xs ≡ true → (strip_bom (xs ++ more) ≡ strip_bom xs ++ more) × AreWhole (strip_bom xs)
unfolding strip_bom
strip-whole [] more e = absurd cc
strip-whole (a ∷ []) more e =
    (strip-other a more (ends-other a 239 e refl), inr e)
strip-whole (a ∷ b ∷ []) [] e = (refl, inr e)
strip-whole (a ∷ b ∷ []) (c ∷ more) e = (by (a == 239) (b == 187) (c == 191) (ends-other b 187 e refl), inr e)
  where
    by : (p q r : Bool) → q ≡ false → (if p && q && r then more else a ∷ b ∷ c ∷ more) ≡ a ∷ b ∷ c ∷ more
    by true true r h = absurd cc
    by true false r h = refl
    by false q r h = refl
strip-whole (a ∷ b ∷ c ∷ xs) more e = by (a == 239) (b == 187) (c == 191) refl xs e
  where
    by : (p q r : Bool) → (c == 191) ≡ r → (ys : List ℕ) → ends (a ∷ b ∷ c ∷ ys) ≡ true
        → ((if p && q && r then ys ++ more else a ∷ b ∷ c ∷ (ys ++ more)) ≡ (if p && q && r then ys else a ∷ b ∷ c ∷ ys) ++ more) × AreWhole (if p && q && r then ys else a ∷ b ∷ c ∷ ys)
    by true true true at [] h = (refl, inl refl)
    by true true true at (d ∷ ys) h = (refl, inr h)
    by true true false at ys h = (refl, inr h)
    by true false r at ys h = (refl, inr h)
    by false q r at ys h = (refl, inr h)

front-whole : (front xs : List ℕ) → (front ≡ []) ⊎ (front ≡ 10 ∷ []) → ends xs ≡ true → ends (front ++ xs) ≡ true
front-whole front [] is e = absurd cc
front-whole front (x ∷ xs) (inl bare) e = rw bare e
front-whole front (x ∷ xs) (inr feed) e = rw feed e

module _ (text : List ℕ) (records : List (List (List ℕ))) (front xs more : List ℕ) (taken : IsTaken text records front (xs ++ more)) (e : ends xs ≡ true) where
  whole : ends (front ++ xs) ≡ true
  whole = front-whole front xs taken.front_is e

  same : strip_bom (front ++ (xs ++ more)) ≡ strip_bom (front ++ xs) ++ more
  same = ap strip_bom (sym (append_assoc front xs more)) ∙ (strip-whole (front ++ xs) more whole).0

  -- the first records
  first-rows : (rows : List (List (List ℕ))) (t : State) (left : List ℕ) → Reached default_config st.StartRecord (strip_bom (front ++ xs)) rows t left
      → AllStay st.StartRecord (strip_bom (front ++ xs)) more rows t left ⊎ HasBroken text records rows
  first-rows rows t left reached = by (chunk-rows rows st.StartRecord t (strip_bom (front ++ xs)) left more refl (strip-whole (front ++ xs) more whole).1 reached)
    where
      by : AllStay st.StartRecord (strip_bom (front ++ xs)) more rows t left ⊎ OneBreaks st.StartRecord (strip_bom (front ++ xs)) more rows → AllStay st.StartRecord (strip_bom (front ++ xs)) more rows t left ⊎ HasBroken text records rows
      by (inl all) = inl all
      by (inr one) = inr (record {
        before = one.before;
        broken = one.broken;
        behind = one.behind;
        here = one.here;
        breaks = one.breaks;
        other = one.other;
        begins = taken-first text records front (xs ++ more) taken (one.before ++ (one.other ∷ []))
            (one.state, one.left, subst (λ (l : List ℕ). Reached default_config st.StartRecord l (one.before ++ (one.other ∷ [])) one.state one.left) (sym same) one.reached);
        there = one.there;
      })

  pub lines-taken : (rows : List (List (List ℕ))) → AreRecordsOf (front ++ xs) rows → IsTaken text (records ++ rows) (10 ∷ []) more ⊎ HasBroken text records rows
  lines-taken rows (t, left, reached, none) = by (first-rows rows t left reached)
    where
      by : AllStay st.StartRecord (strip_bom (front ++ xs)) more rows t left ⊎ HasBroken text records rows → IsTaken text (records ++ rows) (10 ∷ []) more ⊎ HasBroken text records rows
      by (inl all) =
          inl (taken-behind text records front (xs ++ more) taken rows t (left ++ more) more
          (subst (λ (l : List ℕ). Reached default_config st.StartRecord l rows t (left ++ more)) (sym same) all.reached) (none-more left t more all.start none))
      by (inr broken) = inr broken

  pub lines-begin : (rows : List (List (List ℕ))) → BeginsWith (front ++ xs) rows → BeginsWith text (records ++ rows) ⊎ HasBroken text records rows
  lines-begin rows (t, left, reached) = by (first-rows rows t left reached)
    where
      by : AllStay st.StartRecord (strip_bom (front ++ xs)) more rows t left ⊎ HasBroken text records rows → BeginsWith text (records ++ rows) ⊎ HasBroken text records rows
      by (inl all) =
          inl (taken-first text records front (xs ++ more) taken rows (t, left ++ more, subst (λ (l : List ℕ). Reached default_config st.StartRecord l rows t (left ++ more)) (sym same) all.reached))
      by (inr broken) = inr broken

-- a line that is too long
record IsBegun (front xs more : List ℕ) : Type 0 where
  bytes : List ℕ
  none : All (λ byte. ends_line byte ≡ false) bytes
  many : length xs ≤ length bytes + 3
  alike : AreAlike st.StartRecord (strip_bom (front ++ (xs ++ more))) st.StartRecord (bytes ++ more)

begun-bare : (xs more : List ℕ) → All (λ byte. ends_line byte ≡ false) xs → 3 ≤ length xs → IsBegun [] xs more
unfolding strip_bom
begun-bare [] more none many = absurd (omega (arith, many))
begun-bare (a ∷ []) more none many = absurd (omega (arith, many))
begun-bare (a ∷ b ∷ []) more none many = absurd (omega (arith, many))
begun-bare (a ∷ b ∷ c ∷ xs) more none many = by (is_bom a b c) refl
  where
    alike : (m : Bool) → is_bom a b c ≡ m → next_record default_config st.StartRecord [] [] (strip_bom (a ∷ b ∷ c ∷ (xs ++ more))) ≡ next_record default_config st.StartRecord [] [] (if m then xs ++ more else a ∷ b ∷ c ∷ (xs ++ more))
    alike m is = ap (λ (m : Bool). next_record default_config st.StartRecord [] [] (if m then xs ++ more else a ∷ b ∷ c ∷ (xs ++ more))) is

    by : (m : Bool) → is_bom a b c ≡ m → IsBegun [] (a ∷ b ∷ c ∷ xs) more
    by true is = record {
      bytes = xs;
      none = All-tail (λ byte. ends_line byte ≡ false) c xs (All-tail (λ byte. ends_line byte ≡ false) b (c ∷ xs) (All-tail (λ byte. ends_line byte ≡ false) a (b ∷ c ∷ xs) none));
      many = omega arith;
      alike = alike true is;
    }
    by false is = record { bytes = a ∷ b ∷ c ∷ xs; none = none; many = omega arith; alike = rw is refl }

begun : (front xs more : List ℕ) → (front ≡ []) ⊎ (front ≡ 10 ∷ []) → All (λ byte. ends_line byte ≡ false) xs → 3 ≤ length xs → IsBegun front xs more
begun front xs more (inl bare) none many = rw bare (begun-bare xs more none many)
begun front xs more (inr feed) none many = rw feed (record { bytes = xs; none = none; many = omega arith; alike = skip-feed (xs ++ more) })

long-first : (ys more : List ℕ) → All (λ byte. ends_line byte ≡ false) ys → 0 < length ys → (p : Read) × (next_record default_config st.StartRecord [] [] (ys ++ more) ≡ Some p) × (length ys < 3 * size_of p.0)
long-first [] more none some = absurd (omega (arith, some))
long-first (y ∷ ys) more none some =
    let (p, read) = open-some (y ∷ (ys ++ more)) st.StartField [] [] refl in
    let few = long-record (y ∷ ys) more st.StartField [] [] p refl none read in
    (p, start-begins st.StartRecord y (ys ++ more) refl (All-head (λ byte. ends_line byte ≡ false) y ys none) ∙ read, omega (arith, few))

pub long-taken : (text : List ℕ) (records : List (List (List ℕ))) (front xs more : List ℕ) → IsTaken text records front (xs ++ more) → IsEndless xs → HasLong text records
unfolding Reached
long-taken text records front xs more taken endless =
    let room : 3 * LONGEST_LINE + 10 ≤ length xs = rw endless.room (omega arith) in
    let at = begun front xs more taken.front_is endless.none (omega (arith, room)) in
    let (p, read, long) = long-first at.bytes more at.none (omega (arith, room, at.many)) in
    record {
      row = p.0;
      begins = taken-first text records front (xs ++ more) taken (p.0 ∷ []) (p.1, p.2, (p, at.alike ∙ read, refl, (refl, refl)));
      long = omega (arith, long, room, at.many);
    }

-- known bytes that stay as they were
pub kept-is : (b : Option (List ℕ)) (rest : List ℕ) → Keeps (Some rest) b → b ≡ Some rest
kept-is None rest kept = absurd kept
kept-is (Some xs) rest kept = ap Some kept

pub consumed-is : (c : Option (List ℕ)) (rest front : List ℕ) → Consumes (Some rest) c front → (more : List ℕ) × (c ≡ Some more) × (rest ≡ front ++ more)
consumed-is None rest front taken = absurd taken
consumed-is (Some more) rest front taken = (more, refl, taken)

-- what is left once a line was found and taken off
pub line-taken : (a b c : Option (List ℕ)) (ahead rest : List ℕ) (len : ℕ) → a ≡ Some rest → Keeps a b → IsLineAt len ahead → Consumes b c (take (len + 1) ahead) → (more : List ℕ) × (c ≡ Some more) × (rest ≡ take len ahead ++ (10 ∷ more))
line-taken a b c ahead rest len known kept is taken =
    let here : b ≡ Some rest = kept-is b rest (rw known at kept) in
    let (more, at, split) = consumed-is c rest (take (len + 1) ahead) (rw here at taken) in
    let line : take (len + 1) ahead ≡ take len ahead ++ (10 ∷ []) = take_more ahead len 0 is.within ∙ ap (λ (x : ℕ). take len ahead ++ (x ∷ [])) is.ended in
    (more, at, split ∙ ap (λ (t : List ℕ). t ++ more) line ∙ append_assoc (take len ahead) (10 ∷ []) more)

-- lines that stand in front end one
ends-at : (ahead : List ℕ) (place : ℕ) → place < length ahead → ends_line (slice_index ahead place) ≡ true → ends (take (suc place) ahead) ≡ true
ends-at [] place within is = absurd (omega (arith, within))
ends-at (x ∷ ahead) zero within is = is
ends-at (x ∷ []) (suc n) within is = absurd (omega (arith, within))
ends-at (x ∷ y ∷ ahead) (suc n) within is = ends-at (y ∷ ahead) n (omega (arith, within)) is

pub lines-end : (ahead : List ℕ) (len : ℕ) → AreLinesAt len ahead → ends (take len ahead) ≡ true
lines-end ahead len is =
    let next : suc (len - 1) ≡ len = omega (arith, is.some) in
    subst (λ (n : ℕ). ends (take n ahead) ≡ true) next (ends-at ahead (len - 1) (omega (arith, is.some, is.within)) is.ended)
