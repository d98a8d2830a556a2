-- What csv reads of a text of whole lines, and of a longer text that begins with it.
use Rattle.std.proofs.Common.{◌≡◌, ◌∙◌, ◌⊎◌, ℕ, Bool, true, false, List, [], ◌∷◌, ◌++◌, Some, None, refl, sym, ap, subst, inl, inr}
use Rattle.csv.specs.Machine.{Read, field_after, fields_after, next_record, step}
use Rattle.csv.specs.Reading.{AreRecords, Reached, default_config}
use Rattle.csv.specs.declared.parser.State.{State}
use Rattle.csv.specs.declared.parser.State.TheVariants as st
use Rattle.mrp_rows.specs.Bundle.{ends_line}
use Rattle.mrp_lines.specs.Lines.{ends, have_ends}
use Rattle.mrp_lines.specs.Taken.{AreAlike}
use Rattle.mrp_lines.proofs.Machine.{Ends, GoesOn, end-copied, ended, has-end, have-stay, is_open, is_start, open-goes, open-some, so_far, start-alike, start-begins, start-none, start-skips, went-on}

-- a text whose last byte ends a line, or none
abbrev pub AreWhole : List ℕ → Type 0
AreWhole xs = (xs ≡ []) ⊎ (ends xs ≡ true)

-- a record is read alike with more behind the text
pub record Stays (s : State) (fields : List (List ℕ)) (field xs more : List ℕ) (p : Read) : Type 0 where
  pub same : next_record default_config s fields field (xs ++ more) ≡ Some (p.0, p.1, p.2 ++ more)
  pub start : is_start p.1 ≡ true
  pub whole : AreWhole p.2

-- or it has the end of a line in a cell, and so has the one that is read with more behind the text
pub record Breaks (s : State) (fields : List (List ℕ)) (field xs more : List ℕ) (p : Read) : Type 0 where
  pub here : have_ends p.0 ≡ true
  pub other : Read
  pub read : next_record default_config s fields field (xs ++ more) ≡ Some other
  pub there : have_ends other.0 ≡ true

abbrev Either : State → List (List ℕ) → List ℕ → List ℕ → List ℕ → Read → Type 0
Either s fields field xs more p = Stays s fields field xs more p ⊎ Breaks s fields field xs more p

some-is : (a b : Read) → Some a ≡ Some b → a ≡ b
some-is a b h = cc

whole-tail : (c : ℕ) (xs : List ℕ) → ends (c ∷ xs) ≡ true → AreWhole xs
whole-tail c [] e = inl refl
whole-tail c (d ∷ xs) e = inr e

-- a byte ends the record
stays-here : (c : ℕ) (xs : List ℕ) (s : State) (fields : List (List ℕ)) (field more : List ℕ) (p : Read) → ends (c ∷ xs) ≡ true → Ends (step default_config s c)
    → next_record default_config s fields field (c ∷ xs) ≡ Some p → Stays s fields field (c ∷ xs) more p
stays-here c xs s fields field more p e last is =
    let made : Read = (fields_after (step default_config s c).1 fields field, (step default_config s c).0, xs) in
    let q : made ≡ p = some-is made p (sym (ended s fields field c xs last.end) ∙ is) in
    rw (← q) (record { same = ended s fields field c (xs ++ more) last.end; start = last.start; whole = whole-tail c xs e })

-- the last byte is in a cell
breaks-last : (c : ℕ) (s : State) (fields : List (List ℕ)) (field more : List ℕ) (p : Read) → ends_line c ≡ true → is_open s ≡ true → GoesOn (step default_config s c)
    → next_record default_config s fields field (c ∷ []) ≡ Some p → Breaks s fields field (c ∷ []) more p
breaks-last c s fields field more p e o goes is =
    let copied = end-copied s c o e goes.end in
    let state = (step default_config s c).0 in
    let have : have_ends (so_far (fields_after (step default_config s c).1 fields field) (field_after (step default_config s c).1 c field)) ≡ true = rw copied (has-end fields field c e) in
    let (other, read) = open-some more state (fields_after (step default_config s c).1 fields field) (field_after (step default_config s c).1 c field) goes.within in
    record {
      here = have-stay [] state (fields_after (step default_config s c).1 fields field) (field_after (step default_config s c).1 c field) p goes.within have (sym (went-on s fields field c [] goes.end) ∙ is);
      other = other;
      read = went-on s fields field c more goes.end ∙ read;
      there = have-stay more state (fields_after (step default_config s c).1 fields field) (field_after (step default_config s c).1 c field) other goes.within have read;
    }

pub open-record : (xs : List ℕ) (s : State) (fields : List (List ℕ)) (field more : List ℕ) (p : Read) → ends xs ≡ true → is_open s ≡ true → next_record default_config s fields field xs ≡ Some p
    → Either s fields field xs more p
open-record [] s fields field more p e o is = absurd cc
open-record (c ∷ []) s fields field more p e o is = by (open-goes s c o)
  where
    by : Ends (step default_config s c) ⊎ GoesOn (step default_config s c) → Either s fields field (c ∷ []) more p
    by (inl last) = inl (stays-here c [] s fields field more p e last is)
    by (inr goes) = inr (breaks-last c s fields field more p e o goes is)
open-record (c ∷ d ∷ xs) s fields field more p e o is = by (open-record (d ∷ xs) (step default_config s c).0 (fields_after (step default_config s c).1 fields field) (field_after (step default_config s c).1 c field) more p e) (open-goes s c o)
  where
    lift : GoesOn (step default_config s c) → Either (step default_config s c).0 (fields_after (step default_config s c).1 fields field) (field_after (step default_config s c).1 c field) (d ∷ xs) more p → Either s fields field (c ∷ d ∷ xs) more p
    lift goes (inl stays) = inl (record { same = went-on s fields field c (d ∷ (xs ++ more)) goes.end ∙ stays.same; start = stays.start; whole = stays.whole })
    lift goes (inr breaks) = inr (record { here = breaks.here; other = breaks.other; read = went-on s fields field c (d ∷ (xs ++ more)) goes.end ∙ breaks.read; there = breaks.there })

    by : (is_open (step default_config s c).0 ≡ true → next_record default_config (step default_config s c).0 (fields_after (step default_config s c).1 fields field) (field_after (step default_config s c).1 c field) (d ∷ xs) ≡ Some p → Either (step default_config s c).0 (fields_after (step default_config s c).1 fields field) (field_after (step default_config s c).1 c field) (d ∷ xs) more p)
        → Ends (step default_config s c) ⊎ GoesOn (step default_config s c) → Either s fields field (c ∷ d ∷ xs) more p
    by later (inl last) = inl (stays-here c (d ∷ xs) s fields field more p e last is)
    by later (inr goes) = lift goes (later goes.within (sym (went-on s fields field c (d ∷ xs) goes.end) ∙ is))

-- a record from its start, behind the ends of lines
pub first-record : (xs : List ℕ) (s : State) (more : List ℕ) (p : Read) → ends xs ≡ true → is_start s ≡ true → next_record default_config s [] [] xs ≡ Some p → Either s [] [] xs more p
first-record [] s more p e o is = absurd cc
first-record (c ∷ xs) s more p e o is = by (first-record xs st.StartRecord more p) (whole-tail c xs e) (ends_line c) refl
  where
    skipped : ends_line c ≡ true → Either st.StartRecord [] [] xs more p → Either s [] [] (c ∷ xs) more p
    skipped ending (inl stays) = inl (record { same = start-skips s c (xs ++ more) o ending ∙ stays.same; start = stays.start; whole = stays.whole })
    skipped ending (inr breaks) = inr (record { here = breaks.here; other = breaks.other; read = start-skips s c (xs ++ more) o ending ∙ breaks.read; there = breaks.there })

    begun : ends_line c ≡ false → Either st.StartField [] [] (c ∷ xs) more p → Either s [] [] (c ∷ xs) more p
    begun other (inl stays) = inl (record { same = start-begins s c (xs ++ more) o other ∙ stays.same; start = stays.start; whole = stays.whole })
    begun other (inr breaks) = inr (record { here = breaks.here; other = breaks.other; read = start-begins s c (xs ++ more) o other ∙ breaks.read; there = breaks.there })

    none : xs ≡ [] → next_record default_config st.StartRecord [] [] xs ≡ Some p → ⊥
    none q h =
        let never = sym (start-none st.StartRecord refl) ∙ subst (λ (t : List ℕ). next_record default_config st.StartRecord [] [] t ≡ Some p) q h in
        absurd cc

    by : (ends xs ≡ true → is_start st.StartRecord ≡ true → next_record default_config st.StartRecord [] [] xs ≡ Some p → Either st.StartRecord [] [] xs more p) → AreWhole xs → (ending : Bool) → ends_line c ≡ ending → Either s [] [] (c ∷ xs) more p
    by later (inl q) true ending = absurd (none q (sym (start-skips s c xs o ending) ∙ is))
    by later (inr rest) true ending = skipped ending (later rest refl (sym (start-skips s c xs o ending) ∙ is))
    by later rest false other = begun other (open-record (c ∷ xs) st.StartField [] [] more p e refl (sym (start-begins s c xs o other) ∙ is))

-- behind the last record there are only the ends of lines
pub none-more : (xs : List ℕ) (s : State) (more : List ℕ) → is_start s ≡ true → next_record default_config s [] [] xs ≡ None → AreAlike s (xs ++ more) st.StartRecord more
none-more [] s more o is = start-alike s more o
none-more (c ∷ xs) s more o is = by (none-more xs st.StartRecord more refl) (ends_line c) refl
  where
    never : ends_line c ≡ false → ⊥
    never other =
        let (p, read) = open-some (c ∷ xs) st.StartField [] [] refl in
        let both = sym is ∙ start-begins s c xs o other ∙ read in
        absurd cc

    by : (next_record default_config st.StartRecord [] [] xs ≡ None → AreAlike st.StartRecord (xs ++ more) st.StartRecord more) → (ending : Bool) → ends_line c ≡ ending → AreAlike s (c ∷ (xs ++ more)) st.StartRecord more
    by later true ending = start-skips s c (xs ++ more) o ending ∙ later (sym (start-skips s c xs o ending) ∙ is)
    by later false other = absurd (never other)

-- records that are read alike with more behind the text
pub record AllStay (s : State) (xs more : List ℕ) (rows : List (List (List ℕ))) (t : State) (left : List ℕ) : Type 0 where
  pub reached : Reached default_config s (xs ++ more) rows t (left ++ more)
  pub start : is_start t ≡ true
  pub whole : AreWhole left

-- or one of them has the end of a line in a cell, and another such one is read in its place
pub record OneBreaks (s : State) (xs more : List ℕ) (rows : List (List (List ℕ))) : Type 0 where
  pub before : List (List (List ℕ))
  pub broken : List (List ℕ)
  pub behind : List (List (List ℕ))
  pub here : rows ≡ before ++ (broken ∷ behind)
  pub breaks : have_ends broken ≡ true
  pub other : List (List ℕ)
  pub state : State
  pub left : List ℕ
  pub reached : Reached default_config s (xs ++ more) (before ++ (other ∷ [])) state left
  pub there : have_ends other ≡ true

pub chunk-rows : (rows : List (List (List ℕ))) (s t : State) (xs left more : List ℕ) → is_start s ≡ true → AreWhole xs → Reached default_config s xs rows t left → AllStay s xs more rows t left ⊎ OneBreaks s xs more rows
unfolding Reached
chunk-rows [] s t xs left more o whole reached = inl (record {
  reached = (reached.0, ap (λ (l : List ℕ). l ++ more) reached.1);
  start = subst (λ (q : State). is_start q ≡ true) reached.0 o;
  whole = subst AreWhole reached.1 whole;
})
chunk-rows (r ∷ rows) s t xs left more o (inl none) (p, next, is, reached) =
    let never = sym (start-none s o) ∙ subst (λ (l : List ℕ). next_record default_config s [] [] l ≡ Some p) none next in
    absurd cc
chunk-rows (r ∷ rows) s t xs left more o (inr e) (p, next, is, reached) = by (chunk-rows rows p.1 t p.2 left more) (first-record xs s more p e o next)
  where
    on : Stays s [] [] xs more p → AllStay p.1 p.2 more rows t left ⊎ OneBreaks p.1 p.2 more rows → AllStay s xs more (r ∷ rows) t left ⊎ OneBreaks s xs more (r ∷ rows)
    on stays (inl all) = inl (record { reached = ((p.0, p.1, p.2 ++ more), stays.same, is, all.reached); start = all.start; whole = all.whole })
    on stays (inr one) = inr (record {
      before = r ∷ one.before;
      broken = one.broken;
      behind = one.behind;
      here = ap (λ (l : List (List (List ℕ))). r ∷ l) one.here;
      breaks = one.breaks;
      other = one.other;
      state = one.state;
      left = one.left;
      reached = ((p.0, p.1, p.2 ++ more), stays.same, is, one.reached);
      there = one.there;
    })

    by : (is_start p.1 ≡ true → AreWhole p.2 → Reached default_config p.1 p.2 rows t left → AllStay p.1 p.2 more rows t left ⊎ OneBreaks p.1 p.2 more rows) → Either s [] [] xs more p → AllStay s xs more (r ∷ rows) t left ⊎ OneBreaks s xs more (r ∷ rows)
    by later (inl stays) = on stays (later stays.start stays.whole reached)
    by later (inr breaks) = inr (record {
      before = [];
      broken = r;
      behind = rows;
      here = refl;
      breaks = ap have_ends is ∙ breaks.here;
      other = breaks.other.0;
      state = breaks.other.1;
      left = breaks.other.2;
      reached = (breaks.other, breaks.read, refl, (refl, refl));
      there = breaks.there;
    })

-- where two texts are read alike, so are their records
pub alike-records : (s t : State) (xs ys : List ℕ) (rows : List (List (List ℕ))) → AreAlike s xs t ys → AreRecords default_config t ys rows → AreRecords default_config s xs rows
unfolding Reached
alike-records s t xs ys [] alike (u, zs, reached, none) = (s, xs, (refl, refl), alike ∙ rw (reached.0, reached.1) none)
alike-records s t xs ys (r ∷ rows) alike (u, zs, (p, next, is, more), none) = (u, zs, (p, alike ∙ next, is, more), none)

-- these records are read, and then as in another text
pub record ReadsAlike (s : State) (xs : List ℕ) (rows : List (List (List ℕ))) (u : State) (zs : List ℕ) : Type 0 where
  pub state : State
  pub left : List ℕ
  pub reached : Reached default_config s xs rows state left
  pub alike : AreAlike state left u zs

pub alike-reached : (s t : State) (xs ys : List ℕ) (rows : List (List (List ℕ))) (u : State) (zs : List ℕ) → AreAlike s xs t ys → Reached default_config t ys rows u zs → ReadsAlike s xs rows u zs
unfolding Reached
alike-reached s t xs ys [] u zs alike reached = record { state = s; left = xs; reached = (refl, refl); alike = alike ∙ rw (reached.0, reached.1) refl }
alike-reached s t xs ys (r ∷ rows) u zs alike (p, next, is, more) = record { state = u; left = zs; reached = (p, alike ∙ next, is, more); alike = refl }
