-- The records of a text behind which more is appended.
use Rattle.std.proofs.Common.{◌≡◌, ◌≢◌, ◌∙◌, ◌||◌, ℕ, Bool, true, false, List, [], ◌∷◌, ◌++◌, refl, sym, ap, subst}
use Rattle.std.specs.Prelude.{◌==◌, if◌then◌else◌}
use Rattle.csv.specs.Machine.{ends_at_end, field_after, fields_after, is_end, step}
use Rattle.csv.specs.Reading.{default_config}
use Rattle.csv.specs.declared.parser.Action.{Action}
use Rattle.csv.specs.declared.parser.Action.TheVariants as act
use Rattle.csv.specs.declared.parser.State.{State}
use Rattle.csv.specs.declared.parser.State.TheVariants as st
use Rattle.mrp_rows.specs.Bundle.{ends_line, without_line_ends}
use Rattle.mrp_rows.specs.Records.{records_in}
use Rattle.mrp_journal.specs.declared.table.Place.{Place}
use Rattle.mrp_journal.specs.declared.table.Place.TheVariants.{Bare, Behind, Between, Front, Quoted}
use Rattle.mrp_journal.specs.Table.{place_after, place_behind}
use Rattle.mrp_journal.proofs.Bodies.{lead-off, lead-on}

abbrev pub Step : Type 0
Step = State × Action

-- the place of a state of csv's machine
abbrev pub place_of : State → Place
place_of st.StartRecord = Between
place_of st.AfterCr = Between
place_of st.StartField = Front
place_of st.InField = Bare
place_of st.InQuoted = Quoted
place_of st.AfterQuote = Behind
place_of st.InEscape = Bare
place_of st.InComment = Bare

-- with csv's defaults there are neither escapes nor comments
abbrev pub IsUsual : State → Type 0
IsUsual st.StartRecord = Unit {0}
IsUsual st.AfterCr = Unit {0}
IsUsual st.StartField = Unit {0}
IsUsual st.InField = Unit {0}
IsUsual st.InQuoted = Unit {0}
IsUsual st.AfterQuote = Unit {0}
IsUsual st.InEscape = ⊥
IsUsual st.InComment = ⊥

-- between records nothing of one is there
abbrev pub HasNone : State → List (List ℕ) → List ℕ → Type 0
HasNone st.StartRecord cells cell = (cells ≡ []) × (cell ≡ [])
HasNone st.AfterCr cells cell = (cells ≡ []) × (cell ≡ [])
HasNone st.StartField cells cell = Unit {0}
HasNone st.InField cells cell = Unit {0}
HasNone st.InQuoted cells cell = Unit {0}
HasNone st.AfterQuote cells cell = Unit {0}
HasNone st.InEscape cells cell = Unit {0}
HasNone st.InComment cells cell = Unit {0}

pub none-there : (s : State) → HasNone s [] []
none-there st.StartRecord = (refl, refl)
none-there st.AfterCr = (refl, refl)
none-there st.StartField = tt
none-there st.InField = tt
none-there st.InQuoted = tt
none-there st.AfterQuote = tt
none-there st.InEscape = tt
none-there st.InComment = tt

-- the machine's steps, by whether a byte is a comma, a carriage return, a line feed or a quote
abbrev bare : Bool → Bool → Bool → Step
bare comma return feed = if comma then (st.StartField, act.EndField) else if return || feed then (if return then st.AfterCr else st.StartRecord, act.EndRecord) else (st.InField, act.Copy)

abbrev front : Bool → Bool → Bool → Bool → Step
front quote comma return feed = if quote then (st.InQuoted, act.Skip) else bare comma return feed

abbrev between : Bool → Bool → Bool → Bool → Step
between quote comma return feed = if return || feed then (st.StartRecord, act.Skip) else front quote comma return feed

-- what holds of a step: it is usual, it leads to this place, between records it leaves nothing of one, and only an end leads out of one
pub record IsStep (s : State) (x : Step) (at : Place) : Type 0 where
  pub usual : IsUsual x.0
  pub place : place_of x.0 ≡ at
  pub none : (c : ℕ) (cells : List (List ℕ)) (cell : List ℕ) → HasNone s cells cell → is_end x.1 ≡ false → HasNone x.0 (fields_after x.1 cells cell) (field_after x.1 c cell)
  pub inside : place_of s ≢ Between → is_end x.1 ≡ false → place_of x.0 ≢ Between

bare-is : (s : State) (comma return feed : Bool) → IsStep s (bare comma return feed) (if comma then Front else if feed || return then Between else Bare)
bare-is s true return feed = record { usual = tt; place = refl; none = λ c cells cell h e. tt; inside = λ h e q. absurd cc }
bare-is s false true true = record { usual = tt; place = refl; none = λ c cells cell h e. absurd cc; inside = λ h e q. absurd cc }
bare-is s false true false = record { usual = tt; place = refl; none = λ c cells cell h e. absurd cc; inside = λ h e q. absurd cc }
bare-is s false false true = record { usual = tt; place = refl; none = λ c cells cell h e. absurd cc; inside = λ h e q. absurd cc }
bare-is s false false false = record { usual = tt; place = refl; none = λ c cells cell h e. tt; inside = λ h e q. absurd cc }

front-is : (s : State) (quote comma return feed : Bool)
    → IsStep s (front quote comma return feed) (if quote then Quoted else if comma then Front else if feed || return then Between else Bare)
front-is s true comma return feed = record { usual = tt; place = refl; none = λ c cells cell h e. tt; inside = λ h e q. absurd cc }
front-is s false comma return feed = bare-is s comma return feed

between-is : (quote comma return feed : Bool)
    → IsStep st.StartRecord (between quote comma return feed) (if feed || return then Between else if quote then Quoted else if comma then Front else if feed || return then Between else Bare)
between-is quote comma true true = record { usual = tt; place = refl; none = λ c cells cell h e. h; inside = λ h e q. h refl }
between-is quote comma true false = record { usual = tt; place = refl; none = λ c cells cell h e. h; inside = λ h e q. h refl }
between-is quote comma false true = record { usual = tt; place = refl; none = λ c cells cell h e. h; inside = λ h e q. h refl }
between-is quote comma false false = front-is st.StartRecord quote comma false false

-- a carriage return is followed as the start of a record is
after_return : (c : ℕ) → step default_config st.AfterCr c ≡ step default_config st.StartRecord c
after_return c = by (c == 10) (c == 13) (front (c == 34) (c == 44) (c == 13) (c == 10))
  where
    by : (feed return : Bool) (x : Step)
        → (if feed then (st.StartRecord, act.Skip) else if return || feed then (st.StartRecord, act.Skip) else x) ≡ (if return || feed then (st.StartRecord, act.Skip) else x)
    by true true x = refl
    by true false x = refl
    by false return x = refl

quoted-is : (quote : Bool) → IsStep st.InQuoted (if quote then (st.AfterQuote, act.Skip) else (st.InQuoted, act.Copy)) (if quote then Behind else Quoted)
quoted-is true = record { usual = tt; place = refl; none = λ c cells cell h e. tt; inside = λ h e q. absurd cc }
quoted-is false = record { usual = tt; place = refl; none = λ c cells cell h e. tt; inside = λ h e q. absurd cc }

behind-is : (quote comma return feed : Bool)
    → IsStep st.AfterQuote (if quote then (st.InQuoted, act.Copy) else bare comma return feed) (if quote then Quoted else if comma then Front else if feed || return then Between else Bare)
behind-is true comma return feed = record { usual = tt; place = refl; none = λ c cells cell h e. tt; inside = λ h e q. absurd cc }
behind-is false comma return feed = bare-is st.AfterQuote comma return feed

pub step-is : (s : State) (c : ℕ) → IsUsual s → IsStep s (step default_config s c) (place_after (place_of s) c)
step-is st.StartRecord c u = between-is (c == 34) (c == 44) (c == 13) (c == 10)
step-is st.AfterCr c u =
    let is = between-is (c == 34) (c == 44) (c == 13) (c == 10) in
    let moved : IsStep st.StartRecord (step default_config st.AfterCr c) (place_after Between c) = subst (λ (x : Step). IsStep st.StartRecord x (place_after Between c)) (sym (after_return c)) is in
    record { usual = moved.usual; place = moved.place; none = λ d cells cell h e. moved.none d cells cell h e; inside = λ h e q. h refl }
step-is st.StartField c u = front-is st.StartField (c == 34) (c == 44) (c == 13) (c == 10)
step-is st.InField c u = bare-is st.InField (c == 44) (c == 13) (c == 10)
step-is st.InQuoted c u = quoted-is (c == 34)
step-is st.AfterQuote c u = behind-is (c == 34) (c == 44) (c == 13) (c == 10)
step-is st.InEscape c u = absurd u
step-is st.InComment c u = absurd u

-- the records from a byte on, by what its step does
abbrev pub stepped : Step → List (List ℕ) → List ℕ → ℕ → List ℕ → List (List (List ℕ))
stepped x cells cell c rest =
    if is_end x.1 then fields_after x.1 cells cell ∷ records_in x.0 [] [] rest
    else records_in x.0 (fields_after x.1 cells cell) (field_after x.1 c cell) rest

pub stepped-is : (s : State) (cells : List (List ℕ)) (cell : List ℕ) (c : ℕ) (rest : List ℕ) → records_in s cells cell (c ∷ rest) ≡ stepped (step default_config s c) cells cell c rest
unfolding records_in
stepped-is s cells cell c rest = refl

pub records-none : (s : State) (cells : List (List ℕ)) (cell : List ℕ) → records_in s cells cell [] ≡ (if ends_at_end s then (cells ++ (cell ∷ [])) ∷ [] else [])
unfolding records_in
records-none s cells cell = refl

-- between records it is all one whether a carriage return came last
same-between : (more : List ℕ) → records_in st.AfterCr [] [] more ≡ records_in st.StartRecord [] [] more
same-between [] = records-none st.AfterCr [] [] ∙ sym (records-none st.StartRecord [] [])
same-between (c ∷ rest) = stepped-is st.AfterCr [] [] c rest ∙ ap (λ (x : Step). stepped x [] [] c rest) (after_return c) ∙ sym (stepped-is st.StartRecord [] [] c rest)

pub place-none : (at : Place) → place_behind at [] ≡ at
unfolding place_behind
place-none at = refl

pub place-on : (at : Place) (c : ℕ) (rest : List ℕ) → place_behind at (c ∷ rest) ≡ place_behind (place_after at c) rest
unfolding place_behind
place-on at c rest = refl

-- at the end of a text, between two records
at-end : (s : State) (cells : List (List ℕ)) (cell more : List ℕ) → IsUsual s → HasNone s cells cell → place_of s ≡ Between
    → records_in s cells cell more ≡ records_in s cells cell [] ++ records_in st.StartRecord [] [] more
at-end st.StartRecord cells cell more u h e = rw (h.0, h.1, records-none st.StartRecord [] []) refl
at-end st.AfterCr cells cell more u h e = rw (h.0, h.1, records-none st.AfterCr [] []) (same-between more)
at-end st.StartField cells cell more u h e = absurd cc
at-end st.InField cells cell more u h e = absurd cc
at-end st.InQuoted cells cell more u h e = absurd cc
at-end st.AfterQuote cells cell more u h e = absurd cc
at-end st.InEscape cells cell more u h e = absurd u
at-end st.InComment cells cell more u h e = absurd u

-- behind a text that ends between two records its records are followed by those of what is appended
pub records-behind : (text : List ℕ) (s : State) (cells : List (List ℕ)) (cell more : List ℕ) → IsUsual s → HasNone s cells cell → place_behind (place_of s) text ≡ Between
    → records_in s cells cell (text ++ more) ≡ records_in s cells cell text ++ records_in st.StartRecord [] [] more
records-behind [] s cells cell more u h e = at-end s cells cell more u h (sym (place-none (place_of s)) ∙ e)
records-behind (c ∷ text) s cells cell more u h e =
    let is = step-is s c u in
    let on : place_behind (place_of (step default_config s c).0) text ≡ Between = ap (λ (at : Place). place_behind at text) is.place ∙ sym (place-on (place_of s) c text) ∙ e in
    stepped-is s cells cell c (text ++ more)
    ∙ by (step default_config s c) (is_end (step default_config s c).1) refl
    (records-behind text (step default_config s c).0 [] [] more is.usual (none-there (step default_config s c).0) on)
    (λ goes. records-behind text (step default_config s c).0 (fields_after (step default_config s c).1 cells cell) (field_after (step default_config s c).1 c cell) more is.usual (is.none c cells cell h goes) on)
    ∙ ap (λ (rs : List (List (List ℕ))). rs ++ records_in st.StartRecord [] [] more) (sym (stepped-is s cells cell c text))
  where
    by : (x : Step) (b : Bool) → is_end x.1 ≡ b
        → records_in x.0 [] [] (text ++ more) ≡ records_in x.0 [] [] text ++ records_in st.StartRecord [] [] more
        → (is_end x.1 ≡ false → records_in x.0 (fields_after x.1 cells cell) (field_after x.1 c cell) (text ++ more) ≡ records_in x.0 (fields_after x.1 cells cell) (field_after x.1 c cell) text ++ records_in st.StartRecord [] [] more)
        → stepped x cells cell c (text ++ more) ≡ stepped x cells cell c text ++ records_in st.StartRecord [] [] more
    by x true is ended goes = rw is (ap (λ (rs : List (List (List ℕ))). fields_after x.1 cells cell ∷ rs) ended)
    by x false is ended goes = rw is (goes is)

-- a line end between two records is passed over
skipped : (x : ℕ) (xs : List ℕ) → ends_line x ≡ true → records_in st.StartRecord [] [] (x ∷ xs) ≡ records_in st.StartRecord [] [] xs
skipped x xs e = stepped-is st.StartRecord [] [] x xs ∙ ap (λ (y : Step). stepped y [] [] x xs) (by (x == 34) (x == 44) (x == 13) (x == 10) e)
  where
    by : (quote comma return feed : Bool) → (feed || return) ≡ true → between quote comma return feed ≡ (st.StartRecord, act.Skip)
    by quote comma true true e = refl
    by quote comma true false e = refl
    by quote comma false true e = refl
    by quote comma false false e = absurd cc

-- a text of line ends has no record
pub none-left : (xs : List ℕ) → without_line_ends xs ≡ [] → records_in st.StartRecord [] [] xs ≡ []
none-left [] none = records-none st.StartRecord [] []
none-left (x ∷ xs) none = by (ends_line x) refl (none-left xs)
  where
    by : (b : Bool) → ends_line x ≡ b → (without_line_ends xs ≡ [] → records_in st.StartRecord [] [] xs ≡ []) → records_in st.StartRecord [] [] (x ∷ xs) ≡ []
    by true is more = skipped x xs is ∙ more (sym (lead-on x xs is) ∙ none)
    by false is more = absurd (let e : x ∷ xs ≡ [] = sym (lead-off x xs is) ∙ none in cc)

-- inside a record there is one
some-inside : (xs : List ℕ) (s : State) (cells : List (List ℕ)) (cell : List ℕ) → IsUsual s → place_of s ≢ Between → records_in s cells cell xs ≢ []
some-inside [] s cells cell u in_record = λ none. by s in_record (sym (records-none s cells cell) ∙ none)
  where
    by : (t : State) → place_of t ≢ Between → (if ends_at_end t then (cells ++ (cell ∷ [])) ∷ [] else []) ≡ [] → ⊥
    by st.StartRecord h e = h refl
    by st.AfterCr h e = h refl
    by st.StartField h e = cc
    by st.InField h e = cc
    by st.InQuoted h e = cc
    by st.AfterQuote h e = cc
    by st.InEscape h e = cc
    by st.InComment h e = cc
some-inside (c ∷ xs) s cells cell u in_record = λ none.
    let is = step-is s c u in
    by (step default_config s c) (is_end (step default_config s c).1) refl
    (λ goes. some-inside xs (step default_config s c).0 (fields_after (step default_config s c).1 cells cell) (field_after (step default_config s c).1 c cell) is.usual (is.inside in_record goes))
    (sym (stepped-is s cells cell c xs) ∙ none)
  where
    by : (x : Step) (b : Bool) → is_end x.1 ≡ b → (is_end x.1 ≡ false → records_in x.0 (fields_after x.1 cells cell) (field_after x.1 c cell) xs ≢ []) → stepped x cells cell c xs ≡ [] → ⊥
    by x true is goes e = let f = rw is at e in cc
    by x false is goes e = goes is (rw is at e)

-- any other text has one
pub some-left : (xs : List ℕ) → without_line_ends xs ≢ [] → records_in st.StartRecord [] [] xs ≢ []
some-left [] some = λ none. some refl
some-left (x ∷ xs) some = by (ends_line x) refl (some-left xs)
  where
    begun : (quote comma return feed : Bool) → (feed || return) ≡ false → stepped (between quote comma return feed) [] [] x xs ≢ []
    begun quote comma true true e = absurd cc
    begun quote comma true false e = absurd cc
    begun quote comma false true e = absurd cc
    begun true comma false false e = some-inside xs st.InQuoted [] [] tt (λ q. absurd cc)
    begun false true false false e = some-inside xs st.StartField ([] ∷ []) [] tt (λ q. absurd cc)
    begun false false false false e = some-inside xs st.InField [] (x ∷ []) tt (λ q. absurd cc)

    by : (b : Bool) → ends_line x ≡ b → (without_line_ends xs ≢ [] → records_in st.StartRecord [] [] xs ≢ []) → records_in st.StartRecord [] [] (x ∷ xs) ≢ []
    by true is more = λ none. more (λ e. some (lead-on x xs is ∙ e)) (sym (skipped x xs is) ∙ none)
    by false is more = λ none. begun (x == 34) (x == 44) (x == 13) (x == 10) is (sym (stepped-is st.StartRecord [] [] x xs) ∙ none)
