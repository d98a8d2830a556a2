-- The script among the tables of a folder.
use Rattle.std.proofs.Common.{◌≡◌, ◌≢◌, ◌∙◌, ◌≤◌, ◌<◌, ℕ, List, [], ◌∷◌, ◌++◌, Option, Some, None, inl, inr, ap, ap₂, length, map, refl, subst, sym}
use Rattle.std.proofs.lemmas.List.{append-nil}
use Rattle.std.specs.List.{All, filter_map}
use Rattle.std.proofs.lemmas.List.Elements.{All-cons, All-head, All-nil, All-tail}
use Rattle.mrp_rows.specs.declared.fault.Table.{Table}
use Rattle.mrp_rows.specs.declared.fault.Table.TheVariants as t
use Rattle.mrp_rows.specs.declared.streams.TheConstants.{GREATEST_BUNDLE}
use Rattle.mrp_rows.specs.Joined.{Part}
use Rattle.mrp_words.specs.Folder.{AreParts, Kept, Known, part_in}
use Rattle.mrp_open.specs.Start.{EndsWithout, HasFound, IsFoundOf, IsSplit, IsTooLong, TakesScript}
use Rattle.mrp_open.specs.declared.finding.Found.{Found}

abbrev NoScript : Part → Type 0
NoScript part = part.0 ≢ t.Script

-- the last of a list
all-last : {X : Type 0} (P : X → Type 0) (xs : List X) (x : X) → All P (xs ++ x ∷ []) → P x
all-last P [] x all = All-head P x [] all
all-last P (y ∷ xs) x all = all-last P xs x (All-tail P y (xs ++ x ∷ []) all)

no-last : {X : Type 0} (ys : List X) (y : X) → [] ≡ ys ++ y ∷ [] → ⊥
no-last [] y e = cc
no-last (z ∷ ys) y e = cc

last-same : {X : Type 0} (xs ys : List X) (x y : X) → xs ++ x ∷ [] ≡ ys ++ y ∷ [] → (xs ≡ ys) × (x ≡ y)
last-same [] [] x y e = (refl, cc)
last-same [] (b ∷ ys) x y e =
    let rest : [] ≡ ys ++ y ∷ [] = cc in
    absurd (no-last ys y rest)
last-same (a ∷ xs) [] x y e =
    let rest : xs ++ x ∷ [] ≡ [] = cc in
    absurd (no-last xs x (sym rest))
last-same {X} (a ∷ xs) (b ∷ ys) x y e =
    let first : a ≡ b = cc in
    let rest : xs ++ x ∷ [] ≡ ys ++ y ∷ [] = cc in
    let both = last-same xs ys x y rest in
    (ap₂ (λ (u : X) (us : List X). u ∷ us) first both.0, both.1)

-- the part of the script's file
abbrev script_part : Option (List ℕ) → List Part
script_part None = []
script_part (Some bytes) = (t.Script, bytes) ∷ []

-- parts without the script, and then the script's
record Parted (parts : List Part) : Type 0 where
  front : List Part
  last : Option (List ℕ)
  no_script : All NoScript front
  is : parts ≡ front ++ script_part last

parted-last : (table : Table) (file : Option (List ℕ)) → table ≡ t.Script → Parted (filter_map part_in ((table, file) ∷ []))
parted-last table None e = record { front = []; last = None; no_script = All-nil NoScript; is = refl }
parted-last table (Some bytes) e =
    record { front = []; last = Some bytes; no_script = All-nil NoScript; is = ap (λ (x : Table). (x, bytes) ∷ []) e }

parted-more : (table : Table) (file : Option (List ℕ)) (rest : List Kept) → table ≢ t.Script → Parted (filter_map part_in rest) → Parted (filter_map part_in ((table, file) ∷ rest))
parted-more table None rest other p = record { front = p.front; last = p.last; no_script = p.no_script; is = p.is }
parted-more table (Some bytes) rest other p = record {
  front = (table, bytes) ∷ p.front;
  last = p.last;
  no_script = All-cons NoScript (table, bytes) p.front other p.no_script;
  is = ap (λ (ps : List Part). (table, bytes) ∷ ps) p.is;
}

parted : (tables : List Table) → All (λ (table : Table). table ≢ t.Script) tables → (files : List Kept) → map (λ (file : Kept). file.0) files ≡ tables ++ t.Script ∷ [] → Parted (filter_map part_in files)
parted [] others [] e = absurd cc
parted [] others (f ∷ []) e =
    let is : f.0 ≡ t.Script = cc in
    parted-last f.0 f.1 is
parted [] others (f ∷ g ∷ rest) e = absurd cc
parted (table ∷ tables) others [] e = absurd cc
parted (table ∷ tables) others (f ∷ rest) e =
    let is : f.0 ≡ table = cc in
    let more : map (λ (file : Kept). file.0) rest ≡ tables ++ t.Script ∷ [] = cc in
    parted-more f.0 f.1 rest (λ (script : f.0 ≡ t.Script). All-head (λ (x : Table). x ≢ t.Script) table tables others (sym is ∙ script))
    (parted tables (All-tail (λ (x : Table). x ≢ t.Script) table tables others) rest more)

abbrev eight : List Table
eight = t.Calendar ∷ t.Items ∷ t.Centres ∷ t.Stock ∷ t.Receipts ∷ t.Bills ∷ t.Routings ∷ t.Master ∷ []

no-scripts : All (λ (table : Table). table ≢ t.Script) eight
no-scripts =
    let Other : Table → Type 0 = λ table. table ≢ t.Script in
    All-cons Other t.Calendar (t.Items ∷ t.Centres ∷ t.Stock ∷ t.Receipts ∷ t.Bills ∷ t.Routings ∷ t.Master ∷ []) (λ e. cc)
    (All-cons Other t.Items (t.Centres ∷ t.Stock ∷ t.Receipts ∷ t.Bills ∷ t.Routings ∷ t.Master ∷ []) (λ e. cc)
    (All-cons Other t.Centres (t.Stock ∷ t.Receipts ∷ t.Bills ∷ t.Routings ∷ t.Master ∷ []) (λ e. cc)
    (All-cons Other t.Stock (t.Receipts ∷ t.Bills ∷ t.Routings ∷ t.Master ∷ []) (λ e. cc)
    (All-cons Other t.Receipts (t.Bills ∷ t.Routings ∷ t.Master ∷ []) (λ e. cc)
    (All-cons Other t.Bills (t.Routings ∷ t.Master ∷ []) (λ e. cc)
    (All-cons Other t.Routings (t.Master ∷ []) (λ e. cc)
    (All-cons Other t.Master [] (λ e. cc) (All-nil Other))))))))

folder-parted : (known : Known) (folder : List ℕ) (parts : List Part) → AreParts known folder parts → Parted parts
folder-parted known folder parts are = subst Parted (sym are.is) (parted eight no-scripts are.files are.are.tables_are)

-- the script was taken from the end
split-taken : (old new : List Part) (script : List ℕ) (front : List Part) (last : Option (List ℕ)) → All NoScript front → old ≡ front ++ script_part last → old ≡ new ++ (t.Script, script) ∷ [] → IsSplit old new script
split-taken old new script front None without is taken =
    let same : front ≡ new ++ (t.Script, script) ∷ [] = sym (append-nil front) ∙ sym is ∙ taken in
    absurd (all-last NoScript new (t.Script, script) (subst (All NoScript) same without) refl)
split-taken old new script front (Some bytes) without is taken =
    let same = last-same front new (t.Script, bytes) (t.Script, script) (sym is ∙ taken) in
    record { no_script = subst (All NoScript) same.0 without; is = inl taken }

-- there is none
split-none : (old new : List Part) (script : List ℕ) (front : List Part) (last : Option (List ℕ)) → All NoScript front → old ≡ front ++ script_part last → new ≡ old → script ≡ [] → EndsWithout old → IsSplit old new script
split-none old new script front None without is same empty ends =
    record { no_script = subst (All NoScript) (sym (append-nil front) ∙ sym is ∙ sym same) without; is = inr (sym same, empty) }
split-none old new script front (Some bytes) without is same empty (inl none) = absurd (no-last front (t.Script, bytes) (sym none ∙ is))
split-none old new script front (Some bytes) without is same empty (inr (f, part, behind, other)) =
    let both = last-same front f (t.Script, bytes) part (sym is ∙ behind) in
    absurd (other (ap (λ (p : Part). p.0) (sym both.1)))

split-of : (old new : List Part) (script : List ℕ) → Parted old → TakesScript old new script → IsSplit old new script
split-of old new script p (inl taken) = split-taken old new script p.front p.last p.no_script p.is taken
split-of old new script p (inr (same, empty, ends)) = split-none old new script p.front p.last p.no_script p.is same empty ends

-- the tables beside the script, and its bytes
pub folder-split : (known : Known) (folder : List ℕ) (parts others : List Part) (script : List ℕ) → AreParts known folder parts → TakesScript parts others script → IsSplit parts others script
folder-split known folder parts others script are taken = split-of parts others script (folder-parted known folder parts are) taken

-- what a folder has
pub has-found : (known : Known) (folder : List ℕ) (parts others : List Part) (script : List ℕ) (found : Found) (bundle : List ℕ)
    → AreParts known folder parts → TakesScript parts others script → IsFoundOf others script found bundle → length bundle ≤ GREATEST_BUNDLE → HasFound known folder found bundle
has-found known folder parts others script found bundle are taken of fits =
    record { parts = parts; others = others; script = script; are = are; split = folder-split known folder parts others script are taken; of = of; fits = fits }

-- its bundle would be too long
pub too-long : (known : Known) (folder : List ℕ) (parts others : List Part) (script : List ℕ) (found : Found) (bundle : List ℕ)
    → AreParts known folder parts → TakesScript parts others script → IsFoundOf others script found bundle → GREATEST_BUNDLE < length bundle → IsTooLong known folder
too-long known folder parts others script found bundle are taken of over =
    inr (parts, others, script, are, folder-split known folder parts others script are taken, subst (λ (b : List ℕ). GREATEST_BUNDLE < length b) of.bundle_is over)
