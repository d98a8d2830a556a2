-- What is known of a journal's file, call after call.
use Rattle.std.proofs.Common.{◌≡◌, ◌≤◌, ◌+◌, ℕ, zero, suc, List, [], ◌∷◌, ◌++◌, length, take, Option, Some, None, option_map, refl, sym, ap, ◌∙◌, subst, inl, inr, arith}
use Rattle.std.specs.Prelude.{IfSome}
use Rattle.std.proofs.Common.{length-append}
use Rattle.std.proofs.lemmas.List.{append-nil, take_at, take_all}
use Rattle.mrp_journal.specs.Held.{AppendsFront, Becomes, CanBeLeft, Held, IsFront, IsSettled, appended, cut_to, half_cut, settled, synced}
use Rattle.mrp_journal.specs.Journal.{BeginsSafely, CutsSafely, IsFound, KeepsSafely, begun, with_more}
use Rattle.mrp_journal.specs.Lines.{whole_lines}
use Rattle.mrp_journal.proofs.Fronts.{front-behind, front-more, front-self, front-then}
use Rattle.mrp_journal.proofs.WholeLines.{whole-front, whole-fronts}

-- what becomes of a file that is known, by what each call makes of it
pub becomes : (R : Held → Held → Type 0) (f : Held → Held) (old new : Option Held) → new ≡ option_map f old → IfSome old (λ h. R h (f h)) → Becomes R old new
becomes R f None new e r = tt
becomes R f (Some h) None e r = absurd (let n : None ≡ Some (f h) = e in cc)
becomes R f (Some h) (Some k) e r = let same : k ≡ f h = cc in rw same r

-- one relation follows from another
pub becomes-so : (R S : Held → Held → Type 0) (old new : Option Held) → ((h k : Held) → R h k → S h k) → Becomes R old new → Becomes S old new
becomes-so R S None new so r = tt
becomes-so R S (Some h) None so r = absurd r
becomes-so R S (Some h) (Some k) so r = so h k r

-- a text that is all durable is left as it is
left-settled : (bytes left : List ℕ) → CanBeLeft (settled bytes) left → (IsFront bytes left) × (IsFront left bytes)
left-settled bytes left can = (can.keeps, can.no_more)

-- the whole lines, by their length
take-whole : (bytes : List ℕ) → take (length (whole_lines bytes)) bytes ≡ whole_lines bytes
take-whole bytes =
    let f = whole-front bytes in
    ap (take (length (whole_lines bytes))) f.is ∙ take_at (whole_lines bytes) f.behind (length (whole_lines bytes)) refl

pub whole-length : (bytes : List ℕ) → length (whole_lines bytes) ≤ length bytes
whole-length bytes =
    let f = whole-front bytes in
    let e : length bytes ≡ length (whole_lines bytes) + length f.behind = ap length f.is ∙ length-append (whole_lines bytes) f.behind in
    omega arith

-- nothing is cut off of a text that is as long
all-whole : (bytes : List ℕ) → length bytes ≤ length (whole_lines bytes) → whole_lines bytes ≡ bytes
all-whole bytes long = sym (take-whole bytes) ∙ take_all (length (whole_lines bytes)) bytes long

-- a cut at the end of the whole lines is within the file
pub cut-within : (bytes : List ℕ) (old : Option Held) (at : ℕ) → IfSome old (IsFound bytes) → at ≡ length (whole_lines bytes) → IfSome old (λ h. at ≤ length h.bytes)
cut-within bytes None at found is = tt
cut-within bytes (Some h) at found is = rw (is, found.bytes_are) (whole-length bytes)

-- what a cut and a sync make of a file that is found
pub cut-is : (bytes : List ℕ) (old : Option Held) (at : ℕ) → IfSome old (IsFound bytes) → at ≡ length (whole_lines bytes) → option_map (cut_to at) old ≡ option_map (λ _. settled (whole_lines bytes)) old
cut-is bytes None at found is = refl
cut-is bytes (Some h) at found is = ap (λ (l : List ℕ). Some (settled l)) (ap (take at) found.bytes_are ∙ ap (λ (n : ℕ). take n bytes) is ∙ take-whole bytes)

pub sync-is : (bytes : List ℕ) (old : Option Held) → IfSome old (IsFound bytes) → length bytes ≤ length (whole_lines bytes) → option_map synced old ≡ option_map (λ _. settled (whole_lines bytes)) old
sync-is bytes None found long = refl
sync-is bytes (Some h) found long = ap (λ (l : List ℕ). Some (settled l)) (found.bytes_are ∙ sym (all-whole bytes long))

-- a front that is no longer than this is one of the first bytes
front-within : (xs ys : List ℕ) (n : ℕ) → IsFront xs ys → length xs ≤ n → IsFront xs (take n ys)
front-within [] ys n f within = record { behind = take n ys; is = refl }
front-within (x ∷ xs) [] n f within = absurd (let e = f.is in cc)
front-within (x ∷ xs) (y ∷ ys) (suc n) f within =
    let first : y ≡ x = (let e = f.is in cc) in
    let rest : ys ≡ xs ++ f.behind = (let e = f.is in cc) in
    let more = front-within xs ys n (record { behind = f.behind; is = rest }) (omega arith) in
    record { behind = more.behind; is = rw first (ap (λ l. x ∷ l) more.is) }
front-within (x ∷ xs) (y ∷ ys) zero f within = absurd (omega arith)

-- a front of what was found is one of these bytes
found-front : (bytes left : List ℕ) (h : Held) → IsFound bytes h → IsFront left h.bytes → IsFront left bytes
found-front bytes left h found f = subst (λ (l : List ℕ). IsFront left l) found.bytes_are f

-- a cut, and the same where it failed
pub cut-safe : (bytes : List ℕ) (old : Option Held) (at : ℕ) → IfSome old (IsFound bytes) → at ≡ length (whole_lines bytes) → IfSome old (λ h. CutsSafely bytes h (cut_to at h))
cut-safe bytes None at found is = tt
cut-safe bytes (Some h) at found is =
    let cut : take at h.bytes ≡ whole_lines bytes = ap (take at) found.bytes_are ∙ ap (λ (n : ℕ). take n bytes) is ∙ take-whole bytes in
    record {
      keeps = λ left can. front-then _ _ _ (whole-fronts h.durable bytes found.durable) (subst (λ (l : List ℕ). IsFront l left) cut can.keeps);
      no_more = λ left can. front-then _ _ _ (subst (λ (l : List ℕ). IsFront left l) cut can.no_more) (whole-front bytes);
    }

pub half-safe : (bytes : List ℕ) (old : Option Held) (at : ℕ) → IfSome old (IsFound bytes) → at ≡ length (whole_lines bytes) → IfSome old (λ h. CutsSafely bytes h (half_cut at h))
half-safe bytes None at found is = tt
half-safe bytes (Some h) at found is =
    let f = whole-fronts h.durable bytes found.durable in
    let e : length (whole_lines bytes) ≡ length (whole_lines h.durable) + length f.behind = ap length f.is ∙ length-append (whole_lines h.durable) f.behind in
    let within : length (whole_lines h.durable) ≤ at = omega arith in
    record {
      keeps = λ left can. front-then _ _ _ (front-within (whole_lines h.durable) h.durable at (whole-front h.durable) within) can.keeps;
      no_more = λ left can. found-front bytes left h found can.no_more;
    }

-- a sync, and the same where it failed
pub sync-safe : (bytes : List ℕ) (old : Option Held) → IfSome old (IsFound bytes) → IfSome old (λ h. CutsSafely bytes h (synced h))
sync-safe bytes None found = tt
sync-safe bytes (Some h) found =
    let all : IsFront h.durable h.bytes = subst (λ (l : List ℕ). IsFront h.durable l) (sym found.bytes_are) found.durable in
    record {
      keeps = λ left can. front-then _ _ _ (front-then _ _ _ (whole-front h.durable) all) can.keeps;
      no_more = λ left can. found-front bytes left h found can.no_more;
    }

pub same-safe : (bytes : List ℕ) (old : Option Held) → IfSome old (IsFound bytes) → IfSome old (λ h. CutsSafely bytes h h)
same-safe bytes None found = tt
same-safe bytes (Some h) found = record {
  keeps = λ left can. front-then _ _ _ (whole-front h.durable) can.keeps;
  no_more = λ left can. found-front bytes left h found can.no_more;
}

-- what is known stays known
pub map-same : (o : Option Held) → o ≡ option_map (λ h. h) o
map-same None = refl
map-same (Some h) = refl

-- a file that all calls so far made so is settled
pub settled-so : (bytes : List ℕ) (old new : Option Held) → new ≡ option_map (λ _. settled bytes) old → IfSome new IsSettled
settled-so bytes None None e = tt
settled-so bytes None (Some k) e = absurd (let n : Some k ≡ None = e in cc)
settled-so bytes (Some h) None e = tt
settled-so bytes (Some h) (Some k) e = let same : k ≡ settled bytes = cc in rw same refl

pub more-settled : (more : List ℕ) (old new : Option Held) → new ≡ option_map (with_more more) old → IfSome new IsSettled
more-settled more None None e = tt
more-settled more None (Some k) e = absurd (let n : Some k ≡ None = e in cc)
more-settled more (Some h) None e = tt
more-settled more (Some h) (Some k) e = let same : k ≡ settled (h.bytes ++ more) = cc in rw same refl

-- nothing more is kept
pub keep-none : (old : Option Held) (more : List ℕ) → IfSome old IsSettled → more ≡ [] → old ≡ option_map (with_more more) old
keep-none None more so e = refl
keep-none (Some h) more so e =
    let bytes : h.bytes ≡ h.bytes ++ more = sym (append-nil h.bytes) ∙ ap (λ (l : List ℕ). h.bytes ++ l) (sym e) in
    let is : h ≡ settled (h.bytes ++ more) = so ∙ ap settled bytes in
    ap (λ (k : Held). Some k) is

-- bytes are appended and synced
pub keep-is : (old mid new : Option Held) (more : List ℕ) → mid ≡ option_map (appended more) old → new ≡ option_map synced mid → new ≡ option_map (with_more more) old
keep-is old mid new more a s = s ∙ ap (option_map synced) a ∙ both old
  where
    both : (o : Option Held) → option_map synced (option_map (appended more) o) ≡ option_map (with_more more) o
    both None = refl
    both (Some h) = refl

-- what is durable of a settled file is all of it
durable-all : (h : Held) → IsSettled h → h.durable ≡ h.bytes
durable-all h so = ap (λ (k : Held). k.durable) so

appended-safe : (more front : List ℕ) (h : Held) → IsSettled h → IsFront front more → KeepsSafely more h (appended front h)
appended-safe more front h so f = record {
  keeps = λ left can. subst (λ (l : List ℕ). IsFront l left) (durable-all h so) can.keeps;
  no_more = λ left can. front-then _ _ _ can.no_more (front-behind h.bytes front more f);
}

-- a front was appended
pub front-safe : (old new : Option Held) (more : List ℕ) → IfSome old IsSettled → AppendsFront more old new → Becomes (KeepsSafely more) old new
front-safe None new more so f = tt
front-safe (Some h) None more so f = absurd (let n : None ≡ Some (appended f.0 h) = f.2 in cc)
front-safe (Some h) (Some k) more so f =
    let e : Some k ≡ Some (appended f.0 h) = f.2 in
    let same : k ≡ appended f.0 h = cc in
    rw same (appended-safe more f.0 h so f.1)

-- all was appended, and not synced
pub unsynced-safe : (old mid new : Option Held) (more : List ℕ) → IfSome old IsSettled → mid ≡ option_map (appended more) old → new ≡ mid → Becomes (KeepsSafely more) old new
unsynced-safe old mid new more so a s = becomes (KeepsSafely more) (appended more) old new (s ∙ a) (by old so)
  where
    by : (o : Option Held) → IfSome o IsSettled → IfSome o (λ h. KeepsSafely more h (appended more h))
    by None so = tt
    by (Some h) so = appended-safe more more h so (front-self more)

-- all was kept
pub kept-safe : (old new : Option Held) (more : List ℕ) → new ≡ option_map (with_more more) old → Becomes (KeepsSafely more) old new
kept-safe old new more e = becomes (KeepsSafely more) (with_more more) old new e (by old)
  where
    by : (o : Option Held) → IfSome o (λ h. KeepsSafely more h (with_more more h))
    by None = tt
    by (Some h) = record {
      keeps = λ left can. front-then _ _ _ (front-more h.bytes more) can.keeps;
      no_more = λ left can. can.no_more;
    }

-- a cut is safe while a journal begins
pub cuts-begin : (bytes head : List ℕ) (h k : Held) → CutsSafely bytes h k → BeginsSafely bytes head h k
cuts-begin bytes head h k safe = record {
  keeps = safe.keeps;
  no_more = λ left can. inl (safe.no_more left can);
}

-- the whole lines were made durable, and then a head is kept behind them
pub begin-is : (bytes head : List ℕ) (old mid new : Option Held) → mid ≡ option_map (λ _. settled (whole_lines bytes)) old → new ≡ option_map (with_more head) mid → new ≡ option_map (λ _. settled (begun bytes head)) old
begin-is bytes head old mid new m n = n ∙ ap (option_map (with_more head)) m ∙ both old
  where
    both : (o : Option Held) → option_map (with_more head) (option_map (λ _. settled (whole_lines bytes)) o) ≡ option_map (λ _. settled (begun bytes head)) o
    both None = refl
    both (Some h) = refl

pub begin-safe : (bytes head : List ℕ) (old mid new : Option Held) → IfSome old (IsFound bytes) → mid ≡ option_map (λ _. settled (whole_lines bytes)) old → Becomes (KeepsSafely head) mid new → Becomes (BeginsSafely bytes head) old new
begin-safe bytes head None mid new found m r = tt
begin-safe bytes head (Some h) None new found m r = absurd (let n : None ≡ Some (settled (whole_lines bytes)) = m in cc)
begin-safe bytes head (Some h) (Some j) None found m r = absurd r
begin-safe bytes head (Some h) (Some j) (Some k) found m r =
    let same : j ≡ settled (whole_lines bytes) = cc in
    let is : j.bytes ≡ whole_lines bytes = ap (λ (i : Held). i.bytes) same in
    record {
      keeps = λ left can. front-then _ _ _ (whole-fronts h.durable bytes found.durable) (subst (λ (l : List ℕ). IsFront l left) is (r.keeps left can));
      no_more = λ left can. inr (subst (λ (l : List ℕ). IsFront left (l ++ head)) is (r.no_more left can));
    }
