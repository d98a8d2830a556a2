-- What stands between two places of a buffer.
use Rattle.std.proofs.Common.{◌≡◌, ◌∙◌, ◌+◌, ◌-◌, ◌≤◌, ℕ, Bool, true, false, List, ◌++◌, Option, None, Some, length, take, drop, sym, ap, subst, arith, append_assoc, drop-drop, length-drop, length-take, take-append-drop}
use Rattle.std.specs.Prelude.{slice_range}
use Rattle.std.specs.Io.KnownBytes.{Consumes, Keeps, prepend_known}
use Rattle.std.proofs.Math.Seq.{take-add}
use Rattle.std.proofs.lemmas.List.{drop-take}
use Rattle.std.proofs.lemmas.List.Elements.{All-drop}
use Rattle.mrp_lines.specs.declared.window.TheConstants.{ROOM}
use Rattle.mrp_lines.specs.Lines.{ArePlain, IsKnown, IsWithin, is_special}

module _ (xs : List ℕ) (start end : ℕ) where
  range-length : start ≤ end → end ≤ length xs → length (slice_range xs start end) ≡ end - start
  range-length ordered inside = omega (arith, length-take (end - start) (drop start xs), length-drop start xs)

  pub range-drop : (n : ℕ) → start + n ≤ end → slice_range xs (start + n) end ≡ drop n (slice_range xs start end)
  range-drop n le =
      let whole : n + (end - (start + n)) ≡ end - start = omega arith in
      ap (take (end - (start + n))) (sym (drop-drop n start xs)) ∙ sym (drop-take n (end - (start + n)) (drop start xs)) ∙ ap (λ k. drop n (take k (drop start xs))) whole

  pub range-more : (n : ℕ) → start ≤ end → slice_range xs start (end + n) ≡ slice_range xs start end ++ take n (drop end xs)
  range-more n ordered =
      let long : end + n - start ≡ (end - start) + n = omega arith in
      let place : start + (end - start) ≡ end = omega arith in
      ap (λ k. take k (drop start xs)) long ∙ take-add (end - start) n (drop start xs) ∙ ap (λ l. take (end - start) (drop start xs) ++ take n l) (drop-drop (end - start) start xs ∙ ap (λ k. drop k xs) place)

-- without its first bytes
pub plain-after : (start end n : ℕ) (plain : Bool) (buffer : List ℕ) → IsWithin start end plain buffer → start + n ≤ end → plain ≡ true → ArePlain (slice_range buffer (start + n) end)
plain-after start end n plain buffer is le known =
    subst ArePlain (sym (range-drop buffer start end n le)) (All-drop (λ byte. is_special byte ≡ false) n (slice_range buffer start end) (is.known.are known))

-- a place is after no more bytes than there are
pub advance-le : (start end n : ℕ) (plain : Bool) (buffer : List ℕ) → IsWithin start end plain buffer → n ≤ length (slice_range buffer start end) → start + n ≤ end
advance-le start end n plain buffer is few = let long = range-length buffer start end is.ordered is.inside in omega (arith, is.ordered)

-- Bytes that were moved to the start of a buffer, behind which others may have been read.
module _ (start end size : ℕ) (plain : Bool) (old moved new : List ℕ) (is : IsWithin start end plain old) (sized : size ≡ end - start) (long : length moved ≡ length old)
    (same : take size moved ≡ slice_range old start end) (longer : length new ≡ length moved) (front : take size new ≡ take size moved) where
  -- they are within the buffer
  pub moved-fits : size ≤ length new
  moved-fits = omega (arith, is.ordered, is.inside)

  pub moved-room : length new ≡ ROOM
  moved-room = longer ∙ long ∙ is.room

  -- they are the same
  pub moved-same : slice_range new 0 size ≡ slice_range old start end
  moved-same =
      let bare : size - 0 ≡ size = omega arith in
      ap (λ k. take k new) bare ∙ front ∙ same

  pub moved-more : (n : ℕ) → slice_range new 0 (size + n) ≡ slice_range old start end ++ take n (drop size new)
  moved-more n = range-more new 0 size n (omega arith) ∙ ap (λ (l : List ℕ). l ++ take n (drop size new)) moved-same

  pub moved-within : IsWithin 0 size plain new
  moved-within = record { ordered = omega arith; inside = moved-fits; room = moved-room; known = subst (IsKnown plain) (sym moved-same) is.known }

  pub more-within : (n : ℕ) (now : Bool) → size + n ≤ length new → IsKnown now (slice_range new 0 (size + n)) → IsWithin 0 (size + n) now new
  more-within n now fits known = record { ordered = omega arith; inside = fits; room = moved-room; known = known }

  pub more-size : (n : ℕ) → size + n ≤ length new → length (take n (drop size new)) ≡ n
  more-size n fits = omega (arith, length-take n (drop size new), length-drop size new)

  pub more-room : (n : ℕ) → size + n ≤ length new → length (slice_range new 0 (size + n)) ≤ ROOM
  more-room n fits = omega (arith, moved-room, range-length new 0 (size + n) (omega arith) fits)

  pub more-full : (n : ℕ) → size + n ≤ length new → length new ≤ size → length (slice_range new 0 (size + n)) ≡ ROOM
  more-full n fits full = omega (arith, full, moved-fits, moved-room, range-length new 0 (size + n) (omega arith) fits)

-- known bytes stay as they were, with the same bytes in front
pub keeps-front : (a b : Option (List ℕ)) (front : List ℕ) → Keeps a b → Keeps (prepend_known front a) (prepend_known front b)
keeps-front None b front kept = tt
keeps-front (Some xs) None front kept = kept
keeps-front (Some xs) (Some ys) front kept = ap (λ (t : List ℕ). front ++ t) kept

-- what is read goes behind the bytes in front
pub keeps-more : (a b : Option (List ℕ)) (front more : List ℕ) → Consumes a b more → Keeps (prepend_known front a) (prepend_known (front ++ more) b)
keeps-more None b front more read = tt
keeps-more (Some xs) None front more read = read
keeps-more (Some xs) (Some ys) front more read = append_assoc front more ys ∙ ap (λ (t : List ℕ). front ++ t) (sym read)

-- bytes in front are taken off
pub takes-front : (a : Option (List ℕ)) (front : List ℕ) (n : ℕ) → Consumes (prepend_known front a) (prepend_known (drop n front) a) (take n front)
takes-front None front n = tt
takes-front (Some xs) front n = ap (λ (t : List ℕ). t ++ xs) (sym (take-append-drop n front)) ∙ append_assoc (take n front) (drop n front) xs
