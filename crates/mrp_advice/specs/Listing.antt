-- Lines as texts, one behind the other (profile).
use Rattle.std.specs.Prelude.{ℕ, ◌+◌, ◌==◌, if◌then◌else◌, List, [], ◌∷◌, ◌++◌, codes, flat_map, length, string_bytes}
use Rattle.mrp_advice.specs.declared.listing.Listing.{Listing}

-- what stands behind the first line, all lines with their ends, and how many they are
pub record Listed : Type 0 where
  pub remark : List ℕ
  pub text : List ℕ
  pub count : ℕ

abbrev pub listed_in : Listing → Listed
listed_in l = record { remark = string_bytes l.remark; text = flat_map string_bytes l.front.items ++ string_bytes l.text; count = length l.ends.items }

-- no line, with what is to stand behind the first
abbrev pub none_listed : List ℕ → Listed
none_listed remark = record { remark = remark; text = []; count = 0 }

-- the remark stands behind the first line alone
abbrev pub remark_after : ℕ → List ℕ → List ℕ
remark_after count remark = if count == 0 then remark else []

-- the words behind the last line are ended as a line
abbrev pub ended : Listed → Listed
ended l = record { remark = l.remark; text = l.text ++ (remark_after l.count l.remark ++ codes "\n"); count = l.count + 1 }

-- words more
abbrev pub with_words : Listed → List ℕ → Listed
with_words l words = record { remark = l.remark; text = l.text ++ words; count = l.count }

-- a line more
abbrev pub with_line : Listed → List ℕ → Listed
with_line l line = ended (with_words l line)

-- lines more
unfoldable pub with_lines : Listed → List (List ℕ) → Listed
with_lines l [] = l
with_lines l (line ∷ lines) = with_lines (with_line l line) lines

-- each line with its end
abbrev pub lines_text : List (List ℕ) → List ℕ
lines_text lines = flat_map (λ line. line ++ codes "\n") lines

-- other lines behind lines
abbrev pub with_listed : Listed → Listed → Listed
with_listed l others = record { remark = l.remark; text = l.text ++ others.text; count = l.count + others.count }
