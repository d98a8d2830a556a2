-- What was probably meant by words or an input that did not serve.
use Rattle.std.specs.Prelude.{ℕ, Bool, false, ◌&&◌, ◌||◌, not, List, [], ◌∷◌, codes, nat_eq}
use Rattle.std.specs.List.{starts_with}
use Rattle.std.specs.Str.{bytes_eq}
use Rattle.mrp_words.specs.declared.hint.Hint.{Hint}
use Rattle.mrp_words.specs.declared.hint.Hint.TheVariants as hint
use Rattle.mrp_words.specs.declared.hint.TheConstants.{FILE_AS_FOLDER, FOLDER_AS_INPUT, INSPECT, STRAY_WORD, UTF16}

-- the line that says what was probably meant
abbrev pub hint_text : Hint → List ℕ
hint_text hint.FolderAsInput = FOLDER_AS_INPUT.now
hint_text hint.Utf16 = UTF16.now
hint_text hint.FileAsFolder = FILE_AS_FOLDER.now
hint_text hint.StrayWord = STRAY_WORD.now
hint_text hint.Inspect = INSPECT.now

-- bytes begin with a byte order mark of UTF-16, of either order
abbrev pub begins_utf16 : List ℕ → Bool
begins_utf16 bytes = starts_with nat_eq bytes (255 ∷ 254 ∷ []) || starts_with nat_eq bytes (254 ∷ 255 ∷ [])

-- what is said of a refused bundle begins with these bytes
abbrev pub says_refused : List ℕ → Bool
says_refused said = starts_with nat_eq said (codes "refused: ")

-- a word is one of the commands
abbrev pub is_command : List ℕ → Bool
is_command word =
    bytes_eq word (codes "plan")
    || (bytes_eq word (codes "live") || (bytes_eq word (codes "page") || (bytes_eq word (codes "check") || (bytes_eq word (codes "carry") || (bytes_eq word (codes "inspect") || bytes_eq word (codes "desk"))))))

-- a word begins as an option does
abbrev pub is_option : List ℕ → Bool
is_option word = starts_with nat_eq word (codes "-")

-- the first word is no option
abbrev pub begins_plain : List (List ℕ) → Bool
begins_plain [] = false
begins_plain (word ∷ rest) = not (is_option word)

-- two words in a row are no options
abbrev pub two_in_a_row : List (List ℕ) → Bool
two_in_a_row [] = false
two_in_a_row (word ∷ rest) = (not (is_option word) && begins_plain rest) || two_in_a_row rest

-- a command stands first, and two words in a row are no options: the second of them is no value of an option
abbrev pub has_stray_word : List (List ℕ) → Bool
has_stray_word [] = false
has_stray_word (command ∷ rest) = is_command command && two_in_a_row (command ∷ rest)
