-- Words NAME=FILE.
use Rattle.std.specs.Prelude.{ℕ, List, [], ◌∷◌, Bool, true, not, ◌==◌, ◌&&◌, ◌||◌, nat_le, length, Option, Some, None, option_and_then, if◌then◌else◌}
use Rattle.std.specs.List.{list_all, list_any, before_first, after_first}
use Rattle.std.specs.Str.{bytes_eq}
use Rattle.prof_words.specs.Numbers.{each}

-- a to z, 0 to 9, `_` and `-`
abbrev pub is_name_byte : ℕ → Bool
is_name_byte b = (nat_le 97 b && nat_le b 122) || ((nat_le 48 b && nat_le b 57) || ((b == 95) || (b == 45)))

-- 1 to 64 of these
abbrev pub is_name : List ℕ → Bool
is_name word = not (length word == 0) && (nat_le (length word) 64 && list_all is_name_byte word)

-- a name and a file, around the first `=`
abbrev pub named_file : List ℕ → Option (List ℕ × List ℕ)
named_file word =
    let name = before_first (λ b. b == 61) word in
    let file = after_first (λ b. b == 61) word in
    if is_name name && not (length file == 0) then Some (name, file) else None

-- no name comes twice
abbrev pub names_differ : List (List ℕ × List ℕ) → Bool
names_differ [] = true
names_differ (file ∷ files) = not (list_any (λ f. bytes_eq f.0 file.0) files) && names_differ files

-- the files of the words, where each is one and their names differ
abbrev pub files_of : List (List ℕ) → Option (List (List ℕ × List ℕ))
files_of words = option_and_then (λ files. if names_differ files then Some files else None) (each named_file words)
