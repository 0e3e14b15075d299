-- Files whose names differ.
use Rattle.std.proofs.Common.{◌≡◌, ◌<◌, ◌+◌, ℕ, length, take, drop, get_or, take-append-drop, append_assoc, List, [], ◌∷◌, ◌++◌, Bool, true, false, not, ◌&&◌, ◌||◌, Option, Some, None, option_map, cond, refl, sym, ap, ◌∙◌}
use Rattle.std.specs.List.{list_any}
use Rattle.std.specs.Prelude.{option_and_then}
use Rattle.std.specs.Str.{bytes_eq}
use Rattle.std.proofs.lemmas.Bool.Decides.{same_from_decides, Decides-like}
use Rattle.std.proofs.lemmas.List.{take_more}
use Rattle.std.proofs.lemmas.List.Folds.{list_any-append}
use Rattle.std.proofs.lemmas.Slice.Eq.{bytes_eq-Decides}
use Rattle.prof_words.specs.Files.{files_of, named_file, names_differ}
use Rattle.prof_words.specs.Numbers.{each}
use Rattle.prof_words.proofs.Each.{each-behind, each-more}

abbrev File : Type 0
File = List ℕ × List ℕ

abbrev pub goes_by : List ℕ → File → Bool
goes_by name f = bytes_eq f.0 name

pub bytes_eq-sym : (a b : List ℕ) → bytes_eq a b ≡ bytes_eq b a
bytes_eq-sym a b = same_from_decides (bytes_eq a b) (bytes_eq b a) (bytes_eq-Decides a b) (Decides-like (bytes_eq b a) sym sym (bytes_eq-Decides b a))

-- a name comes twice
pub names_differ-twice : (fs : List File) (f : File) (gs : List File) → list_any (goes_by f.0) fs ≡ true → names_differ (fs ++ f ∷ gs) ≡ false
names_differ-twice [] f gs h = cc h
names_differ-twice (e ∷ fs) f gs h = over (bytes_eq e.0 f.0) refl (λ here. names_differ-twice fs f gs here)
  where
    later : not (list_any (goes_by e.0) (fs ++ f ∷ gs)) && false ≡ false
    later = over_any (list_any (goes_by e.0) (fs ++ f ∷ gs))
      where
        over_any : (b : Bool) → (not b && false) ≡ false
        over_any true = refl
        over_any false = refl

    met : (b : Bool) → (b || true) ≡ true
    met true = refl
    met false = refl

    over : (b : Bool) → bytes_eq e.0 f.0 ≡ b → (list_any (goes_by f.0) fs ≡ true → names_differ (fs ++ f ∷ gs) ≡ false) → names_differ ((e ∷ fs) ++ f ∷ gs) ≡ false
    over true is behind =
        let again : bytes_eq f.0 e.0 ≡ true = bytes_eq-sym f.0 e.0 ∙ is in
        let one : list_any (goes_by e.0) (fs ++ f ∷ gs) ≡ true = list_any-append (goes_by e.0) fs (f ∷ gs) ∙ rw again (met (list_any (goes_by e.0) fs)) in
        rw one refl
    over false is behind =
        let here : list_any (goes_by f.0) fs ≡ true = rw is at h in
        rw (behind here) later

-- one more name, which is none of those before
pub names_differ-more : (fs : List File) (f : File) → names_differ fs ≡ true → list_any (goes_by f.0) fs ≡ false → names_differ (fs ++ f ∷ []) ≡ true
names_differ-more [] f d h = refl
names_differ-more (e ∷ fs) f d h = over (bytes_eq e.0 f.0) refl (list_any (goes_by e.0) fs) refl (λ rest before. names_differ-more fs f rest before)
  where
    over : (b : Bool) → bytes_eq e.0 f.0 ≡ b → (any : Bool) → list_any (goes_by e.0) fs ≡ any
        → (names_differ fs ≡ true → list_any (goes_by f.0) fs ≡ false → names_differ (fs ++ f ∷ []) ≡ true) → names_differ ((e ∷ fs) ++ f ∷ []) ≡ true
    over true is any at behind =
        let bad : true ≡ false = rw is at h in
        cc bad
    over false is true at behind =
        let bad : false ≡ true = rw at at d in
        cc bad
    over false is false at behind =
        let again : bytes_eq f.0 e.0 ≡ false = bytes_eq-sym f.0 e.0 ∙ is in
        let rest : names_differ fs ≡ true = rw at at d in
        let before : list_any (goes_by f.0) fs ≡ false = rw is at h in
        let none : list_any (goes_by e.0) (fs ++ f ∷ []) ≡ false = list_any-append (goes_by e.0) fs (f ∷ []) ∙ rw (at, again) refl in
        rw (none, behind rest before) refl

-- the words so far name files, and the next one names a file by a name that is there already
pub files_of-twice : (words : List (List ℕ)) (word : List ℕ) (more : List (List ℕ)) (fs : List File) (f : File)
    → each named_file words ≡ Some fs → named_file word ≡ Some f → list_any (goes_by f.0) fs ≡ true → files_of (words ++ word ∷ more) ≡ None
files_of-twice words word more fs f e g h = rw (each-behind named_file words word more fs f e g) (over (each named_file more))
  where
    over : (o : Option (List File)) → option_and_then (λ files. cond (names_differ files) (Some files) None) (option_map (λ gs. fs ++ f ∷ gs) o) ≡ None
    over None = refl
    over (Some gs) = rw (names_differ-twice fs f gs h) refl

split_at : (words : List (List ℕ)) (i : ℕ) → i < length words → words ≡ take i words ++ get_or words i [] ∷ drop (i + 1) words
split_at words i below =
    sym (take-append-drop (i + 1) words) ∙ ap (λ l. l ++ drop (i + 1) words) (take_more words i [] below) ∙ append_assoc (take i words) (get_or words i [] ∷ []) (drop (i + 1) words)

pub files_of-twice_at : (words : List (List ℕ)) (i : ℕ) (fs : List File) (f : File) → i < length words
    → each named_file (take i words) ≡ Some fs → named_file (get_or words i []) ≡ Some f → list_any (goes_by f.0) fs ≡ true → files_of words ≡ None
files_of-twice_at words i fs f below e g h =
    ap files_of (split_at words i below) ∙ files_of-twice (take i words) (get_or words i []) (drop (i + 1) words) fs f e g h

pub each-more_at : (words : List (List ℕ)) (i : ℕ) (fs : List File) (f : File) → i < length words
    → each named_file (take i words) ≡ Some fs → named_file (get_or words i []) ≡ Some f → each named_file (take (i + 1) words) ≡ Some (fs ++ f ∷ [])
each-more_at words i fs f below e g =
    ap (each named_file) (take_more words i [] below) ∙ each-more named_file (take i words) (get_or words i []) fs f e g

pub files_of-all : (words : List (List ℕ)) (fs : List File) → each named_file words ≡ Some fs → names_differ fs ≡ true → files_of words ≡ Some fs
files_of-all words fs e d = rw (e, d) refl

pub files_of-none : (words : List (List ℕ)) → each named_file words ≡ None → files_of words ≡ None
files_of-none words e = rw e refl
