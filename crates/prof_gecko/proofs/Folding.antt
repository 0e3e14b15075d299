-- The lists that grow with the functions of frames.
use Rattle.std.proofs.Common.{◌≡◌, ℕ, ◌+◌, ◌≤◌, List, [], ◌∷◌, length, refl, ◌∙◌, arith}
use Rattle.std.specs.Prelude.{fold, slice_index}
use Rattle.std.proofs.lemmas.List.Elements.{All-nil}
use Rattle.prof_raw.specs.Cells.{Cells, cell}
use Rattle.prof_raw.specs.CellValues.{truth_of}
use Rattle.prof_gecko_names.specs.Keys.{text_at}
use Rattle.prof_gecko_names.specs.Naming.{named_of}
use Rattle.prof_gecko_names.specs.Lists.{Lists, lists_over}
use Rattle.prof_gecko_names.proofs.Growing.{AreFit, add_fits, func_count, func_grows, grows_length}
use Rattle.prof_gecko.specs.Gathered.{Lib}
use Rattle.prof_gecko.specs.Converted.{add_row, lists_of}

fold_fits : (libs : List Lib) (strings : List (List ℕ)) (places : List ℕ) (relevant : Cells) (rows : List ℕ) (d : Lists) → AreFit d → AreFit (fold (add_row libs strings places relevant) d rows)
fold_fits libs strings places relevant [] d fit = fit
fold_fits libs strings places relevant (j ∷ rows) d fit = fold_fits libs strings places relevant rows (add_row libs strings places relevant d j)
    (add_fits d (named_of libs (text_at strings (slice_index places j))) (truth_of (cell relevant j)) fit)

-- each number of the lists is in its range
pub lists_fit : (libs : List Lib) (strings : List (List ℕ)) (places : List ℕ) (relevant : Cells) (rows : List ℕ) → AreFit (lists_of libs strings places relevant rows)
unfolding lists_of
lists_fit libs strings places relevant rows = fold_fits libs strings places relevant rows (lists_over strings) (record { resources = All-nil _; keys = refl; funcs = All-nil _ })

fold_count : (libs : List Lib) (strings : List (List ℕ)) (places : List ℕ) (relevant : Cells) (rows : List ℕ) (d : Lists) → length (fold (add_row libs strings places relevant) d rows).funcs ≡ length d.funcs + length rows
fold_count libs strings places relevant [] d = omega arith
fold_count libs strings places relevant (j ∷ rows) d =
    let rest = fold_count libs strings places relevant rows (add_row libs strings places relevant d j) in
    let one = func_count d (named_of libs (text_at strings (slice_index places j))) (truth_of (cell relevant j)) in
    rest ∙ omega arith

-- there is one function for each row
pub lists_count : (libs : List Lib) (strings : List (List ℕ)) (places : List ℕ) (relevant : Cells) (rows : List ℕ) → length (lists_of libs strings places relevant rows).funcs ≡ length rows
unfolding lists_of
lists_count libs strings places relevant rows = fold_count libs strings places relevant rows (lists_over strings) ∙ omega arith

fold_strings : (libs : List Lib) (strings : List (List ℕ)) (places : List ℕ) (relevant : Cells) (rows : List ℕ) (d : Lists) → length d.strings ≤ length (fold (add_row libs strings places relevant) d rows).strings
fold_strings libs strings places relevant [] d = omega arith
fold_strings libs strings places relevant (j ∷ rows) d =
    let rest = fold_strings libs strings places relevant rows (add_row libs strings places relevant d j) in
    let one = (grows_length 3 d.strings (add_row libs strings places relevant d j).strings
    (func_grows d (named_of libs (text_at strings (slice_index places j))) (truth_of (cell relevant j)))).0 in
    omega arith

-- no string is lost
pub lists_strings : (libs : List Lib) (strings : List (List ℕ)) (places : List ℕ) (relevant : Cells) (rows : List ℕ) → length strings ≤ length (lists_of libs strings places relevant rows).strings
unfolding lists_of
lists_strings libs strings places relevant rows = fold_strings libs strings places relevant rows (lists_over strings)
