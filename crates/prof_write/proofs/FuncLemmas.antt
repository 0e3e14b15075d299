-- The cells of functions.
use Rattle.std.proofs.Common.{◌≡◌, ◌∙◌, ◌<◌, ℕ, ◌-◌, List, false, Option, None, Some, length, sym, ap}
use Rattle.std.specs.Prelude.{option_map, slice_get}
use Rattle.std.specs.Option.{option_map_or}
use Rattle.std.proofs.lemmas.Option.{slice_get-get_or}
use Rattle.prof_tables.specs.Threads.{Func, SharedTables, resource_of}
use Rattle.prof_write.proofs.CellLemmas.{two_maps}

-- a text of a part of a row
pub text_of_part : {A B : Type 0} (part : A → B) (text : B → List ℕ) (row : Option A) (b : B) (line : List ℕ) → option_map part row ≡ Some b → line ≡ text b →
    option_map (λ a. text (part a)) row ≡ Some line
text_of_part part text row b line h e = sym (two_maps part text row) ∙ ap (option_map text) h ∙ ap (λ l. Some l) (sym e)

no_func : Func
no_func = record { name = 0; is_js = false; relevant_for_js = false; resource = None; file = None }

pub resource_at : (t : SharedTables) (f : ℕ) (r : Option ℕ) → f < length t.funcs → r ≡ resource_of t f → option_map (λ (func : Func). func.resource) (slice_get t.funcs f) ≡ Some r
resource_at t f r h is =
    let there = slice_get-get_or t.funcs f no_func h in
    ap (option_map (λ (func : Func). func.resource)) there
    ∙ ap (λ o. Some o) (sym (is ∙ ap (λ o. option_map_or (λ (func : Func). func.resource) o (Some (f - length t.funcs))) there))
