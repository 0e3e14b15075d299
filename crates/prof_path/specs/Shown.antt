-- Which functions a filter shows
use Rattle.std.specs.Prelude.{ℕ, Bool, true, not, ◌&&◌, ◌||◌, nat_eq, is_none, List, [], ◌∷◌, map, slice_get}
use Rattle.std.specs.List.{filter, starts_with}
use Rattle.std.specs.Option.{option_map_or}
use Rattle.prof_tables.specs.declared.rows.Step.{Step}
use Rattle.prof_tables.specs.Threads.{SharedTables, Func, text_at}
use Rattle.prof_path.specs.declared.transform.Implementation.{Implementation}
use Rattle.prof_path.specs.declared.transform.Implementation.TheVariants.{Combined, Js, Cpp}

-- whether a filter shows a function of the table: `0x` begins an address
abbrev pub shows_func : SharedTables → Implementation → Func → Bool
shows_func t Combined func = true
shows_func t Js func = func.is_js || func.relevant_for_js
shows_func t Cpp func = not func.is_js && not (is_none func.resource && starts_with nat_eq (text_at t func.name) (48 ∷ 120 ∷ []))

-- whether a filter shows a function. It shows each collapsed resource
abbrev pub shown : SharedTables → Implementation → ℕ → Bool
shown t i f = option_map_or (shows_func t i) (slice_get t.funcs f) true

-- the functions of a path
abbrev pub funcs : List Step → List ℕ
funcs x = map (λ (s : Step). s.func) x

-- the steps that a filter shows, and their functions
abbrev pub seen : SharedTables → Implementation → List Step → List Step
seen t i x = filter (λ (s : Step). shown t i s.func) x

abbrev pub names : SharedTables → Implementation → List Step → List ℕ
names t i x = funcs (seen t i x)
