-- A pass over rows, prefixes first
use Rattle.std.specs.Prelude.{◌≡◌, ℕ, ◌<◌, ◌≤◌, ℤ, false, List, [], ◌∷◌, ◌++◌, length, Option, Some, None, unwrap_or, slice_get, if◌then◌else◌}
use Rattle.prof_tables.specs.declared.rows.Step.{Step}
use Rattle.prof_tables.specs.declared.rows.StackRow.{StackRow}
use Rattle.prof_tables.specs.Threads.{SharedTables}
use Rattle.prof_tables.specs.Paths.{path, PrefixesBelow}
use Rattle.prof_path.specs.declared.lists.Span.{Span}
use Rattle.prof_path.specs.declared.transform.Transform.{Transform}
use Rattle.prof_path.specs.declared.transform.Transform.TheVariants.{MergeFunction, MergeCallNode, DropFunction, FocusSubtree, FocusFunction, FocusCategory, CollapseResource, CollapseDirectRecursion, CollapseRecursion, CollapseFunctionSubtree, FilterSamples}
use Rattle.prof_path.specs.Rewriting.{rewrite}
use Rattle.prof_layer.specs.declared.acts.Act.{Act}
use Rattle.prof_layer.specs.declared.acts.Act.TheVariants.{Stay, Below, Empty, Back}
use Rattle.prof_layer.specs.declared.passing.Place.{Place}
use Rattle.prof_layer.specs.Acts.{hit_of, next_hit, met_of, next_met, act_of, first_of}
use Rattle.prof_layer.specs.Rewritten.{IsRowOf}

-- the place of the empty path
abbrev pub root : Place
root = record { out = None; first = None; hit = false; met = Some 0 }

-- the place of a row's prefix
abbrev pub place_of : List Place → Option ℕ → Place
place_of places None = root
place_of places (Some p) = unwrap_or (slice_get places p) root

-- what an act makes of a place above n rows
abbrev pub out_after : Act → Place → ℕ → Option ℕ
out_after Stay above n = above.out
out_after (Below s) above n = Some n
out_after Empty above n = None
out_after Back above n = above.first

abbrev pub rows_after : Act → Place → List StackRow → List StackRow
rows_after Stay above rows = rows
rows_after (Below s) above rows = rows ++ record { prefix = above.out; func = s.func; category = s.category } ∷ []
rows_after Empty above rows = rows
rows_after Back above rows = rows

abbrev pub first_after : Transform → Place → Option ℕ → Option ℕ
first_after (MergeFunction f) above out = None
first_after (MergeCallNode i q) above out = None
first_after (DropFunction f) above out = None
first_after (FocusSubtree i q inverted) above out = None
first_after (FocusFunction f) above out = None
first_after (FocusCategory c) above out = None
first_after (CollapseResource i r) above out = None
first_after (CollapseDirectRecursion i f) above out = None
first_after (CollapseRecursion f) above out = if above.hit then above.first else out
first_after (CollapseFunctionSubtree f) above out = None
first_after (FilterSamples text) above out = None

abbrev pub place_after : SharedTables → Transform → Place → Step → ℕ → Place
place_after t transform above s n =
    let out = out_after (act_of t transform above.hit above.met s) above n in
    record {
      out = out;
      first = first_after transform above out;
      hit = next_hit t transform above.hit s;
      met = next_met t transform above.met s;
    }

-- the place of a path: what later steps depend on, and where the rewritten path went
pub record IsPlace (t : SharedTables) (transform : Transform) (rows : List StackRow) (x : List Step) (place : Place) : Type 0 where
  pub hit : place.hit ≡ hit_of t transform x
  pub met : place.met ≡ met_of t transform x
  pub out : (spans : List Span) (m : ℤ) → IsRowOf rows place.out (rewrite t transform spans x m)
  pub first : (spans : List Span) (m : ℤ) → IsRowOf rows place.first (first_of t transform spans x m)

-- the pass over the first n rows of the top
pub record IsPassed (t : SharedTables) (transform : Transform) (top : List StackRow) (n : ℕ) (rows : List StackRow) (places : List Place) : Type 0 where
  pub count : length places ≡ n
  pub few : length rows ≤ n
  pub prefixes : PrefixesBelow rows
  pub each : (k : ℕ) → k < n → IsPlace t transform rows (path top (Some k)) (place_of places (Some k))
