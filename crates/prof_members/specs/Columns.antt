-- Columns and lists while their items are gathered.
use Rattle.std.specs.Prelude.{◌≡◌, ℕ, suc, List, [], ◌∷◌, ◌++◌, Bool, if◌then◌else◌, Option, None, Some, is_some, unwrap_or, length, map, take}
use Rattle.prof_column.specs.Columns.{kept_cells}
use Rattle.prof_raw.specs.declared.limits.TheConstants.{MOST_CATEGORIES, MOST_ROWS, MOST_SAMPLES, MOST_THREADS}
use Rattle.std.specs.Option.{option_or}
use Rattle.prof_grammar.specs.Value.{Value}
use Rattle.prof_layout.specs.Columns.{gathered, capped, any_cell}
use Rattle.prof_layout.specs.Lists.{is_object, first_where, first_unfit}
use Rattle.prof_layout.specs.Markers.{all_texts, ranges_from}
use Rattle.prof_layout.specs.Profile.{is_category, category_name, is_grey}
use Rattle.prof_layout.specs.declared.reading.Reading.TheVariants as reading
use Rattle.prof_members.specs.Gathered.{AreThreads}
use Rattle.prof_members.specs.declared.lists.CategoryList.{CategoryList}
use Rattle.prof_members.specs.declared.samples.Weights.{Weights}
use Rattle.prof_members.specs.declared.lists.MarkerData.{MarkerData}
use Rattle.prof_members.specs.declared.lists.ThreadList.{ThreadList}

pub record AreWeightsOf (first : Weights) (vs : List Value) (w : Weights) : Type 0 where
  pub counts : first.counts ≡ kept_cells MOST_SAMPLES reading.Count [] → w.counts ≡ kept_cells MOST_SAMPLES reading.Count vs
  pub times : first.times ≡ kept_cells MOST_SAMPLES reading.Time [] → w.times ≡ kept_cells MOST_SAMPLES reading.Time vs

abbrev pub NoCategories : CategoryList → Type 0
NoCategories l = (l.names.items ≡ []) × (l.bad ≡ None) × (l.grey ≡ None)

-- a row with this name was added, or one without where the name is none
pub record IsCategoryAdded (name : Option (List ℕ)) (grey : Bool) (old new : CategoryList) : Type 0 where
  pub names : new.names.items ≡ old.names.items ++ unwrap_or name [] ∷ []
  pub bad : new.bad ≡ option_or old.bad (if is_some name then None else Some (length old.names.items))
  pub first : new.grey ≡ option_or old.grey (if grey then Some (length old.names.items) else None)
  pub state : new.state ≡ old.state

pub record IsCategoryListOf (first : CategoryList) (vs : List Value) (l : CategoryList) : Type 0 where
  pub names : NoCategories first → l.names.items ≡ map category_name (take (suc MOST_CATEGORIES) vs)
  pub bad : NoCategories first → l.bad ≡ first_unfit is_category (take (suc MOST_CATEGORIES) vs)
  pub grey : NoCategories first → l.grey ≡ first_where is_grey 0 (take (suc MOST_CATEGORIES) vs)

abbrev pub NoMarkers : MarkerData → Type 0
NoMarkers d = (d.column ≡ capped MOST_ROWS (gathered [])) × (d.texts.items ≡ []) × (d.ranges.items ≡ [])

pub record IsMarkerDataOf (first : MarkerData) (vs : List Value) (d : MarkerData) : Type 0 where
  pub column : NoMarkers first → d.column ≡ capped MOST_ROWS (gathered (map any_cell vs))
  pub texts : NoMarkers first → d.texts.items ≡ all_texts (take (suc MOST_ROWS) vs)
  pub ranges : NoMarkers first → d.ranges.items ≡ ranges_from 0 (take (suc MOST_ROWS) vs)

abbrev pub NoThreads : ThreadList → Type 0
NoThreads l = (l.threads.items ≡ []) × (l.bad ≡ None)

pub record IsThreadListOf (first : ThreadList) (vs : List Value) (l : ThreadList) : Type 0 where
  pub threads : NoThreads first → AreThreads (take (suc MOST_THREADS) vs) l.threads.items
  pub bad : NoThreads first → l.bad ≡ first_unfit is_object (take (suc MOST_THREADS) vs)
