-- Profiles compared without regard to where the texts of their markers stand.
use Rattle.std.specs.Prelude.{◌≡◌, ℕ, ℤ, List, Option, map}
use Rattle.prof_raw.specs.declared.raw.Unit.{Unit as WeightUnit}
use Rattle.prof_tables.specs.declared.rows.SampleRow.{SampleRow}
use Rattle.prof_tables.specs.declared.markers.RawMarker.{RawMarker}
use Rattle.prof_tables.specs.Threads.{MarkerRows, SharedTables, ThreadTables}
use Rattle.prof_tables.specs.Profiles.{ProfileTables}
use Rattle.prof_write.specs.Written.{marker_texts}

-- a row of the markers, with its own texts in place of their range
pub record MarkerWithTexts : Type 0 where
  pub name : ℕ
  pub phase : ℕ
  pub start : Option ℤ
  pub end : Option ℤ
  pub texts : List (List ℕ)

abbrev pub marker_with_texts : List (List ℕ) → RawMarker → MarkerWithTexts
marker_with_texts texts m = record { name = m.name; phase = m.phase; start = m.start; end = m.end; texts = marker_texts texts m }

-- the rows of the markers, each with its own texts
abbrev pub rows_with_texts : MarkerRows → List MarkerWithTexts
rows_with_texts t = map (marker_with_texts t.texts) t.rows

-- a thread, and a profile, of such rows
pub record ThreadWithTexts : Type 0 where
  pub shared : SharedTables
  pub name : List ℕ
  pub unit : WeightUnit
  pub samples : List SampleRow
  pub markers : List MarkerWithTexts

abbrev pub thread_with_texts : ThreadTables → ThreadWithTexts
thread_with_texts t = record { shared = t.shared; name = t.name; unit = t.unit; samples = t.samples; markers = rows_with_texts t.markers }

pub record ProfileWithTexts : Type 0 where
  pub threads : List ThreadWithTexts
  pub categories : List (List ℕ)
  pub default : ℕ

abbrev pub profile_with_texts : ProfileTables → ProfileWithTexts
profile_with_texts p = record { threads = map thread_with_texts p.threads; categories = p.categories; default = p.default }

-- equal profiles, each row of the markers compared with its own texts in place of their range and of the list of texts
abbrev pub AreEqual : ProfileTables → ProfileTables → Type 0
AreEqual p q = profile_with_texts p ≡ profile_with_texts q
