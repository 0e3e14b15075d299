-- What each profile in memory keeps besides its own numbers: its threads keep what threads do, and its texts are UTF-8.
use Rattle.std.specs.Prelude.{◌<◌, ◌^◌, IsUtf8}
use Rattle.std.specs.List.{All}
use Rattle.prof_tables.specs.declared.markers.RawMarker.{RawMarker}
use Rattle.prof_tables.specs.Threads.{ThreadTables}
use Rattle.prof_tables.specs.Profiles.{ProfileTables, IsProfile}
use Rattle.prof_tables.specs.Ties.{IsShared, AreOwn}

pub record IsThread (t : ThreadTables) : Type 0 where
  pub shared : IsShared t.shared
  pub own : AreOwn t
  pub name : IsUtf8 t.name
  pub strings : All IsUtf8 t.shared.strings
  pub texts : All IsUtf8 t.markers.texts
  -- the ends of the markers' ranges are numbers of 32 bits
  pub ranges : All (λ (m : RawMarker). m.texts.1 < 2 ^ 32) t.markers.rows

pub record IsKept (p : ProfileTables) : Type 0 where
  pub profile : IsProfile p
  pub threads : All IsThread p.threads
  pub names : All IsUtf8 p.categories
