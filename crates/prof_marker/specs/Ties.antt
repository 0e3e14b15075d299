-- What the numbers of a marker keep: each is a place in the list that it speaks of
use Rattle.std.specs.Prelude.{ℕ, ◌<◌}
use Rattle.prof_tables.specs.Ties.{IsPart}
use Rattle.prof_marker.specs.declared.list.Marker.{Marker}

pub record IsPlaced (strings text_count : ℕ) (m : Marker) : Type 0 where
  pub name : m.name < strings
  pub texts : IsPart text_count m.texts
  pub more : IsPart text_count m.more
