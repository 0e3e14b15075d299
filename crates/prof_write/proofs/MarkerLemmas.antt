-- Markers by their rows.
use Rattle.std.proofs.Common.{◌≡◌, ◌∙◌, ◌<◌, ℕ, List, Some, length, get_or, refl, ap}
use Rattle.std.specs.Prelude.{slice_get}
use Rattle.std.proofs.lemmas.Option.{slice_get_read}
use Rattle.prof_tables.specs.declared.markers.RawMarker.{RawMarker}

-- a row that was read of a list that is the markers
pub marker_read : (rows held : List RawMarker) (i : ℕ) (m : RawMarker) → held ≡ rows → i < length rows → m ≡ get_or held i m → slice_get rows i ≡ Some m
marker_read rows held i m same within is = slice_get_read rows (length rows) i m refl within (is ∙ ap (λ l. get_or l i m) same)
