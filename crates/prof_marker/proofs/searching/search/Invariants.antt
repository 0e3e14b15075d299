use Rattle.std.proofs.Common.{◌≡◌, take, map}
use Rattle.std.specs.Str.{str_to_ascii_lowercase}
use Rattle.prof_path.specs.Lowered.{IsReady, sought}
use Rattle.prof_marker.specs.Found.{is_found, places}
use Rattle.prof_marker.proofs.searching.search.Given as goal

abbrev pub invariant-loop-place : goal.invariant-loop-place
invariant-loop-place l = record {
  ready : IsReady l.strings l.seeker;
  terms : sought l.seeker ≡ map str_to_ascii_lowercase l.terms;
  places : l.places.items ≡ places (is_found l.strings l.texts l.terms l.ranges) (take l.place l.marker-items);
}
