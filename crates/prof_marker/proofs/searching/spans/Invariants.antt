use Rattle.std.proofs.Common.{◌≡◌, take, map}
use Rattle.std.specs.List.{filter}
use Rattle.std.specs.Str.{str_to_ascii_lowercase}
use Rattle.prof_path.specs.Terms.{terms_of}
use Rattle.std.proofs.Common.{[]}
use Rattle.prof_path.specs.Lowered.{IsReady, sought}
use Rattle.prof_marker.specs.Found.{is_found, span_of}
use Rattle.prof_marker.proofs.searching.spans.Given as goal

abbrev pub invariant-loop-marker : goal.invariant-loop-marker
invariant-loop-marker l = record {
  ready : IsReady l.strings l.seeker;
  terms : sought l.seeker ≡ map str_to_ascii_lowercase (terms_of l.search);
  spans : l.list ≡ map span_of (filter (is_found l.strings l.texts (terms_of l.search) []) (take l.marker-index l.marker-items));
}
