use Rattle.std.proofs.Common.{◌≡◌, map, take, string_bytes}
use Rattle.std.specs.Str.{str_to_ascii_lowercase}
use Rattle.prof_path.proofs.seeking.lowered_terms.Given as goal

abbrev pub invariant-loop-term : goal.invariant-loop-term
invariant-loop-term l = map string_bytes l.lowered.items ≡ map str_to_ascii_lowercase (take l.term-index l.terms)
