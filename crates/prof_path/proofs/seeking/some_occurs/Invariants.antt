use Rattle.std.proofs.Common.{◌≡◌, map, take, string_bytes, false}
use Rattle.std.specs.List.{list_any}
use Rattle.prof_path.specs.Terms.{has_within}
use Rattle.prof_path.proofs.seeking.some_occurs.Given as goal

abbrev pub invariant-loop-term : goal.invariant-loop-term
invariant-loop-term l = list_any (λ term. has_within term l.text) (map string_bytes (take l.term-index l.terms)) ≡ false
