use Rattle.std.proofs.Common.{◌≡◌, ℕ, length, take, None, get_or}
use Rattle.std.specs.Prelude.{map}
use Rattle.prof_gecko_names.specs.Keys.{key_of, IsKnown}
use Rattle.prof_gecko_names.proofs.keys.location_keys.Given as goal

abbrev pub invariant-loop : goal.invariant-loop
invariant-loop l = record {
  many : length l.known.items ≡ l.counter;
  none : (p : ℕ) → get_or l.known.items p None ≡ None;
}

abbrev pub invariant-loop-place : goal.invariant-loop-place
invariant-loop-place l = record {
  many : length l.known.items ≡ length l.strings;
  known : IsKnown l.libs l.strings l.known.items;
  keys : l.keys.items ≡ map (key_of l.libs l.strings) (take l.place-index l.places);
}
