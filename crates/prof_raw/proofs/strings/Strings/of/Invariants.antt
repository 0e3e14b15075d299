use Rattle.std.proofs.Common.{◌≡◌, ◌<◌, ◌≤◌, ℕ, List, length, map}
use Rattle.std.specs.Prelude.{All, string_bytes}
use Rattle.std.specs.Str.{bytes_eq}
use Rattle.indexmap.specs.IndexMap.{get_by}
use Rattle.prof_raw.specs.Texts.{texts_of, first_place}
use Rattle.prof_raw.proofs.strings.Strings.of.Given as goal

abbrev pub invariant-loop-text : goal.invariant-loop-text
invariant-loop-text l = record {
  many : length l.places.items ≡ length l.yielded;
  few : length l.index.entries ≤ length l.places.items;
  within : All (λ e. e < length l.index.entries) l.places.items;
  read : texts_of (λ p. string_bytes p.0) l.index.entries l.places.items ≡ map string_bytes l.yielded;
  found : (q : List ℕ) → get_by (λ k. bytes_eq q (string_bytes k)) l.index ≡ first_place (map string_bytes l.yielded) q;
}
