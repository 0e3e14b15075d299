-- A host's characters are ASCII.
use Rattle.std.proofs.Common.{◌≡◌, ℕ, ◌<◌, true, List, [], ◌∷◌, take, arith, inl, inr}
use Rattle.std.specs.List.{prefix_len}
use Rattle.std.specs.Str.{IsAscii}
use Rattle.std.proofs.Math.Numerals.{one-add}
use Rattle.std.proofs.lemmas.Bool.{cases_Bool}
use Rattle.std.proofs.lemmas.Bool.Decides.{nat_tests}
use Rattle.std.proofs.lemmas.Str.Ascii.{IsAscii-nil, IsAscii-cons}
use Rattle.prof_gecko_names.specs.Naming.{is_host_character}

small : (c : ℕ) → is_host_character c ≡ true → c < 128
small c h = grind (arith, nat_tests)

pub host_ascii : (text : List ℕ) → IsAscii (take (prefix_len is_host_character text) text)
host_ascii [] = IsAscii-nil
host_ascii (c ∷ text) = elim (cases_Bool (is_host_character c)) [
  | inl e ↦ rw (e, one-add) (IsAscii-cons c (take (prefix_len is_host_character text) text) (small c e) (host_ascii text))
  | inr e ↦ rw e IsAscii-nil
]
