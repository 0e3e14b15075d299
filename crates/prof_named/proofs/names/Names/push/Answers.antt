use Rattle.std.proofs.Common.{◌≡◌, ◌≤◌, ◌∙◌, ◌++◌, ◌∷◌, [], List, ℕ, false, length, map, sym, ap, subst}
use Rattle.std.specs.Prelude.{string_bytes}
use Rattle.std.specs.Str.{bytes_eq}
use Rattle.std.specs.String.{string_eq}
use Rattle.std.specs.List.{position_or_len, list_any}
use Rattle.std.proofs.lemmas.List.{map-append, length-map}
use Rattle.prof_named.proofs.NameLemmas.{none_any, place-mapped, pushed}
use Rattle.prof_named.proofs.names.Names.push.Goals as goal

pub returns-clause-ok : goal.returns-clause-ok
returns-clause-ok c =
    let names = c.self.inside.names.keys in
    let key = c.in_ok-name.name in
    let lacks : length (map string_bytes names) ≤ position_or_len (bytes_eq (string_bytes key)) (map string_bytes names) =
    subst (λ (l : List (List ℕ)). length l ≤ position_or_len (bytes_eq (string_bytes key)) l) (sym c.self.view_is)
    (subst (λ (n : List ℕ). length c.args.self.now ≤ position_or_len (bytes_eq n) c.args.self.now) (sym c.in_ok-name.ensures.ok) c.requires) in
    let new : list_any (string_eq key) names ≡ false =
    none_any (λ k. bytes_eq (string_bytes key) (string_bytes k)) names (subst (λ n. length names ≤ n) (place-mapped string_bytes (bytes_eq (string_bytes key)) names) (subst (λ n. n ≤ position_or_len (bytes_eq (string_bytes key)) (map string_bytes names)) (length-map names string_bytes) lacks)) in
    let keys : c.insert.new.self.keys ≡ names ++ key ∷ [] = pushed _ names (names ++ key ∷ []) _ new c.in_ok-insert.ensures.keys in
    rw (← c.self.view_is) (ap (map string_bytes) keys ∙ (map-append string_bytes names (key ∷ []) ∙ ap (λ (n : List ℕ). map string_bytes names ++ n ∷ []) c.in_ok-name.ensures.ok))
