use Rattle.std.proofs.Common.{◌∙◌, sym}
use Rattle.std.specs.Prelude.{string_bytes}
use Rattle.std.specs.Str.{bytes_eq}
use Rattle.prof_named.proofs.NameLemmas.{place_found, place_lacks, place-mapped}
use Rattle.prof_named.proofs.names.Names.find.Goals as goal

pub returns-in-Some : goal.returns-in-Some
returns-in-Some c =
    let names = c.self.inside.names.keys in
    rw (← c.self.view_is) (place_found (λ k. bytes_eq c.args.name.now (string_bytes k)) names c.in-Some.place (sym c.in-Some.ensures.index) ∙ sym (place-mapped string_bytes (bytes_eq c.args.name.now) names))

pub returns-in-None : goal.returns-in-None
returns-in-None c =
    let names = c.self.inside.names.keys in
    rw (← c.self.view_is) (c.len.ensures.len ∙ (place_lacks (λ k. bytes_eq c.args.name.now (string_bytes k)) names (sym c.in-None.ensures.index) ∙ sym (place-mapped string_bytes (bytes_eq c.args.name.now) names)))
