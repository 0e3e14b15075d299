use Rattle.std.proofs.Common.{◌∙◌, ap, map}
use Rattle.std.specs.Prelude.{string_bytes}
use Rattle.prof_named.proofs.NameLemmas.{removed-mapped}
use Rattle.prof_named.proofs.names.Names.remove.Goals as goal

pub returns : goal.returns
returns c = rw (← c.self.view_is) (ap (map string_bytes) c.shift_remove_index-name.ensures.keys ∙ removed-mapped string_bytes c.self.inside.names.keys c.args.place)
