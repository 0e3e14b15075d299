use Rattle.std.proofs.Common.{refl}
use Rattle.std.specs.Prelude.{map}
use Rattle.prof_grammar.specs.Value.{string}
use Rattle.prof_write.proofs.thread.add_strings.Goals as goal

pub returns : goal.returns
returns g c = c.add_array.ensures (map string c.args.thread.now.shared.strings) refl
