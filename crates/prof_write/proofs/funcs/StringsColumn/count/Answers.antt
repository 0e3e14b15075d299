use Rattle.std.proofs.Common.{◌∙◌, ap, length, sym}
use Rattle.prof_grammar.specs.Value.{string}
use Rattle.prof_write.proofs.CellLemmas.{length-cells}
use Rattle.prof_write.proofs.funcs.StringsColumn.count.Goals as goal

pub returns : goal.returns
returns c = c.count.ensures ∙ ap length c.strings.ensures ∙ sym (length-cells string c.args.self.now.thread.now.shared.strings)
