use Rattle.std.proofs.Common.{◌∙◌}
use Rattle.std.specs.Prelude.{codes}
use Rattle.prof_grammar.specs.Value.{Value}
use Rattle.prof_members.proofs.Begun.{reads_string}
use Rattle.prof_schema.proofs.Entries.{same-bytes}
use Rattle.prof_members.proofs.categories.is_grey.Goals as goal

pub returns-in-Str-clause-grey : goal.returns-in-Str-clause-grey
returns-in-Str-clause-grey g c =
    let came = rw c.in-Str.is at c.in_ok-first.ensures.ok in
    (Value.string c.string.result.now, reads_string c.args.feed.now c.next.new.self c.string.result.now came c.string.ensures, c.eq.ensures ∙ same-bytes c.string.result.now (codes "grey"))
