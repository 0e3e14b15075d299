use Rattle.std.proofs.Common.{refl}
use Rattle.prof_column.proofs.TextLists.{absent-none, texts-taken}
use Rattle.prof_column.proofs.texts.text_list.Goals as goal

pub returns-clause-list : goal.returns-clause-list
returns-clause-list g c =
    let t = c.in_ok-kind.ensures.value in
    (t.0, t.1, texts-taken c.absent-list.result c.array.new.list _ t.0 c.in_ok-kind.kind (absent-none c.absent-list.result c.absent-list.ensures) t.2 c.state_of-list.ensures refl refl)
