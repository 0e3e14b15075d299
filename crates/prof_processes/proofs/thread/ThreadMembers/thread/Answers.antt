use Rattle.std.proofs.Common.{◌∙◌, [], List, ℕ, Option, ap}
use Rattle.std.specs.Prelude.{codes, unwrap_or}
use Rattle.prof_grammar.specs.Value.{last_named, object}
use Rattle.prof_gecko_layout.specs.GeckoTables.{gecko_cells}
use Rattle.prof_processes.specs.Threads.{kept_cells}
use Rattle.prof_processes.proofs.Threads.{thread_is, name_is}
use Rattle.prof_processes.proofs.thread.ThreadMembers.thread.Goals as goal

pub returns : goal.returns
unfolding kept_cells gecko_cells
returns c ms h =
    thread_is _ (kept_cells (object ms))
    (c.name.view_is ∙ c.in_ok-name.ensures ∙ ap (λ (o : Option (List ℕ)). unwrap_or o []) h.name ∙ name_is (last_named (codes "name") ms))
    (c.in_ok-new.ensures.ok ∙ c.in_ok-strings.ensures ∙ h.strings.texts)
    (c.fault-string_fault.ensures (last_named (codes "stringTable") ms) h.strings)
    h.frame h.stack h.samples h.markers.table h.markers.there h.markers.texts h.markers.ranges
