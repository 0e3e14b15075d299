use Rattle.std.proofs.Common.{◌≡◌, ◌-◌, ◌<◌, length, None, ap, sym, subst}
use Rattle.std.specs.Prelude.{slice_get}
use Rattle.prof_tables.specs.Threads.{ThreadTables}
use Rattle.prof_layer.specs.Following.{follow}
use Rattle.prof_layer.specs.Simulates.{LayerLists}
use Rattle.prof_layer.proofs.LayerLaws.{entries-none}
use Rattle.prof_layer.proofs.layers.Layers.entries_after.Goals as goal

pub returns-in-None-clause-entries : goal.returns-in-None-clause-entries
returns-in-None-clause-entries c = λ r lt.
    let value : None ≡ slice_get c.deref.result.now (length c.deref.result.now - 1) = c.in-None.ensures.value in
    let none : slice_get c.self.inside.tables.items (length c.self.inside.tables.items - 1) ≡ None = subst (λ xs. slice_get xs (length xs - 1) ≡ None) c.deref.ensures.value (sym value) in
    ap (follow c.args.outs.items) (entries-none c.self.inside.base.value.shared.stacks c.self.inside.tables.items c.args.self.now.entries r none (ap (λ (l : LayerLists). l.entries) c.self.view_is)
    (subst (λ (b : ThreadTables). r < length b.shared.stacks) (sym (ap (λ (l : LayerLists). l.base) c.self.view_is)) lt))
