use Rattle.std.proofs.Common.{subst}
use Rattle.prof_tables.specs.Threads.{ThreadTables}
use Rattle.prof_layer.specs.Rewritten.{IsRewritten}
use Rattle.prof_layer.specs.Simulates.{of_rows}
use Rattle.prof_layer.proofs.StackLaws.{Stands-more}
use Rattle.prof_layer.proofs.layers.Layers.table_with.Goals as goal

pub returns-clause-stands : goal.returns-clause-stands
returns-clause-stands g c =
    let l = c.args.self.now in
    let rows = c.in_ok-rows.field-0.rows in
    let outs = c.in_ok-rows.field-0.outs.items in
    Stands-more l.base (of_rows l.settled) c.args.t.now l.top rows l.entries outs c.in_ok-entries.entries.items
    c.top.ensures.simulates
    (subst (λ (b : ThreadTables). IsRewritten b.shared c.args.t.now l.top rows outs) c.base.ensures
    (subst (λ top. IsRewritten c.base.result.now.shared c.args.t.now top rows outs) c.top.ensures.rows c.in_ok-rows.ensures.rewritten))
    c.in_ok-entries.ensures.count c.in_ok-entries.ensures.entries
