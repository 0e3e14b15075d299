use Rattle.std.proofs.Common.{◌∷◌, [], ◌++◌, ap, ◌∙◌, arith}
use Rattle.prof_tables.specs.Building.{Building}
use Rattle.prof_layer.specs.Focusing.{nearest}
use Rattle.prof_layer.proofs.FocusLaws.{nodes-more, node-parts, take-more}
use Rattle.prof_layer.proofs.focusing.nodes_of.Goals as goal

pub loop-i-preserved : goal.loop-i-preserved
loop-i-preserved g c = record {
  nodes = nodes-more c.args.thread.now.shared c.args.filter c.args.top.now c.loop-i.i c.loop-i.nodes.items c.push.new.self.items c.row-row.result _ c.requires.prefixes c.row-row.ensures.row c.loop-i.invariant.nodes (node-parts c.args.thread.now.shared c.args.filter c.loop-i.nodes.items c.row-row.result c.visible.result c.nearest.result c.visible.ensures (c.nearest.ensures ∙ ap (λ l. nearest l c.row-row.result.prefix) c.deref.ensures.value)) c.in_ok-push.ensures.items;
  rows = ap (λ (b : Building). b.rows) c.add.ensures.added ∙ ap (λ l. l ++ c.row-row.result ∷ []) c.loop-i.invariant.rows ∙ take-more c.args.top.now c.loop-i.i c.row-row.result c.row-row.ensures.row;
  room = ap (λ (b : Building). b.room) c.add.ensures.added ∙ c.loop-i.invariant.room;
  funcs = ap (λ (b : Building). b.funcs) c.add.ensures.added ∙ c.loop-i.invariant.funcs;
  categories = ap (λ (b : Building). b.categories) c.add.ensures.added ∙ c.loop-i.invariant.categories;
  reads = omega arith;
}
