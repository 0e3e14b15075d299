use Rattle.std.proofs.Common.{◌≡◌, ◌<◌, pos, true, false, length, get_or, None, Some, sym, ◌∙◌, arith}
use Rattle.std.proofs.lemmas.Option.{slice_get-get_or}
use Rattle.prof_tables.specs.declared.rows.SampleRow.{SampleRow}
use Rattle.prof_layer.specs.Rewritten.{entry_at}
use Rattle.prof_view_tree.specs.Showing.{flag_at}
use Rattle.prof_view_tree.proofs.FinalRows.{same_item, row_in, out_in, final_met}
use Rattle.prof_view_tree.proofs.viewing.final_row.Goals as goal

abbrev blank : SampleRow
blank = record { stack = None; time = pos 0; weight = pos 0 }

pub index-requires : goal.index-requires
index-requires c =
    let l = c.args.layers.now in
    let v = c.args.viewed.now in
    let r = c.requires.viewed in
    let s = get_or l.base.samples c.args.k blank in
    let at = c.in_ok-row.ensures s (slice_get-get_or l.base.samples c.args.k blank c.requires.sample) in
    omega (arith, row_in l r.0 r.1 s v.shown.rows.items v.shown.outs.items v.kept.items r.2 c.in_ok-row.row at, v.shown.outs.ok.0)

pub index-requires-2 : goal.index-requires-2
index-requires-2 c =
    let l = c.args.layers.now in
    let v = c.args.viewed.now in
    let r = c.requires.viewed in
    let s = get_or l.base.samples c.args.k blank in
    let row = c.in_ok-row.row in
    let outs = v.shown.outs.items in
    let at = c.in_ok-row.ensures s (slice_get-get_or l.base.samples c.args.k blank c.requires.sample) in
    let within : row < length outs = row_in l r.0 r.1 s v.shown.rows.items outs v.kept.items r.2 row at in
    let e : entry_at outs row ≡ Some c.in_ok-out.out = same_item outs row None c.index.result.now within ∙ (sym c.index.ensures ∙ c.in_ok-out.was) in
    omega (arith, out_in l r.0 r.1 s v.shown.rows.items outs v.kept.items r.2 row at c.in_ok-out.out e, v.kept.ok.0)

pub returns-then-index : goal.returns-then-index
returns-then-index c = λ i terms s viewed here.
    let l = c.args.layers.now in
    let v = c.args.viewed.now in
    let row = c.in_ok-row.row in
    let out = c.in_ok-out.out in
    let rows = v.shown.rows.items in
    let outs = v.shown.outs.items in
    let kept = v.kept.items in
    let at = c.in_ok-row.ensures s here in
    let within : row < length outs = row_in l i terms s rows outs kept viewed row at in
    let e : entry_at outs row ≡ Some out = same_item outs row None c.index.result.now within ∙ (sym c.index.ensures ∙ c.in_ok-out.was) in
    let inside : out < length kept = out_in l i terms s rows outs kept viewed row at out e in
    let flag : flag_at kept out ≡ true = same_item kept out false c.index-2.result.now inside ∙ (sym c.index-2.ensures ∙ c.if-index.true) in
    final_met l i terms s rows outs kept viewed row at out e flag
