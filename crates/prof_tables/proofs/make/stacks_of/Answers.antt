use Rattle.std.proofs.Common.{◌≡◌, ◌<◌, length, ap, ◌∙◌, arith, [], ◌∷◌, ◌++◌}
use Rattle.std.proofs.lemmas.Grind.{common_steps}
use Rattle.std.specs.Prelude.{IfSome}
use Rattle.prof_tables.specs.declared.rows.StackRow.{StackRow}
use Rattle.prof_raw.specs.Cells.{cell}
use Rattle.prof_raw.specs.CellValues.{index_of, index_or_none}
use Rattle.prof_tables.specs.Rows.{frame_at, frames_of}
use Rattle.prof_tables.proofs.RowLemmas.{length-rows_of, stacks_below-push, PrefixesBelow-push}
use Rattle.prof_raw.proofs.PushLemmas.{length-push}
use Rattle.prof_tables.proofs.make.stacks_of.Goals as goal

pub frame_at-frame-requires : goal.frame_at-frame-requires
unfolding frames_of
frame_at-frame-requires c =
    let many : length c.args.frames.now ≡ length c.args.raw.now.frame_func.cells = ap length c.requires.frames ∙ length-rows_of (frame_at c.args.raw.now) (length c.args.raw.now.frame_func.cells) in
    let below : c.index-j.result < c.len-frame_count.result = c.index-j.ensures.below in
    let count : c.len-frame_count.result ≡ length c.args.raw.now.frame_func.cells = grind (arith, common_steps) in
    omega arith

pub loop-i-preserved : goal.loop-i-preserved
loop-i-preserved c =
    let prefix : c.prefix-prefix.result ≡ index_or_none (cell c.args.raw.now.stack_prefix c.loop-i.i) = grind (arith, common_steps) in
    let at : c.index-j.result ≡ index_of (cell c.args.raw.now.stack_frame c.loop-i.i) = grind (arith, common_steps) in
    let grown : c.push.new.self.items ≡ c.loop-i.rows.items ++ c.stack_after-row.result ∷ [] = c.in_ok-push.ensures.items ∙ ap (λ (r : StackRow). c.loop-i.rows.items ++ r ∷ []) c.of.ensures in
    let same : c.stack_after-row.result.prefix ≡ c.prefix-prefix.result = ap (λ (r : StackRow). r.prefix) c.stack_after-row.ensures in
    let own : IfSome c.stack_after-row.result.prefix (λ p. p < length c.loop-i.rows.items) = rw (same, c.loop-i.invariant.many) c.prefix-prefix.ensures.below in
    record {
      rows = stacks_below-push c.args.default c.args.raw.now c.loop-i.i c.index-j.result c.loop-i.rows.items _ c.args.frames.now c.stack_after-row.result c.prefix-prefix.result c.frame_at-frame.result
          c.loop-i.invariant.rows grown (grind (arith, common_steps)) prefix at c.requires.frames c.frame_at-frame.ensures;
      many = rw grown (let m = length-push c.loop-i.rows.items c.stack_after-row.result in omega arith);
      below = rw grown (PrefixesBelow-push c.loop-i.rows.items c.stack_after-row.result c.loop-i.invariant.below own);
    }
