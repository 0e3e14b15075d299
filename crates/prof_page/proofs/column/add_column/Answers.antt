use Rattle.std.proofs.Common.{◌≤◌, ◌<◌, ◌+◌, length, drop, ap, sym, arith}
use Rattle.std.specs.List.{join_with_byte}
use Rattle.std.proofs.lemmas.List.{take_all}
use Rattle.prof_page.proofs.Joined.{behind, joined_at, joined_more}
use Rattle.prof_page.proofs.Pages.{gathers_none, gathers_ok, gathers_on, gathers_same, gathers_stopped}
use Rattle.prof_page.proofs.column.add_column.Goals as goal

pub loop-row-init : goal.loop-row-init
loop-row-init g c = gathers_none _ tt _

pub returns-in_err-add_cell : goal.returns-in_err-add_cell
returns-in_err-add_cell g c =
    let cells = g.C.Column.cells c.args.column.now in
    let below : c.loop-row.row < length cells = omega arith in
    gathers_same _ _ _ _ _ _ _
    (gathers_on _ _ _ tt _ _ _ _ _ _ c.loop-row.invariant
    (gathers_stopped _ _ _ _ _ _ (behind (drop (c.loop-row.row + 1) cells)) _ _ c.from_residual.ensures.0 c.in_err-add_cell.ensures))
    (sym (joined_at cells c.loop-row.row below))

pub loop-row-preserved : goal.loop-row-preserved
loop-row-preserved g c =
    let cells = g.C.Column.cells c.args.column.now in
    let below : c.loop-row.row < length cells = omega arith in
    gathers_same _ _ _ _ _ _ _
    (gathers_on _ _ _ tt _ _ _ _ _ _ c.loop-row.invariant (gathers_ok _ _ _ _ _ _ _ c.in_ok-add_cell.ensures))
    (sym (joined_more cells c.loop-row.row below))

pub returns : goal.returns
returns g c =
    let cells = g.C.Column.cells c.args.column.now in
    let all : length cells ≤ c.loop-row.row = omega arith in
    gathers_same _ _ _ _ _ _ _ (gathers_ok _ _ tt _ _ _ _ c.loop-row.invariant) (ap (join_with_byte 44) (take_all c.loop-row.row cells all))
