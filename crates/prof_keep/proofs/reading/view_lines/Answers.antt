use Rattle.std.proofs.Common.{◌≡◌, ◌<◌, List, length, sym, subst, arith}
use Rattle.prof_spell.proofs.Chained.{Came, came_none, came_more}
use Rattle.prof_path.specs.Views.{ViewLists}
use Rattle.prof_keep.specs.Reading.{line_chain}
use Rattle.prof_keep.proofs.LineLemmas.{line_stops, line_shorter, one_line, lines_end, lines_past}
use Rattle.prof_keep.proofs.reading.view_lines.Goals as goal

pub lines-init : goal.lines-init
lines-init c = subst (λ (s : List ViewLists). Came (line_chain c.args.form c.args.place) 0 c.args.cursor.now s 0 c.args.cursor.now) (sym c.new-views.ensures.items) (came_none (line_chain c.args.form c.args.place) 0 c.args.cursor.now)

pub returns-in-Err : goal.returns-in-Err
returns-in-Err c = line_stops c.args.form c.args.place c.requires c.lines.count c.args.cursor.now c.lines.cursor c.line.new.cursor c.lines.views.items c.in-Err.stop
    (c.goes_on.ensures.yes c.lines-test.true) (c.goes_on.ensures.wanted c.lines-test.true) c.lines.invariant c.in-Err.ensures

pub lines-smaller : goal.lines-smaller
lines-smaller c = line_shorter c.args.form c.args.place c.requires c.lines.count (c.goes_on.ensures.yes c.lines-test.true) c.lines.cursor c.line.new.cursor c.in-Ok.view c.in-Ok.ensures

pub lines-preserved : goal.lines-preserved
lines-preserved c =
    rw c.in-Ok-push.ensures.items
    (came_more (line_chain c.args.form c.args.place) 0 c.args.cursor.now c.lines.views.items c.lines.count c.lines.cursor c.line.new.cursor c.in-Ok.view c.lines.invariant
    (one_line c.args.form c.args.place c.requires c.lines.count (c.goes_on.ensures.yes c.lines-test.true) c.lines.cursor c.line.new.cursor c.in-Ok.view c.in-Ok.ensures))

pub returns-then-len-eq0 : goal.returns-then-len-eq0
returns-then-len-eq0 c =
    let none : length c.lines.cursor ≡ 0 = omega arith in
    lines_end c.args.form c.args.place c.requires c.lines.count c.args.cursor.now c.lines.cursor c.lines.views.items (c.goes_on.ensures.no c.lines-test.false) c.lines.invariant none

pub returns-else-len-eq0 : goal.returns-else-len-eq0
returns-else-len-eq0 c =
    let some : 0 < length c.lines.cursor = omega arith in
    lines_past c.args.form c.args.place c.requires c.lines.count c.args.cursor.now c.lines.cursor c.lines.views.items (c.goes_on.ensures.no c.lines-test.false) c.lines.invariant some
