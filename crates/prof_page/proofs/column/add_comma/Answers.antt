use Rattle.prof_page.proofs.Pages.{gathers_none}
use Rattle.prof_page.proofs.column.add_comma.Goals as goal

pub returns-then-is_due : goal.returns-then-is_due
returns-then-is_due g c = rw c.if-is_due.true c.add_text.ensures

pub returns-else-is_due : goal.returns-else-is_due
returns-else-is_due g c = rw c.if-is_due.false (gathers_none _ tt _)
