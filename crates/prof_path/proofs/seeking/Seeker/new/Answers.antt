use Rattle.std.proofs.Common.{map, string_bytes}
use Rattle.prof_path.proofs.Known.{knows-none}
use Rattle.prof_path.proofs.seeking.Seeker.new.Goals as goal

pub returns-clause-ready : goal.returns-clause-ready
returns-clause-ready c = rw c.in_ok-nones.ensures (knows-none c.args.strings.now (map string_bytes c.in_ok-lowered_terms.field-0.items) c.count.result c.count.ensures)
