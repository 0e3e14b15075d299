use Rattle.std.proofs.Common.{sym}
use denote.Enum.Bare.{sameb}
use Rattle.prof_raw.specs.contracts.raw.State.{the_type}
use Rattle.prof_raw.specs.declared.raw.State.TheVariants.{Absent}
use Rattle.prof_read.proofs.Standing.{there_by, common_held}
use Rattle.std.proofs.Common.{refl}
use Rattle.prof_read.proofs.building.common_strings.Goals as goal

pub returns-clause-strings : goal.returns-clause-strings
returns-clause-strings c = λ member list.
    let there = there_by (λ s. sameb the_type s Absent) c.args.list.state member list.state refl (sym c.if-eq.ensures) in
    common_held member there.0 c.fault.result c.in_ok-strings.field-0 there.1 (c.fault.ensures member list) c.in_ok-check.ensures (c.in_ok-strings.ensures member list)
