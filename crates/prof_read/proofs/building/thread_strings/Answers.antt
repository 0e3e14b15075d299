use Rattle.std.proofs.Common.{refl, sym}
use denote.Enum.Bare.{sameb}
use Rattle.prof_raw.specs.contracts.raw.State.{the_type}
use Rattle.prof_raw.specs.declared.raw.State.TheVariants.{Absent}
use Rattle.prof_read.proofs.Standing.{absent_by, common_counts}
use Rattle.prof_read.proofs.building.thread_strings.Goals as goal

pub returns-in_ok-strings-in-Some : goal.returns-in_ok-strings-in-Some
returns-in_ok-strings-in-Some c = λ texts member e few list.
    common_counts c.args.common.now c.in-Some.strings c.in_ok-strings-in-Some.strings texts member c.in-Some.is c.in_ok-strings-in-Some.ensures.cases e few
    (absent_by (λ s. sameb the_type s Absent) c.args.own.state member list.state refl refl (sym c.if-eq.ensures))
