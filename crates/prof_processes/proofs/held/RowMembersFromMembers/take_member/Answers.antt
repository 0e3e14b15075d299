use Rattle.std.proofs.Common.{refl, inr}
use Rattle.prof_raw.specs.declared.limits.TheConstants.{MOST_ROWS}
use Rattle.prof_schema.specs.declared.table.PlacedMember.TheVariants as member
use Rattle.prof_schema.proofs.Slots.{takes}
use Rattle.prof_schema.proofs.Tables.{placed_more}
use Rattle.prof_processes.proofs.HeldTables.{placed_at}
use Rattle.prof_processes.proofs.held.RowMembersFromMembers.take_member.Goals as goal

pub returns-in_ok-take-in-Some-clause-member : goal.returns-in_ok-take-in-Some-clause-member
returns-in_ok-take-in-Some-clause-member g c =
    let read = c.in_ok-take-in-Some.ensures.member in
    takes _ _ _ _ _ c.name.result.now _ c.name.ensures c.in-Some.ensures.some read.0 read.1
    (λ ms h. placed_at MOST_ROWS _ _ _ _ (read.2 ms) h)

pub returns-in_ok-skip_member-in-None-clause-member : goal.returns-in_ok-skip_member-in-None-clause-member
returns-in_ok-skip_member-in-None-clause-member g c =
    let read = c.in_ok-skip_member-in-None.ensures.value in
    let other = c.in-None.ensures.none in
    let old = c.args.self.now.table in
    takes _ _ _ _ _ c.name.result.now c.name.result.now c.name.ensures refl read.0 read.1
    (placed_more MOST_ROWS c.name.result.now read.0 old old (inr (other member.Schema, refl)) (inr (other member.Data, refl)))
