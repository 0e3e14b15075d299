use Rattle.std.proofs.Common.{refl}
use Rattle.prof_either.proofs.Taking.{takes_part, both_named}
use Rattle.prof_either.proofs.table.BothWaysFromMembers.take_member.Goals as goal

pub returns-in_ok-take_member-in-None-clause-member : goal.returns-in_ok-take_member-in-None-clause-member
returns-in_ok-take_member-in-None-clause-member g c =
    takes_part _ g.T.FromMembers.is c.args.feed.now c.take_member.new.feed _ _ c.args.self.now.named c.take_member.new.self c.name.result.now c.name.ensures c.in_ok-take_member-in-None.ensures.member
    (λ v taken. both_named g.T.FromMembers.is g.T.NamedTable.most c.name.result.now v c.args.self.now _ refl c.in-None.ensures.none taken)
