use Rattle.std.proofs.Common.{refl, ap, inl, inr}
use Rattle.std.specs.Prelude.{codes}
use Rattle.prof_members.specs.Names.{member_name}
use Rattle.prof_members.proofs.SharedSlots.{shared_more, shared_named}
use Rattle.prof_members.proofs.shared.SharedTables.take.Goals as goal

pub returns-in_ok-self-in-Strings-clause-member : goal.returns-in_ok-self-in-Strings-clause-member
returns-in_ok-self-in-Strings-clause-member g c =
    let read = c.in_ok-self-in-Strings.ensures.list in
    (read.0, read.1, shared_named (member_name c.args.member) (codes "stringArray") read.0 _ _ (ap member_name c.in-Strings.is) (shared_more (codes "stringArray") read.0 _ _ (inl (refl, read.2)) (inr (refl, refl)) (inr (refl, refl)) (inr (refl, refl)) (inr (refl, refl))))

pub returns-in_ok-self-in-Resources-clause-member : goal.returns-in_ok-self-in-Resources-clause-member
returns-in_ok-self-in-Resources-clause-member g c =
    let read = c.in_ok-self-in-Resources.ensures.value in
    (read.0, read.1, shared_named (member_name c.args.member) (codes "resourceTable") read.0 _ _ (ap member_name c.in-Resources.is) (shared_more (codes "resourceTable") read.0 _ _ (inr (refl, refl)) (inl (refl, read.2)) (inr (refl, refl)) (inr (refl, refl)) (inr (refl, refl))))

pub returns-in_ok-self-in-Funcs-clause-member : goal.returns-in_ok-self-in-Funcs-clause-member
returns-in_ok-self-in-Funcs-clause-member g c =
    let read = c.in_ok-self-in-Funcs.ensures.value in
    (read.0, read.1, shared_named (member_name c.args.member) (codes "funcTable") read.0 _ _ (ap member_name c.in-Funcs.is) (shared_more (codes "funcTable") read.0 _ _ (inr (refl, refl)) (inr (refl, refl)) (inl (refl, read.2)) (inr (refl, refl)) (inr (refl, refl))))

pub returns-in_ok-self-in-Frames-clause-member : goal.returns-in_ok-self-in-Frames-clause-member
returns-in_ok-self-in-Frames-clause-member g c =
    let read = c.in_ok-self-in-Frames.ensures.value in
    (read.0, read.1, shared_named (member_name c.args.member) (codes "frameTable") read.0 _ _ (ap member_name c.in-Frames.is) (shared_more (codes "frameTable") read.0 _ _ (inr (refl, refl)) (inr (refl, refl)) (inr (refl, refl)) (inl (refl, read.2)) (inr (refl, refl))))

pub returns-in_ok-self-in-Stacks-clause-member : goal.returns-in_ok-self-in-Stacks-clause-member
returns-in_ok-self-in-Stacks-clause-member g c =
    let read = c.in_ok-self-in-Stacks.ensures.value in
    (read.0, read.1, shared_named (member_name c.args.member) (codes "stackTable") read.0 _ _ (ap member_name c.in-Stacks.is) (shared_more (codes "stackTable") read.0 _ _ (inr (refl, refl)) (inr (refl, refl)) (inr (refl, refl)) (inr (refl, refl)) (inl (refl, read.2))))
