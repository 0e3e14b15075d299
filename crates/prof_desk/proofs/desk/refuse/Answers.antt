use Rattle.prof_desk.proofs.desk.refuse.Goals as goal

pub returns-clause-told : goal.returns-clause-told
returns-clause-told g c = (c.tell.result, c.tell.ensures)
