use Rattle.std.proofs.Common.{refl}
use Rattle.prof_io.specs.Outside.{kept, seen}
use Rattle.prof_desk.specs.Ran.{outside}
use Rattle.prof_desk.proofs.Carrying.{of_order, of_refused, ran_out, refused_by, refused_none}
use Rattle.prof_desk.proofs.desk.run.Goals as goal

pub returns-in-Err-clause-ran : goal.returns-in-Err-clause-ran
returns-in-Err-clause-ran g c =
    let telling = c.refuse.ensures.told in
    of_refused _ c.in-Err.refusal c.refuse.result _ (refused_none _ c.in-Err.refusal c.in-Err.ensures) c.refuse.ensures.status
    (λ is order. ran_out order (outside g.F.Counted g.S.Counted c.args.files.now c.args.out.now c.args.reads.now) (kept g.K.Counted g.K.Keeper c.args.keeper.now)
    (seen g.H.Counted c.args.hall.now) (seen g.E.Counted c.args.err.now) (seen g.E.Counted c.refuse.new.err) c.refuse.result telling.0 is telling.1)

pub returns-in-Err-clause-refused : goal.returns-in-Err-clause-refused
returns-in-Err-clause-refused g c = λ none. refused_by c.in-Err.refusal c.refuse.result c.refuse.ensures.status

pub returns-clause-ran : goal.returns-clause-ran
returns-clause-ran g c = of_order _ _ _ c.in-Ok.ensures (record {
  end = c.carry_out-end.result;
  is = refl;
  carried = c.carry_out-end.ensures.carried;
  telling = c.tell_end.result;
  tells = c.tell_end.ensures;
})
