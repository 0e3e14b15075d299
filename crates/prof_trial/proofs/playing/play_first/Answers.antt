use Rattle.std.proofs.Common.{◌∙◌, [], true, Ok, Err, ap, append-nil}
use Rattle.prof_io.specs.Outside.{kept, seen}
use Rattle.prof_script.specs.Lines.{lines_of}
use Rattle.prof_script.specs.declared.playing.PlayEnd.TheVariants as play_end
use Rattle.prof_writer.proofs.Outputs.{writes_as, writes_ok, writes_stop}
use Rattle.prof_trial.specs.Firsts.{first_line}
use Rattle.prof_trial.proofs.Firsts.{starves_at, tells_at}
use Rattle.prof_trial.proofs.playing.play_first.Goals as goal

pub returns-in-Err-clause-plays : goal.returns-in-Err-clause-plays
returns-in-Err-clause-plays g c = λ held laid l sure one is lies.
    starves_at c.args.desk.now.profiles held laid l (lines_of c.as_bytes.result.now) c.args.desk.now c.play_script.new.desk (kept g.K.Counted g.K.Keeper c.args.keeper.now) (kept g.K.Counted g.K.Keeper c.play_script.new.keeper)
    (seen g.S.Counted c.args.out.now) _ _ c.args.reads.now c.play_script.new.reads _ (ap lines_of c.as_bytes.ensures.value ∙ one) (c.in-Err.ensures.plays true held laid is lies)

pub returns-clause-plays : goal.returns-clause-plays
returns-clause-plays g c = λ held laid l sure one is lies.
    tells_at c.args.desk.now.profiles held laid l (lines_of c.as_bytes.result.now) c.args.desk.now c.play_script.new.desk (kept g.K.Counted g.K.Keeper c.args.keeper.now) (kept g.K.Counted g.K.Keeper c.play_script.new.keeper)
    (seen g.S.Counted c.args.out.now) _ _ (seen g.S.Counted c.write_first.new.out) c.args.reads.now c.play_script.new.reads c.bytes.result.now tt (Err play_end.OutFault)
    (ap lines_of c.as_bytes.ensures.value ∙ one) sure c.new-reply.ensures c.bytes.ensures (c.in-Ok.ensures.plays true held laid is lies)
    (writes_as (append-nil (first_line c.bytes.result.now)) (writes_stop [] c.in-Err-write_first.ensures))

pub returns-in-Ok-write_first-clause-plays : goal.returns-in-Ok-write_first-clause-plays
returns-in-Ok-write_first-clause-plays g c = λ held laid l sure one is lies.
    tells_at c.args.desk.now.profiles held laid l (lines_of c.as_bytes.result.now) c.args.desk.now c.play_script.new.desk (kept g.K.Counted g.K.Keeper c.args.keeper.now) (kept g.K.Counted g.K.Keeper c.play_script.new.keeper)
    (seen g.S.Counted c.args.out.now) _ _ (seen g.S.Counted c.write_first.new.out) c.args.reads.now c.play_script.new.reads c.bytes.result.now tt (Ok tt)
    (ap lines_of c.as_bytes.ensures.value ∙ one) sure c.new-reply.ensures c.bytes.ensures (c.in-Ok.ensures.plays true held laid is lies) (writes_ok c.in-Ok-write_first.ensures)
