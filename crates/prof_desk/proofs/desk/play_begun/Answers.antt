use Rattle.std.proofs.Common.{◌∙◌}
use Rattle.prof_io.specs.Outside.{kept, seen}
use Rattle.prof_desk.proofs.Scripts.{fails_to_begin, plays_begun, starves_to_begin}
use Rattle.prof_desk.proofs.desk.play_begun.Goals as goal

pub returns-in-Ok-clause-ends : goal.returns-in-Ok-clause-ends
returns-in-Ok-clause-ends g c = λ p digest form name file bare.
    let k = kept g.K.Counted g.K.Keeper c.args.keeper.now in
    let m = kept g.K.Counted g.K.Keeper c.begin.new.self in
    let l = kept g.K.Counted g.K.Keeper c.play_script.new.keeper in
    rw c.status_of.ensures (plays_begun p digest c.args.script.now form name file c.args.desk.now c.play_script.new.desk k m l (seen g.S.Counted c.args.out.now) (seen g.S.Counted c.play_script.new.out)
    c.args.reads.now c.play_script.new.reads c.play_script.result bare (g.met.K.Keeper.nothing_nameless c.args.keeper.now)
    (record {
      texts = c.in-Ok.ensures.ok;
      calm = c.in-Ok.ensures.kept (λ f. cc);
      returned = c.play_script.ensures.returned ∙ c.in-Ok.ensures.returned;
      later = c.play_script.ensures.later;
      sure = λ s. (c.in-Ok.ensures.sure s).1;
    }) c.play_script.ensures.plays)

pub returns-in-Err-Failed-clause-ends : goal.returns-in-Err-Failed-clause-ends
returns-in-Err-Failed-clause-ends g c = λ p digest form name file bare.
    let e = c.in-Err-Failed.ensures in
    fails_to_begin p digest c.args.script.now form name file (kept g.K.Counted g.K.Keeper c.args.keeper.now) (kept g.K.Counted g.K.Keeper c.begin.new.self) (seen g.S.Counted c.args.out.now)
    c.args.reads.now e.called e.returned (e.failed (cc c.in-Err-Failed.field-0-is)) e.later e.err (λ s. (e.sure s).0 (cc c.in-Err-Failed.field-0-is))

pub returns-in-Err-NoMemory-clause-ends : goal.returns-in-Err-NoMemory-clause-ends
returns-in-Err-NoMemory-clause-ends g c = λ p digest form name file bare.
    starves_to_begin p digest c.args.script.now form name file (kept g.K.Counted g.K.Keeper c.args.keeper.now) (kept g.K.Counted g.K.Keeper c.begin.new.self) (seen g.S.Counted c.args.out.now)
    c.args.reads.now c.in-Err-NoMemory.ensures.later c.in-Err-NoMemory.ensures.err
