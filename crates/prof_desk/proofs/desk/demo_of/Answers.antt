use Rattle.std.proofs.Common.{refl}
use Rattle.prof_io.specs.Outside.{seen}
use Rattle.prof_trial.specs.Trial.{trial_text}
use Rattle.prof_desk.specs.declared.words.Order.TheVariants.{Demo}
use Rattle.prof_desk.specs.Ran.{outside}
use Rattle.prof_desk.proofs.Carrying.{answers_alone}
use Rattle.prof_desk.proofs.Trials.{leaves_puts}
use Rattle.prof_desk.proofs.desk.demo_of.Goals as goal

pub returns : goal.returns
returns g c =
    let old = outside g.F.Counted g.S.Counted c.args.files.now c.args.out.now c.args.reads.now in
    let out = seen g.S.Counted c.play_trial.new.out in
    rw (c.ended.ensures, c.status_of.ensures) (answers_alone (Demo c.args.number) old out c.play_trial.new.reads c.play_trial.result c.play_trial.ensures.readings refl refl
    (leaves_puts old.out out (trial_text c.args.number) c.play_trial.result c.play_trial.ensures.written) tt)
