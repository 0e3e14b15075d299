use Rattle.std.proofs.Common.{refl, arith}
use Rattle.prof_io.specs.Outside.{seen}
use Rattle.prof_desk.specs.declared.words.Order.TheVariants.{Gen}
use Rattle.prof_desk.specs.Ran.{outside}
use Rattle.prof_desk.proofs.Carrying.{answers_alone}
use Rattle.prof_desk.proofs.desk.gen_of.Goals as goal

pub returns : goal.returns
returns g c =
    let old = outside g.F.Counted g.S.Counted c.args.files.now c.args.out.now c.args.reads.now in
    rw (c.ended.ensures, c.status_of.ensures) (answers_alone (Gen c.args.number) old (seen g.S.Counted c.write_generated.new.out) c.args.reads.now c.write_generated.result (omega arith) refl refl c.write_generated.ensures tt)
