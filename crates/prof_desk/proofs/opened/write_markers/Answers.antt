use Rattle.std.proofs.Common.{[], refl, arith, subst}
use Rattle.prof_io.specs.Outside.{seen}
use Rattle.prof_writer.proofs.Outputs.{writes_none}
use Rattle.prof_desk.specs.Output.{markers_replies}
use Rattle.prof_desk.specs.Playing.{Leaves, status_of}
use Rattle.prof_desk.proofs.FirstReplies.{readings_markers, replies_markers}
use Rattle.prof_desk.proofs.opened.write_markers.Goals as goal

pub returns-in_default : goal.returns-in_default
returns-in_default g c = λ p digest bare.
    (([], markers_replies p.threads c.args.thread c.args.search.now, refl, writes_none (seen g.S.Counted c.args.out.now)), omega arith)

pub returns : goal.returns
returns g c = λ p digest bare.
    let both = c.play_opened.ensures p digest bare in
    let none = readings_markers p digest c.args.thread c.in-Ok.search in
    let search = c.in-Ok.ensures in (
      subst (λ text. Leaves (seen g.S.Counted c.args.out.now) (seen g.S.Counted c.play_opened.new.out) (status_of c.play_opened.result) (markers_replies p.threads c.args.thread text)) search
          (subst (λ text. Leaves (seen g.S.Counted c.args.out.now) (seen g.S.Counted c.play_opened.new.out) (status_of c.play_opened.result) text) (replies_markers p digest c.args.thread c.in-Ok.search) both.0),
      omega (arith, both.1, none),
    )
