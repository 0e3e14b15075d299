use Rattle.std.proofs.Common.{◌≢◌, refl, Ok}
use Rattle.std.specs.Prelude.{option_copied}
use Rattle.prof_io.specs.Outside.{kept, seen}
use Rattle.prof_machine.specs.declared.refusal.Reply.TheVariants.{NoMemory}
use Rattle.prof_machine.specs.Play.{held_after}
use Rattle.prof_script.proofs.Turns.{profiles_stay, reads_within, still_held, turn_of}
use Rattle.prof_script.proofs.Plays.{plays_line, plays_starved, shown_held}
use Rattle.prof_script.proofs.playing.play_request.Goals as goal

pub returns-in-NoMemory-clause-plays : goal.returns-in-NoMemory-clause-plays
returns-in-NoMemory-clause-plays g c = λ told held laid is lies.
    let d = c.args.desk.now in
    let k = kept g.K.Counted g.K.Keeper c.args.keeper.now in
    let l = kept g.K.Counted g.K.Keeper c.answer.new.keeper in
    plays_starved d.profiles told held laid (Ok c.args.request.now) d c.answer.new.self k l (seen g.S.Counted c.args.out.now) c.args.reads.now c.answer.new.reads
    (still_held d.profiles told d c.answer.new.self c.args.request.now.session k.texts l.texts held is (c.in-NoMemory.ensures.starved refl))
    (c.in-NoMemory.ensures.quiet (λ e. cc))
    (λ s. (c.in-NoMemory.ensures.sure s).1)
    (reads_within d.profiles told d k.texts held laid c.args.request.now c.args.reads.now c.answer.new.reads is lies c.in-NoMemory.ensures.reads)

pub returns-in_default : goal.returns-in_default
returns-in_default g c =
    let d = c.args.desk.now in
    let e = c.answer.new.self in
    let k = kept g.K.Counted g.K.Keeper c.args.keeper.now in
    let l = kept g.K.Counted g.K.Keeper c.answer.new.keeper in
    let some : c.answer.result ≢ NoMemory = c.in_default.not-NoMemory in
    let thread = option_copied c.thread_of.result in
    record {
      plays = λ told held laid is lies.
          let turn = turn_of d.profiles told d e k l held laid c.args.request.now c.answer.result c.args.reads.now c.answer.new.reads is lies some c.answer.ensures.step c.answer.ensures.failed
          c.answer.ensures.quiet c.answer.ensures.sure c.answer.ensures.layers c.answer.ensures.reads in
          plays_line d.profiles told held laid (Ok c.args.request.now) c.answer.result thread d e k l (seen g.S.Counted c.args.out.now) (seen g.S.Counted c.put_reply.new.out) c.args.reads.now c.answer.new.reads c.put_reply.result
          turn (shown_held d.profiles told e l.texts (held_after d.profiles held (Ok c.args.request.now) turn.fate) c.args.request.now c.as_str.result.now thread turn.state c.as_str.ensures c.thread_of.ensures)
          c.put_reply.ensures.unstarved c.put_reply.ensures.written;
      profiles = profiles_stay d e k l c.args.request.now c.answer.result some c.answer.ensures.step c.answer.ensures.failed;
      called = c.answer.ensures.called;
      returned = c.answer.ensures.returned;
      later = c.answer.ensures.later;
      sure = λ s. (c.answer.ensures.sure s).1;
    }
