use Rattle.std.proofs.Common.{◌≡◌, ◌≤◌, ◌+◌, None, Ok, Err, true, inl, inr, refl, sym, subst, arith}
use Rattle.std.specs.Prelude.{option_copied}
use Rattle.prof_io.specs.Outside.{kept, seen}
use Rattle.prof_machine.specs.declared.refusal.Refusal.TheVariants.{BadText}
use Rattle.prof_machine.specs.declared.refusal.Reply.TheVariants.{Refused, NoMemory}
use Rattle.prof_machine.specs.Play.{Line, held_after}
use Rattle.prof_request.specs.Requests.{TellsLine}
use Rattle.prof_request.proofs.OutcomeLemmas.{line_of, tells_line, tells_one_line}
use Rattle.prof_script.specs.Readings.{line_readings}
use Rattle.prof_script.proofs.Turns.{reads_within, still_held, turn_bad, turn_of}
use Rattle.prof_script.proofs.Plays.{shown_held}
use Rattle.prof_serve.proofs.Lines.{answers_line, answers_starved, is_starved, no_fault}
use Rattle.prof_serve.proofs.Shorts.{ShortLine, short_line, untouched}
use Rattle.prof_serve.proofs.answering.answer_line.Goals as goal

pub returns-in-Ok-clause-answers : goal.returns-in-Ok-clause-answers
returns-in-Ok-clause-answers g c = λ told held laid is lies asked goes last.
    let d = c.args.desk.now in
    let e = c.answer-reply.new.self in
    let k = kept g.K.Counted g.K.Keeper c.args.keeper.now in
    let l = kept g.K.Counted g.K.Keeper c.answer-reply.new.keeper in
    let o = seen g.H.Counted c.args.hall.now in
    let p = seen g.H.Counted c.put_reply.new.hall in
    let m = c.args.reads.now in
    let n = c.answer-reply.new.reads in
    let request = c.in-Ok.request in
    let reply = c.answer-reply.result in
    let said = c.put_reply.ensures.0 in
    let thread = option_copied c.thread_of-thread.result in
    let read : line_of c.args.line.now ≡ Ok request = tells_one_line c.args.line.now (line_of c.args.line.now) (Ok request) (tells_line c.args.line.now) c.in-Ok.ensures in
    elim (is_starved reply) [
      | inl none ↦ answers_starved d.profiles told held laid asked c.args.line.now said c.args.last thread reply d e k l o p m n c.put_reply.result goes last none c.put_reply.ensures.2
          (still_held d.profiles told d e request.session k.texts l.texts held is (c.answer-reply.ensures.starved none)) (c.answer-reply.ensures.quiet (no_fault reply none)) (λ s. (c.answer-reply.ensures.sure s).1)
          (subst (λ (x : Line). ShortLine held laid x e) (sym read)
          (short_line d.profiles told held laid request reply d e k.texts l.texts k.texts is lies (c.answer-reply.ensures.starved none) c.answer-reply.ensures.layers))
          (subst (λ (x : Line). n ≤ m + line_readings held laid x) (sym read) (reads_within d.profiles told d k.texts held laid request m n is lies c.answer-reply.ensures.reads))
      | inr some ↦
          let turn = turn_of d.profiles told d e k l held laid request reply m n is lies some c.answer-reply.ensures.step c.answer-reply.ensures.failed
          c.answer-reply.ensures.quiet c.answer-reply.ensures.sure c.answer-reply.ensures.layers c.answer-reply.ensures.reads in
          answers_line d.profiles told held laid asked c.args.line.now (Ok request) reply said c.args.last thread d e k l o p m n c.put_reply.result goes last c.put_reply.ensures.1 c.put_reply.ensures.2
          read turn
          (shown_held d.profiles told e l.texts (held_after d.profiles held (Ok request) turn.fate) request c.as_str.result.now thread turn.state c.as_str.ensures c.thread_of-thread.ensures)
    ]

pub returns-in-Err-BadText-clause-answers : goal.returns-in-Err-BadText-clause-answers
returns-in-Err-BadText-clause-answers g c = λ told held laid is lies asked goes last.
    let d = c.args.desk.now in
    let k = kept g.K.Counted g.K.Keeper c.args.keeper.now in
    let at = c.in-Err-BadText.at in
    let line = c.args.line.now in
    let put = c.put_reply-in-Err-BadText in
    let none : TellsLine line (Err at) = rw c.in-Err-BadText.field-0-is at c.in-Err-BadText.ensures in
    answers_line d.profiles told held laid asked line (Err at) (Refused (BadText at)) put.ensures.0 c.args.last None d d k k (seen g.H.Counted c.args.hall.now) (seen g.H.Counted put.new.hall)
    c.args.reads.now c.args.reads.now put.result goes last put.ensures.1 put.ensures.2 (tells_one_line line (line_of line) (Err at) (tells_line line) none)
    (turn_bad d.profiles told d k held laid (Err at) at c.args.reads.now is lies refl) refl

pub returns-in-Err-NoMemory-clause-answers : goal.returns-in-Err-NoMemory-clause-answers
returns-in-Err-NoMemory-clause-answers g c = λ told held laid is lies asked goes last.
    let d = c.args.desk.now in
    let k = kept g.K.Counted g.K.Keeper c.args.keeper.now in
    answers_starved d.profiles told held laid asked c.args.line.now true c.args.last None NoMemory d d k k (seen g.H.Counted c.args.hall.now) (seen g.H.Counted c.put_starved.new.hall)
    c.args.reads.now c.args.reads.now c.put_starved.result goes last refl c.put_starved.ensures is refl (λ s. s) (untouched held laid (line_of c.args.line.now) d lies) (omega arith)
