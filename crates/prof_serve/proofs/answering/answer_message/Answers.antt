use Rattle.std.proofs.Common.{None, true, refl, arith}
use Rattle.prof_io.specs.Outside.{kept, seen}
use Rattle.prof_machine.specs.declared.refusal.Reply.TheVariants.{NoMemory}
use Rattle.prof_request.proofs.OutcomeLemmas.{line_of}
use Rattle.prof_wire.specs.Lent.{asked_of}
use Rattle.prof_serve.specs.Errands.{no_method, no_route, request_line}
use Rattle.prof_serve.proofs.Lines.{answers_else, answers_starved}
use Rattle.prof_serve.proofs.Shorts.{untouched}
use Rattle.prof_serve.proofs.answering.answer_message.Goals as goal

pub returns-in-Err-clause-answers : goal.returns-in-Err-clause-answers
returns-in-Err-clause-answers g c = λ told held laid is lies.
    let d = c.args.desk.now in
    let k = kept g.K.Counted g.K.Keeper c.args.keeper.now in
    let session = c.in-Line.session.now in
    let command = c.in-Line.command.now in
    let line = request_line session command c.args.message.body.now in
    let goes = c.in-Line.ensures in
    answers_starved d.profiles told held laid (asked_of c.args.message) line true c.args.message.last None NoMemory d d k k (seen g.H.Counted c.args.hall.now) (seen g.H.Counted c.put_starved.new.hall)
    c.args.reads.now c.args.reads.now c.put_starved.result (session, command, goes.0, goes.1, refl) refl refl c.put_starved.ensures is refl (λ s. s) (untouched held laid (line_of line) d lies) (omega arith)

pub returns-in-NoRoute-clause-answers : goal.returns-in-NoRoute-clause-answers
returns-in-NoRoute-clause-answers g c = λ told held laid is lies.
    let d = c.args.desk.now in
    let k = kept g.K.Counted g.K.Keeper c.args.keeper.now in
    answers_else d.profiles told held laid (asked_of c.args.message) no_route d k (seen g.H.Counted c.args.hall.now) (seen g.H.Counted c.write_response.new.hall) c.args.reads.now c.write_response.result
    c.in-NoRoute.ensures tt is lies refl tt refl c.write_response.ensures

pub returns-in-NoMethod-clause-answers : goal.returns-in-NoMethod-clause-answers
returns-in-NoMethod-clause-answers g c = λ told held laid is lies.
    let d = c.args.desk.now in
    let k = kept g.K.Counted g.K.Keeper c.args.keeper.now in
    let put = c.write_response-in-NoMethod in
    answers_else d.profiles told held laid (asked_of c.args.message) (no_method c.in-NoMethod.get) d k (seen g.H.Counted c.args.hall.now) (seen g.H.Counted put.new.hall) c.args.reads.now put.result
    c.in-NoMethod.ensures tt is lies refl tt refl put.ensures
