use Rattle.std.proofs.Common.{ℕ, List, map, None, refl, sym, ap, subst, arith, Ok, Err}
use Rattle.prof_io.specs.Outside.{kept, seen}
use Rattle.prof_machine.specs.declared.refusal.Refusal.TheVariants.{BadText}
use Rattle.prof_machine.specs.declared.refusal.Reply.TheVariants.{Refused}
use Rattle.prof_machine.specs.Play.{Line}
use Rattle.prof_request.specs.Requests.{TellsLine}
use Rattle.prof_request.proofs.OutcomeLemmas.{line_of}
use Rattle.prof_reply.specs.Replies.{reply_bytes}
use Rattle.prof_writer.proofs.Outputs.{writes_as}
use Rattle.prof_script.specs.declared.playing.PlayEnd.TheVariants as play_end
use Rattle.prof_script.specs.Playing.{Plays, stage}
use Rattle.prof_script.proofs.Turns.{turn_bad}
use Rattle.prof_script.proofs.Plays.{no_line, one_line, plays_line, plays_nothing, plays_starved, read_line}
use Rattle.prof_script.proofs.playing.play_line.Goals as goal

pub returns-then-is_empty-clause-plays : goal.returns-then-is_empty-clause-plays
returns-then-is_empty-clause-plays g c = λ told held laid is lies.
    let d = c.args.desk.now in
    let s = stage g.K.Counted g.K.Keeper g.S.Counted d c.args.keeper.now c.args.out.now c.args.reads.now in
    subst (λ (xs : List (List ℕ)). Plays d.profiles told held laid (map line_of xs) s s (Ok tt)) (sym (no_line c.args.line.now c.is_empty.result c.if-is_empty.true c.is_empty.ensures))
    (plays_nothing d.profiles told held laid s tt is lies)

pub returns-in-Ok-clause-plays : goal.returns-in-Ok-clause-plays
returns-in-Ok-clause-plays g c = λ told held laid is lies.
    let d = c.args.desk.now in
    let old = stage g.K.Counted g.K.Keeper g.S.Counted d c.args.keeper.now c.args.out.now c.args.reads.now in
    let new = stage g.K.Counted g.K.Keeper g.S.Counted c.play_request.new.desk c.play_request.new.keeper c.play_request.new.out c.play_request.new.reads in
    subst (λ (xs : List Line). Plays d.profiles told held laid xs old new c.play_request.result)
    (sym (read_line c.args.line.now c.is_empty.result (Ok c.in-Ok.request) c.if-is_empty.false c.is_empty.ensures c.in-Ok.ensures))
    (c.play_request.ensures.plays told held laid is lies)

pub returns-in-Err-BadText-clause-plays : goal.returns-in-Err-BadText-clause-plays
returns-in-Err-BadText-clause-plays g c = λ told held laid is lies.
    let d = c.args.desk.now in
    let k = kept g.K.Counted g.K.Keeper c.args.keeper.now in
    let at = c.in-Err-BadText.at in
    let tells : TellsLine c.args.line.now (Err at) = rw c.in-Err-BadText.field-0-is at c.in-Err-BadText.ensures in
    let old = stage g.K.Counted g.K.Keeper g.S.Counted d c.args.keeper.now c.args.out.now c.args.reads.now in
    let new = stage g.K.Counted g.K.Keeper g.S.Counted d c.args.keeper.now c.put_reply.new.out c.args.reads.now in
    subst (λ (xs : List Line). Plays d.profiles told held laid xs old new c.put_reply.result)
    (sym (read_line c.args.line.now c.is_empty.result (Err at) c.if-is_empty.false c.is_empty.ensures tells))
    (plays_line d.profiles told held laid (Err at) (Refused (BadText at)) None d d k k (seen g.S.Counted c.args.out.now) (seen g.S.Counted c.put_reply.new.out) c.args.reads.now c.args.reads.now c.put_reply.result
    (turn_bad d.profiles told d k held laid (Err at) at c.args.reads.now is lies refl) refl c.put_reply.ensures.unstarved
    (writes_as (ap (λ n. reply_bytes None (Refused (BadText n))) c.in-Err-BadText.at-is) c.put_reply.ensures.written))

pub returns-in-Err-NoMemory-clause-plays : goal.returns-in-Err-NoMemory-clause-plays
returns-in-Err-NoMemory-clause-plays g c = λ told held laid is lies.
    let d = c.args.desk.now in
    let k = kept g.K.Counted g.K.Keeper c.args.keeper.now in
    let s = stage g.K.Counted g.K.Keeper g.S.Counted d c.args.keeper.now c.args.out.now c.args.reads.now in
    subst (λ (xs : List (List ℕ)). Plays d.profiles told held laid (map line_of xs) s s (Err play_end.NoMemory)) (sym (one_line c.args.line.now c.is_empty.result c.if-is_empty.false c.is_empty.ensures))
    (plays_starved d.profiles told held laid (line_of c.args.line.now) d d k k (seen g.S.Counted c.args.out.now) c.args.reads.now c.args.reads.now is refl (λ h. h) (omega arith))
