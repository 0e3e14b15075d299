use Rattle.std.proofs.Common.{◌≡◌, ◌∙◌, ◌∷◌, [], List, ◌+◌, ◌++◌, map, drop, ap, sym, subst, refl, true, Ok, Err, append-nil, append_assoc, arith}
use Rattle.std.specs.Prelude.{⊤, Result}
use Rattle.prof_machine.specs.Play.{Line}
use Rattle.prof_request.proofs.OutcomeLemmas.{line_of}
use Rattle.prof_script.specs.declared.playing.PlayEnd.{PlayEnd}
use Rattle.prof_script.specs.Playing.{IsHeld, stage}
use Rattle.prof_script.proofs.Plays.{same_err}
use Rattle.prof_trial.specs.Trial.{PlaysFirsts, asked, trial_lines}
use Rattle.prof_trial.proofs.Lines.{all_left, firsts_none, firsts_stop, firsts_then, from_place, none_left, one_line}
use Rattle.prof_trial.proofs.playing.play_lines.Goals as goal

pub loop-place-init : goal.loop-place-init
loop-place-init g c = record {
  plays = λ held laid sure is lies.
      ([], all_left, firsts_none c.args.desk.now.profiles held laid (stage g.K.Counted g.K.Keeper g.S.Counted c.args.desk.now c.args.keeper.now c.args.out.now c.args.reads.now) is lies);
  profiles = refl;
  sure = λ s. s;
}

pub returns-in_err-play_first : goal.returns-in_err-play_first
returns-in_err-play_first g c = λ held laid sure is lies.
    let ps = c.args.desk.now.profiles in
    let inv = c.loop-place.invariant in
    let so = inv.plays held laid sure is lies in
    let end = c.in_err-play_first.field-0.0 in
    let same : c.from_residual.result ≡ Err end = same_err c.from_residual.result end c.from_residual.ensures.1 in
    let line = c.line_at.result.now in
    let behind = map line_of (drop (c.loop-place.place + 1) trial_lines) in
    let one = line_of line ∷ [] in
    let old = stage g.K.Counted g.K.Keeper g.S.Counted c.args.desk.now c.args.keeper.now c.args.out.now c.args.reads.now in
    let mid = stage g.K.Counted g.K.Keeper g.S.Counted c.loop-place.desk c.loop-place.keeper c.loop-place.out c.loop-place.reads in
    let new = stage g.K.Counted g.K.Keeper g.S.Counted c.play_first.new.desk c.play_first.new.keeper c.play_first.new.out c.play_first.new.reads in
    let all : asked ≡ (so.0 ++ one) ++ behind =
    so.1 ∙ ap (λ ls. so.0 ++ map line_of ls) (from_place trial_lines c.loop-place.place line c.line_at.ensures) ∙ sym (append_assoc so.0 one behind) in
    subst (λ (r : Result ⊤ PlayEnd). PlaysFirsts ps held laid asked old new r) (sym same)
    (subst (λ (ls : List Line). PlaysFirsts ps held laid ls old new (Err end)) (sym all)
    (firsts_stop ps held laid (so.0 ++ one) behind old new end
    (firsts_then ps held laid so.0 one old mid new (Err end) so.2
    (λ now lays isd lie. subst (λ p. PlaysFirsts p now lays one mid new (Err end)) isd.known
    (c.in_err-play_first.ensures.plays now lays (line_of line) (inv.sure sure) (one_line c.loop-place.place line c.line_at.ensures)
    (subst (λ p. IsHeld p true c.loop-place.desk (g.K.Keeper.texts c.loop-place.keeper) now) (sym isd.known) isd) lie)))))

pub loop-place-preserved : goal.loop-place-preserved
loop-place-preserved g c =
    let ps = c.args.desk.now.profiles in
    let inv = c.loop-place.invariant in
    let line = c.line_at.result.now in
    let behind = map line_of (drop (c.loop-place.place + 1) trial_lines) in
    let one = line_of line ∷ [] in
    let old = stage g.K.Counted g.K.Keeper g.S.Counted c.args.desk.now c.args.keeper.now c.args.out.now c.args.reads.now in
    let mid = stage g.K.Counted g.K.Keeper g.S.Counted c.loop-place.desk c.loop-place.keeper c.loop-place.out c.loop-place.reads in
    let new = stage g.K.Counted g.K.Keeper g.S.Counted c.play_first.new.desk c.play_first.new.keeper c.play_first.new.out c.play_first.new.reads in
    record {
      plays = λ held laid sure is lies.
          let so = inv.plays held laid sure is lies in (
            so.0 ++ one,
            so.1 ∙ ap (λ ls. so.0 ++ map line_of ls) (from_place trial_lines c.loop-place.place line c.line_at.ensures) ∙ sym (append_assoc so.0 one behind),
            firsts_then ps held laid so.0 one old mid new (Ok tt) so.2
                (λ now lays isd lie. subst (λ p. PlaysFirsts p now lays one mid new (Ok tt)) isd.known
                (c.in_ok-play_first.ensures.plays now lays (line_of line) (inv.sure sure) (one_line c.loop-place.place line c.line_at.ensures)
                (subst (λ p. IsHeld p true c.loop-place.desk (g.K.Keeper.texts c.loop-place.keeper) now) (sym isd.known) isd) lie)),
          );
      profiles = c.in_ok-play_first.ensures.profiles ∙ inv.profiles;
      sure = λ s. c.in_ok-play_first.ensures.sure (inv.sure s);
    }

pub returns : goal.returns
returns g c = λ held laid sure is lies.
    let so = c.loop-place.invariant.plays held laid sure is lies in
    let old = stage g.K.Counted g.K.Keeper g.S.Counted c.args.desk.now c.args.keeper.now c.args.out.now c.args.reads.now in
    let now = stage g.K.Counted g.K.Keeper g.S.Counted c.loop-place.desk c.loop-place.keeper c.loop-place.out c.loop-place.reads in
    subst (λ (ls : List Line). PlaysFirsts c.args.desk.now.profiles held laid ls old now (Ok tt)) (sym (so.1 ∙ ap (λ l. so.0 ++ l) (none_left c.loop-place.place (omega (arith, c.loop-place-test.false))) ∙ append-nil so.0)) so.2
