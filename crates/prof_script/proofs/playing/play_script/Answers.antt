use Rattle.std.proofs.Common.{◌≡◌, ◌∙◌, ◌++◌, ◌∷◌, [], List, ℕ, ◌+◌, map, drop, ap, true, Bool, length, ◌==◌, refl, sym, subst, arith, Ok, Err, append-nil, append_assoc}
use Rattle.std.specs.Prelude.{⊤, Result}
use Rattle.std.proofs.lemmas.Bool.Decides.{Decides-eqb}
use Rattle.std.proofs.lemmas.List.{map-append}
use Rattle.prof_request.proofs.OutcomeLemmas.{line_of}
use Rattle.prof_machine.specs.Play.{Line}
use Rattle.prof_script.specs.declared.playing.PlayEnd.{PlayEnd}
use Rattle.prof_script.specs.Lines.{lines, lines_of, some_line}
use Rattle.prof_script.specs.Playing.{IsHeld, Plays, stage}
use Rattle.prof_script.proofs.Plays.{plays_cut, plays_nothing, plays_on, same_err}
use Rattle.prof_script.proofs.playing.play_script.Goals as goal

-- the lines of a text are its first one and those behind it
cut : (text line behind : List ℕ) → lines text ≡ some_line line ++ lines behind → lines_of text ≡ map line_of (some_line line) ++ lines_of behind
cut text line behind e = ap (map line_of) e ∙ map-append line_of (some_line line) (lines behind)

-- no text has no lines
no_lines : (text : List ℕ) (b : Bool) → b ≡ true → b ≡ (length text == 0) → lines_of text ≡ []
no_lines [] b t e = refl
no_lines (x ∷ text) b t e = let none : length (x ∷ text) ≡ 0 = (Decides-eqb (length (x ∷ text)) 0).0 (sym e ∙ t) in absurd (omega arith)

pub loop-rest-init : goal.loop-rest-init
loop-rest-init g c = record {
  plays = λ told held laid is lies.
      ([], refl, plays_nothing c.args.desk.now.profiles told held laid (stage g.K.Counted g.K.Keeper g.S.Counted c.args.desk.now c.args.keeper.now c.args.out.now c.args.reads.now) tt is lies);
  profiles = refl;
  called = refl;
  returned = refl;
  later = omega arith;
  sure = λ s. s;
}

pub returns-in_err-play_line : goal.returns-in_err-play_line
returns-in_err-play_line g c =
    let ps = c.args.desk.now.profiles in
    let inv = c.loop-rest.invariant in
    let end = c.in_err-play_line.field-0.0 in
    let same : c.from_residual.result ≡ Err end = same_err c.from_residual.result end c.from_residual.ensures.1 in
    let line = c.front-line.result.now in
    let behind = drop (c.line_len-len.result + 1) c.loop-rest.rest.now in
    let old = stage g.K.Counted g.K.Keeper g.S.Counted c.args.desk.now c.args.keeper.now c.args.out.now c.args.reads.now in
    let mid = stage g.K.Counted g.K.Keeper g.S.Counted c.loop-rest.desk c.loop-rest.keeper c.loop-rest.out c.loop-rest.reads in
    let new = stage g.K.Counted g.K.Keeper g.S.Counted c.play_line.new.desk c.play_line.new.keeper c.play_line.new.out c.play_line.new.reads in
    let split : lines_of c.loop-rest.rest.now ≡ map line_of (some_line line) ++ lines_of behind =
    cut c.loop-rest.rest.now line behind (c.line_len-len.ensures.lines ∙ ap (λ l. some_line l ++ lines behind) (sym c.front-line.ensures)) in
    record {
      plays = λ told held laid is lies.
          let so = inv.plays told held laid is lies in
          let all : lines_of c.args.script.now ≡ (so.0 ++ map line_of (some_line line)) ++ lines_of behind =
          so.1 ∙ ap (λ l. so.0 ++ l) split ∙ sym (append_assoc so.0 (map line_of (some_line line)) (lines_of behind)) in
          subst (λ (r : Result ⊤ PlayEnd). Plays ps told held laid (lines_of c.args.script.now) old new r) (sym same)
          (subst (λ (ls : List Line). Plays ps told held laid ls old new (Err end)) (sym all)
          (plays_cut ps told held laid (so.0 ++ map line_of (some_line line)) (lines_of behind) old new end
          (plays_on ps told held laid so.0 (map line_of (some_line line)) old mid new tt (Err end) so.2
          (λ now lays isd lie. subst (λ p. Plays p told now lays (map line_of (some_line line)) mid new (Err end)) isd.known
          (c.in_err-play_line.ensures.plays told now lays (subst (λ p. IsHeld p told c.loop-rest.desk (g.K.Keeper.texts c.loop-rest.keeper) now) (sym isd.known) isd) lie)))));
      profiles = c.in_err-play_line.ensures.profiles ∙ inv.profiles;
      called = c.in_err-play_line.ensures.called ∙ inv.called;
      returned = c.in_err-play_line.ensures.returned ∙ inv.returned;
      later = omega (arith, c.in_err-play_line.ensures.later, inv.later);
      sure = λ s. c.in_err-play_line.ensures.sure (inv.sure s);
    }

pub loop-rest-preserved : goal.loop-rest-preserved
loop-rest-preserved g c =
    let ps = c.args.desk.now.profiles in
    let inv = c.loop-rest.invariant in
    let line = c.front-line.result.now in
    let behind = drop (c.line_len-len.result + 1) c.loop-rest.rest.now in
    let old = stage g.K.Counted g.K.Keeper g.S.Counted c.args.desk.now c.args.keeper.now c.args.out.now c.args.reads.now in
    let mid = stage g.K.Counted g.K.Keeper g.S.Counted c.loop-rest.desk c.loop-rest.keeper c.loop-rest.out c.loop-rest.reads in
    let new = stage g.K.Counted g.K.Keeper g.S.Counted c.play_line.new.desk c.play_line.new.keeper c.play_line.new.out c.play_line.new.reads in
    let split : lines_of c.loop-rest.rest.now ≡ map line_of (some_line line) ++ lines_of c.behind-rest.result.now =
    cut c.loop-rest.rest.now line c.behind-rest.result.now (c.line_len-len.ensures.lines ∙ ap (λ l. some_line l ++ lines behind) (sym c.front-line.ensures) ∙ ap (λ l. some_line line ++ lines l) (sym c.behind-rest.ensures)) in
    record {
      plays = λ told held laid is lies.
          let so = inv.plays told held laid is lies in (
            so.0 ++ map line_of (some_line line),
            so.1 ∙ ap (λ l. so.0 ++ l) split ∙ sym (append_assoc so.0 (map line_of (some_line line)) (lines_of c.behind-rest.result.now)),
            plays_on ps told held laid so.0 (map line_of (some_line line)) old mid new tt (Ok tt) so.2
                (λ now lays isd lie. subst (λ p. Plays p told now lays (map line_of (some_line line)) mid new (Ok tt)) isd.known
                (c.in_ok-play_line.ensures.plays told now lays (subst (λ p. IsHeld p told c.loop-rest.desk (g.K.Keeper.texts c.loop-rest.keeper) now) (sym isd.known) isd) lie)),
          );
      profiles = c.in_ok-play_line.ensures.profiles ∙ inv.profiles;
      called = c.in_ok-play_line.ensures.called ∙ inv.called;
      returned = c.in_ok-play_line.ensures.returned ∙ inv.returned;
      later = omega (arith, c.in_ok-play_line.ensures.later, inv.later);
      sure = λ s. c.in_ok-play_line.ensures.sure (inv.sure s);
    }

pub returns-clause-plays : goal.returns-clause-plays
returns-clause-plays g c = λ told held laid is lies.
    let so = c.loop-rest.invariant.plays told held laid is lies in
    let old = stage g.K.Counted g.K.Keeper g.S.Counted c.args.desk.now c.args.keeper.now c.args.out.now c.args.reads.now in
    let now = stage g.K.Counted g.K.Keeper g.S.Counted c.loop-rest.desk c.loop-rest.keeper c.loop-rest.out c.loop-rest.reads in
    let over : lines_of c.loop-rest.rest.now ≡ [] = no_lines c.loop-rest.rest.now c.is_empty.result c.loop-rest-test.false c.is_empty.ensures in
    subst (λ (ls : List Line). Plays c.args.desk.now.profiles told held laid ls old now (Ok tt)) (sym (so.1 ∙ ap (λ l. so.0 ++ l) over ∙ append-nil so.0)) so.2
