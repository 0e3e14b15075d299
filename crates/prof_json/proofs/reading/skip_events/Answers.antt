use Rattle.std.proofs.Common.{refl, ◌<◌, ◌≤◌, length, sym, subst, ◌∙◌, inl, arith}
use Rattle.prof_json.specs.Nest.{Occurs}
use Rattle.prof_json.specs.declared.nesting.Phase.{Phase}
use Rattle.prof_json.proofs.Enclosing.{outside_stays, occurs_behind, no_end, all_front, value_over}
use Rattle.prof_token.proofs.Journeys.{moves_trans, moves_here}
use Rattle.prof_token.proofs.Machines.{fails_behind}
use Rattle.prof_token.proofs.Texts.{gains_none}
use Rattle.prof_json.proofs.Passing.{passed_none, passed_more, passed_all}
use Rattle.prof_token.proofs.Owning.{owns_behind}
use Rattle.prof_json.proofs.reading.skip_events.Goals as goal

pub returns-in-Err-clause-moves : goal.returns-in-Err-clause-moves
returns-in-Err-clause-moves g c = moves_trans c.events.invariant.moves c.in-Err.ensures.moves

pub returns-then-len-opened-clause-moves : goal.returns-then-len-opened-clause-moves
returns-then-len-opened-clause-moves g c = moves_trans c.events.invariant.moves c.in-Ok.ensures.moves

pub returns-then-len-opened-clause-closed : goal.returns-then-len-opened-clause-closed
returns-then-len-opened-clause-closed g c =
    let v = c.read_event.new.brackets in
    let few : length v.items ≤ c.args.opened = omega (arith, v.ok.0, c.len.ensures, c.if-len-opened.true) in
    let s = outside_stays c.in-Ok.ensures.ok.leads c.args.opened c.events.invariant.within c.events.invariant.inside in
    sym (all_front c.args.opened v.items few) ∙ s.0 ∙ c.events.invariant.same

pub events-smaller : goal.events-smaller
events-smaller g c =
    let inv = c.events.invariant in
    let more = c.in-Ok.ensures.ok.further (no_end c.in-Ok.ensures.ok.leads c.args.opened inv.inside) in
    let here = inv.moves.within c.requires.placed in
    let there = c.in-Ok.ensures.moves.within here in
    let same = c.in-Ok.ensures.moves.limit in
    omega arith

pub events-preserved : goal.events-preserved
events-preserved g c =
    let v = c.read_event.new.brackets in
    let inv = c.events.invariant in
    let s = outside_stays c.in-Ok.ensures.ok.leads c.args.opened inv.within inv.inside in
    let deeper : c.args.opened < length v.items = omega (arith, v.ok.0, c.len.ensures, c.if-len-opened.false) in
    record {
      moves = moves_trans inv.moves c.in-Ok.ensures.moves;
      told =
          let w = c.in-Ok.ensures.exact c.events.text gains_none in
          passed_more w.text inv.told c.in-Ok.ensures.ok.leads c.phase_after-phase.ensures w.goes c.requires.within deeper;
      occurs = subst (λ (q : Phase). Occurs q v.items) (sym c.phase_after-phase.ensures) (occurs_behind c.in-Ok.ensures.ok.leads);
      few = c.in-Ok.ensures.ok.few;
      same = s.0 ∙ inv.same;
      within = s.1;
      inside = inl deeper;
    }

pub returns-then-len-opened-clause-further : goal.returns-then-len-opened-clause-further
returns-then-len-opened-clause-further g c =
    let inv = c.events.invariant in
    let more = c.in-Ok.ensures.ok.further (no_end c.in-Ok.ensures.ok.leads c.args.opened inv.inside) in
    let on = inv.moves.on in
    omega arith

pub events-init : goal.events-init
events-init g c = record {
  moves = moves_here _ _;
  told = passed_none _ _ _ _ _ c.requires.around c.requires.occurs;
  occurs = c.requires.occurs;
  few = c.requires.few;
  same = refl;
  within = c.requires.within;
  inside = c.requires.inside;
}

pub returns-in-Err-clause-fault : goal.returns-in-Err-clause-fault
returns-in-Err-clause-fault g c = fails_behind c.events.invariant.told.goes (c.in-Err.ensures.exact c.events.text gains_none).goes

pub returns-then-len-opened-clause-told : goal.returns-then-len-opened-clause-told
returns-then-len-opened-clause-told g c =
    let inv = c.events.invariant in
    let v = c.read_event.new.brackets in
    let few : length v.items ≤ c.args.opened = omega (arith, v.ok.0, c.len.ensures, c.if-len-opened.true) in
    let over = value_over c.in-Ok.ensures.ok.leads c.args.opened inv.within inv.inside few in
    let w = c.in-Ok.ensures.exact c.events.text gains_none in
    passed_all w.text inv.told c.in-Ok.ensures.ok.leads w.goes c.requires.around c.requires.within few over

pub returns-then-len-opened-clause-own : goal.returns-then-len-opened-clause-own
returns-then-len-opened-clause-own g c = owns_behind c.events.invariant.moves (c.in-Ok.ensures.own (no_end c.in-Ok.ensures.ok.leads c.args.opened c.events.invariant.inside))
