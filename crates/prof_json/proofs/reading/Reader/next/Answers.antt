use Rattle.std.proofs.Common.{ap, sym, subst, refl}
use Rattle.prof_token.specs.Kept.{Kept}
use Rattle.prof_json.specs.Nest.{Occurs}
use Rattle.std.specs.Prelude.{Some, None}
use Rattle.std.specs.Option.{option_to_list}
use Rattle.prof_json.specs.Parts.{parts_in, behind}
use Rattle.prof_json.specs.Position.{Position, last_of}
use Rattle.prof_json.specs.Tells.{EndsBy, Tells}
use Rattle.prof_token.proofs.Texts.{gains_none}
use Rattle.prof_json.proofs.Fresh.{kept_all, event_told}
use Rattle.prof_json.specs.declared.nesting.Phase.{Phase}
use Rattle.prof_json.proofs.Enclosing.{occurs_behind}
use Rattle.prof_json.proofs.Positions.{last_is}
use Rattle.prof_json.proofs.reading.Reader.next.Goals as goal

pub invariant_of-self-in-Ok : goal.invariant_of-self-in-Ok
invariant_of-self-in-Ok g c =
    let m = c.in-Ok.ensures.moves in
    let ok = c.in-Ok.ensures.ok in (
      m.near c.self.invariant.0,
      m.within c.self.invariant.1,
      ok.keeps (ap (λ (k : Kept). k.bytes) c.begin.ensures) (ap (λ (k : Kept). k.keeping) c.begin.ensures),
      λ _. record {
        few = ok.few;
        occurs = subst (λ (q : Phase). Occurs q c.read_event.new.brackets.items) (sym c.phase_after-self-inside.ensures) (occurs_behind ok.leads);
        behind = c.phase_after-self-inside.ensures;
      },
    )

pub returns-in-Ok-clause-last : goal.returns-in-Ok-clause-last
returns-in-Ok-clause-last g c = last_is c.in-Ok.event c.read_event.new.text.bytes

pub returns-in-Err-clause-fault : goal.returns-in-Err-clause-fault
returns-in-Err-clause-fault g c = λ none.
    let w = c.in-Err.ensures.exact c.begin.new.self gains_none in
    subst (λ (p : Position). EndsBy c.in-Err.fault p (g.S.Counted.left c.args.src.now)) c.self.view_is w.goes.is

pub returns-in-Ok-clause-told : goal.returns-in-Ok-clause-told
returns-in-Ok-clause-told g c =
    let i = c.self.inside in
    let r = c.read_event in
    let w = c.in-Ok.ensures.exact c.begin.new.self gains_none in
    let text = kept_all c.begin.new.self r.new.text w.text c.begin.ensures (w.kept refl) in
    let left = g.S.Counted.left c.args.src.now in
    let left2 = g.S.Counted.left r.new.src in
    let told = event_told i.input r.new.input left left2 (parts_in i.phase (behind i.brackets.items)) r.new.brackets.items c.in-Ok.event w.text r.new.text.bytes c.phase_after-self-inside.result text c.phase_after-self-inside.ensures w.goes.is in
    subst (λ (p : Position). Tells p left (option_to_list (last_of (Some c.in-Ok.event) r.new.text.bytes)) (record { ahead = r.new.input.bytes; place = r.new.input.place; limit = r.new.input.limit; nest = record { open_ = r.new.brackets.items; phase = c.phase_after-self-inside.result }; last = None; fault = None }) left2) c.self.view_is told
