use Rattle.std.proofs.Common.{◌≡◌, ◌+◌, ◌-◌, ◌*◌, ◌≤◌, ◌∙◌, ℕ, List, length, map, take, None, sym, ap, subst}
use Rattle.std.specs.List.{All}
use Rattle.prof_tables.specs.Threads.{ThreadTables}
use Rattle.prof_path.specs.declared.lists.Span.{Span}
use Rattle.prof_path.specs.declared.transform.Transform.{Transform}
use Rattle.prof_path.specs.Refusals.{refusal_of}
use Rattle.prof_layer.specs.Common.{IsCommon}
use Rattle.prof_machine.specs.Known.{intervals}
use Rattle.prof_session.proofs.LayerLemmas.{common_cut, front_spans, common_spans}
use Rattle.prof_session.proofs.cutting.settle_on.Goals as goal

pub returns-in_err-spans-clause-found : goal.returns-in_err-spans-clause-found
returns-in_err-spans-clause-found g c =
    front_spans (intervals c.args.layers.now.base) c.cut.new.layers.settled c.args.layers.now.settled c.cut.new.layers.spans c.args.layers.now.spans c.requires.found c.cut.ensures.settled c.cut.ensures.spans
    ∙ ap (λ (t : ThreadTables). map (intervals t) c.cut.new.layers.settled) (sym c.cut.ensures.base)

pub settle-requires-clause-checked : goal.settle-requires-clause-checked
settle-requires-clause-checked g c = subst (λ (t : ThreadTables). All (λ (u : Transform). refusal_of t.shared u ≡ None) c.args.wanted.now) (sym c.cut.ensures.base) c.requires.allowed

pub settle-requires-clause-same : goal.settle-requires-clause-same
settle-requires-clause-same g c =
    let f = intervals c.args.layers.now.base in
    let own : c.cut.new.layers.spans ≡ map f c.cut.new.layers.settled =
    front_spans f c.cut.new.layers.settled c.args.layers.now.settled c.cut.new.layers.spans c.args.layers.now.spans c.requires.found c.cut.ensures.settled c.cut.ensures.spans in
    let these : c.in_ok-spans.spans.items ≡ map f c.args.wanted.now = c.in_ok-spans.ensures ∙ ap (λ (t : ThreadTables). map (intervals t) c.args.wanted.now) (c.base.ensures ∙ c.cut.ensures.base) in
    common_spans f c.cut.new.layers.settled c.args.wanted.now c.cut.new.layers.spans c.in_ok-spans.spans.items own these

pub returns-in_err-settle-clause-found : goal.returns-in_err-settle-clause-found
returns-in_err-settle-clause-found g c =
    let f = intervals c.args.layers.now.base in
    let these : c.in_ok-spans.spans.items ≡ map f c.args.wanted.now = c.in_ok-spans.ensures ∙ ap (λ (t : ThreadTables). map (intervals t) c.args.wanted.now) (c.base.ensures ∙ c.cut.ensures.base) in
    front_spans f c.settle.new.self.settled c.args.wanted.now c.settle.new.self.spans c.in_ok-spans.spans.items these c.settle.ensures.front c.settle.ensures.front_spans
    ∙ ap (λ (t : ThreadTables). map (intervals t) c.settle.new.self.settled) (sym (c.settle.ensures.base ∙ c.cut.ensures.base))
