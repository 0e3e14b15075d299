use Rattle.std.proofs.Common.{◌≡◌, ◌+◌, ◌-◌, ◌*◌, ◌<◌, ◌≤◌, ◌∙◌, ℕ, List, length, get_or, take, sym, ap, subst}
use Rattle.std.specs.Prelude.{OnOk}
use Rattle.std.proofs.lemmas.Option.{get_or_from_slice_get}
use Rattle.prof_path.specs.declared.transform.Transform.{Transform}
use Rattle.prof_path.specs.Views.{ViewLists}
use Rattle.prof_layer.specs.Common.{IsCommon}
use Rattle.prof_layer.specs.Simulates.{LayerLists}
use Rattle.prof_address.specs.Parts.{fresh}
use Rattle.prof_machine.specs.Session.{present}
use Rattle.prof_session.specs.Seated.{Seated}
use Rattle.prof_session.proofs.LayerLemmas.{base_allows}
use Rattle.prof_session.proofs.SoundLemmas.{present_accepted}
use Rattle.prof_session.proofs.seat.Seat.settle.Goals as goal

pub settle_on-requires-clause-allowed : goal.settle_on-requires-clause-allowed
settle_on-requires-clause-allowed g c =
    let p = c.args.known.now in
    let seat = c.args.self.now in
    let shown : c.in-Some.view.now ≡ present seat.session =
    sym (get_or_from_slice_get c.self.inside.views.items c.self.inside.place c.in-Some.view.now (fresh 0) (sym c.in-Some.ensures)) ∙ ap (λ (s : Seated). present s.session) c.self.view_is in
    let at : c.deref.result.now ≡ (present seat.session).transforms = c.deref.ensures.value ∙ ap (λ (v : ViewLists). v.transforms) (c.view.view_is ∙ shown) in
    let within : seat.session.place < length seat.session.views = subst (λ (s : Seated). s.session.place < length s.session.views) c.self.view_is c.self.invariant.1 in
    base_allows p seat c.self.inside.layers.base c.deref.result.now c.requires (present_accepted p seat c.requires within) (ap (λ (s : Seated). s.layers.base) c.self.view_is) at

pub returns-clause-settled : goal.returns-clause-settled
returns-clause-settled g c =
    let seat = c.args.self.now in
    let shown : c.in-Some.view.now ≡ present seat.session =
    sym (get_or_from_slice_get c.self.inside.views.items c.self.inside.place c.in-Some.view.now (fresh 0) (sym c.in-Some.ensures)) ∙ ap (λ (s : Seated). present s.session) c.self.view_is in
    let at : c.deref.result.now ≡ (present seat.session).transforms = c.deref.ensures.value ∙ ap (λ (v : ViewLists). v.transforms) (c.view.view_is ∙ shown) in
    subst (λ (l : List Transform). OnOk c.settle_on.result (c.settle_on.new.layers.settled ≡ l)) at c.settle_on.ensures.settled

pub returns-clause-towards : goal.returns-clause-towards
returns-clause-towards g c =
    let seat = c.args.self.now in
    let shown : c.in-Some.view.now ≡ present seat.session =
    sym (get_or_from_slice_get c.self.inside.views.items c.self.inside.place c.in-Some.view.now (fresh 0) (sym c.in-Some.ensures)) ∙ ap (λ (s : Seated). present s.session) c.self.view_is in
    let at : c.deref.result.now ≡ (present seat.session).transforms = c.deref.ensures.value ∙ ap (λ (v : ViewLists). v.transforms) (c.view.view_is ∙ shown) in
    let laid : c.self.inside.layers ≡ seat.layers = ap (λ (s : Seated). s.layers) c.self.view_is in
    record {
      base = c.settle_on.ensures.base ∙ ap (λ (l : LayerLists). l.base) laid;
      front = c.settle_on.ensures.front ∙ ap (take (length c.settle_on.new.layers.settled)) at;
      kept = λ k h. c.settle_on.ensures.kept k
          (subst (λ (l : List Transform). IsCommon k c.self.inside.layers.settled l) (sym at) (subst (λ (l : LayerLists). IsCommon k l.settled (present seat.session).transforms) (sym laid) h));
    }

pub returns-clause-reads : goal.returns-clause-reads
returns-clause-reads g c =
    let seat = c.args.self.now in
    let shown : c.in-Some.view.now ≡ present seat.session =
    sym (get_or_from_slice_get c.self.inside.views.items c.self.inside.place c.in-Some.view.now (fresh 0) (sym c.in-Some.ensures)) ∙ ap (λ (s : Seated). present s.session) c.self.view_is in
    let at : c.deref.result.now ≡ (present seat.session).transforms = c.deref.ensures.value ∙ ap (λ (v : ViewLists). v.transforms) (c.view.view_is ∙ shown) in
    let laid : c.self.inside.layers ≡ seat.layers = ap (λ (s : Seated). s.layers) c.self.view_is in
    λ k h.
    subst (λ (l : LayerLists). c.settle_on.new.reads ≤ c.args.reads.now + (length (present seat.session).transforms - k) * length l.base.shared.stacks) laid
    (subst (λ (l : List Transform). c.settle_on.new.reads ≤ c.args.reads.now + (length l - k) * length c.self.inside.layers.base.shared.stacks) at
    (c.settle_on.ensures.reads k
    (subst (λ (l : List Transform). IsCommon k c.self.inside.layers.settled l) (sym at) (subst (λ (l : LayerLists). IsCommon k l.settled (present seat.session).transforms) (sym laid) h))))
