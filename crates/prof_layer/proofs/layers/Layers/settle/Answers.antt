use Rattle.std.proofs.Common.{◌≡◌, ◌≤◌, ◌+◌, ◌++◌, List, length, take, drop, ap, ◌∙◌, sym, subst}
use Rattle.prof_path.specs.declared.transform.Transform.{Transform}
use Rattle.prof_layer.specs.Common.{IsCommon}
use Rattle.prof_layer.proofs.SettleLaws.{front-all, front-length, slice-rest}
use Rattle.prof_layer.proofs.layers.Layers.settle.Goals as goal

pub returns-clause-front : goal.returns-clause-front
returns-clause-front g c =
    let n = c.common_len-common.result in
    let common : IsCommon n c.args.self.now.settled c.args.wanted.now = subst (λ l. IsCommon n l c.args.wanted.now) c.settled.ensures c.common_len-common.ensures.common in
    let k = c.push_each.ensures.front.0 in
    let few : k ≤ length (drop n c.args.wanted.now) = subst (λ (l : List Transform). k ≤ length l) (slice-rest {A = Transform} c.args.wanted.now n) c.push_each.ensures.front.1 in
    let all : c.push_each.new.self.settled ≡ take (n + k) c.args.wanted.now = front-all {A = Transform} c.args.wanted.now c.keep.new.self.settled c.push_each.new.self.settled n k common.second (c.keep.ensures.settled ∙ common.same)
    (c.push_each.ensures.front.2 ∙ ap (λ (l : List Transform). c.keep.new.self.settled ++ take k l) (slice-rest {A = Transform} c.args.wanted.now n)) in
    all ∙ ap (λ j. take j c.args.wanted.now) (sym (front-length {A = Transform} c.args.wanted.now c.push_each.new.self.settled n k common.second few all))

pub returns-clause-front_spans : goal.returns-clause-front_spans
returns-clause-front_spans g c =
    let n = c.common_len-common.result in
    let common : IsCommon n c.args.self.now.settled c.args.wanted.now = subst (λ l. IsCommon n l c.args.wanted.now) c.settled.ensures c.common_len-common.ensures.common in
    let k = c.push_each.ensures.front.0 in
    let few : k ≤ length (drop n c.args.wanted.now) = subst (λ (l : List Transform). k ≤ length l) (slice-rest {A = Transform} c.args.wanted.now n) c.push_each.ensures.front.1 in
    let all : c.push_each.new.self.settled ≡ take (n + k) c.args.wanted.now = front-all {A = Transform} c.args.wanted.now c.keep.new.self.settled c.push_each.new.self.settled n k common.second (c.keep.ensures.settled ∙ common.same)
    (c.push_each.ensures.front.2 ∙ ap (λ (l : List Transform). c.keep.new.self.settled ++ take k l) (slice-rest {A = Transform} c.args.wanted.now n)) in
    front-all c.args.spans.items c.keep.new.self.spans c.push_each.new.self.spans n k (subst (λ j. n ≤ j) (sym c.requires.count) common.second) (c.keep.ensures.spans ∙ c.requires.same n common)
    (c.push_each.ensures.front.3 ∙ ap (λ l. c.keep.new.self.spans ++ take k l) c.spans_after.ensures)
    ∙ ap (λ j. take j c.args.spans.items) (sym (front-length {A = Transform} c.args.wanted.now c.push_each.new.self.settled n k common.second few all))
