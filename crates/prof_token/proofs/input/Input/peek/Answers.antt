use Rattle.std.proofs.Common.{◌≡◌, ◌≤◌, ◌<◌, length, ap, ◌∙◌, sym, arith, ◌∷◌, get_or, slice_range, suc}
use Rattle.std.proofs.lemmas.List.{get_or_read}
use Rattle.prof_token.specs.Ahead.{Ahead}
use Rattle.prof_token.proofs.Windows.{slice_range-first}
use Rattle.prof_token.proofs.Machines.{goes_same, goes_long, goes_unread}
use Rattle.prof_token.proofs.input.Input.peek.Goals as goal

pub returns-clause-shown : goal.returns-clause-shown
returns-clause-shown g c =
    let i = c.self.inside in
    let len = i.window.ok.0 in
    let inv = c.self.invariant in
    let below : i.from < i.to = omega arith in
    let within : i.to ≤ length i.window.items = omega arith in
    let place : i.place ≡ c.fill.new.self.place = ap (λ (x : Ahead). x.place) c.self.view_is in
    let limit : i.limit ≡ c.fill.new.self.limit = ap (λ (x : Ahead). x.limit) c.self.view_is in
    let in_window : i.from < length i.window.items = omega arith in
    let rest = slice_range i.window.items (suc i.from) i.to in
    record {
      rest = rest;
      bytes = ap (λ (x : Ahead). x.bytes) (sym c.self.view_is) ∙ slice_range-first i.window.items i.from i.to below within ∙ ap (λ x. x ∷ rest) (sym (get_or_read i.window.items i.from c.index.result.now in_window c.index.ensures 0));
      room = omega arith;
    }

pub returns-in-Err-clause-exact : goal.returns-in-Err-clause-exact
returns-in-Err-clause-exact g c = λ ps. goes_unread

pub returns-then-self-2-clause-exact : goal.returns-then-self-2-clause-exact
returns-then-self-2-clause-exact g c =
    let i = c.self.inside in
    let len = i.window.ok.0 in
    let inv = c.self.invariant in
    let below : i.from < i.to = omega arith in
    let within : i.to ≤ length i.window.items = omega arith in
    let first = ap (λ (x : Ahead). x.bytes) (sym c.self.view_is) ∙ slice_range-first i.window.items i.from i.to below within in
    let full = sym (ap (λ (x : Ahead). x.place) c.self.view_is) ∙ c.if-self-2.true ∙ ap (λ (x : Ahead). x.limit) c.self.view_is in
    λ ps. goes_long (get_or i.window.items i.from 0) (slice_range i.window.items (suc i.from) i.to) c.fill.ensures.same first full

pub returns-then-self-clause-exact : goal.returns-then-self-clause-exact
returns-then-self-clause-exact g c = λ ps. goes_same ps c.fill.ensures.same

pub returns-clause-exact : goal.returns-clause-exact
returns-clause-exact g c = λ ps. goes_same ps c.fill.ensures.same
