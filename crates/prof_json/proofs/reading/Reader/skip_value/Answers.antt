use Rattle.std.proofs.Common.{◌≡◌, ap, sym, subst, ◌∙◌, take}
use Rattle.std.specs.Prelude.{None}
use Rattle.prof_json.specs.declared.nesting.Phase.TheVariants.{AfterValue}
use Rattle.prof_json.specs.Position.{Position}
use Rattle.prof_json.specs.Skip.{Closes, outside_of, IsSkippable, IsSkipped}
use Rattle.prof_json.specs.Tells.{Tells}
use Rattle.prof_json.proofs.Positions.{begun_is, closes_is, skippable_of, skipped_is}
use Rattle.prof_json.proofs.reading.Reader.skip_value.Goals as goal

pub returns-in-Ok-clause-nest : goal.returns-in-Ok-clause-nest
returns-in-Ok-clause-nest g c =
    let i = c.self.inside in
    let xs = i.brackets.items in
    let none : i.fault ≡ None = cc in
    let skippable = subst (λ (p : Position). IsSkippable p.last) (sym c.self.view_is) (skippable_of c.args.self.now.fault (sym (ap (λ (p : Position). p.fault) c.self.view_is) ∙ none) c.requires) in
    let begun = begun_is i.last i.text.bytes xs i.phase skippable (c.self.invariant.3 none) in
    let front = c.in-Ok.ensures.closed ∙ ap (λ n. take n xs) (c.outside-opened.ensures ∙ ap (outside_of i.last) c.deref.ensures.value) in
    subst (λ (p : Position). Closes p.last p.nest (record { open_ = c.skip_events.new.brackets.items; phase = AfterValue })) c.self.view_is (closes_is i.last i.text.bytes xs c.skip_events.new.brackets.items i.phase begun front)

pub returns-in-Ok-clause-told : goal.returns-in-Ok-clause-told
returns-in-Ok-clause-told g c =
    let i = c.self.inside in
    let xs = i.brackets.items in
    let r = c.skip_events in
    let none : i.fault ≡ None = cc in
    let skippable = subst (λ (p : Position). IsSkippable p.last) (sym c.self.view_is) (skippable_of c.args.self.now.fault (sym (ap (λ (p : Position). p.fault) c.self.view_is) ∙ none) c.requires) in
    let told = c.in-Ok.ensures.told in
    let left = g.S.Counted.left c.args.src.now in
    let left2 = g.S.Counted.left r.new.src in
    let skipped = skipped_is i.last i.text.bytes xs i.phase told.0 skippable (c.self.invariant.3 none) told.1 in
    let there : Position = record { ahead = r.new.input.bytes; place = r.new.input.place; limit = r.new.input.limit; nest = record { open_ = r.new.brackets.items; phase = AfterValue }; last = None; fault = None } in
    (told.0, subst (λ (p : Position). IsSkipped p.last told.0) c.self.view_is skipped, subst (λ (p : Position). Tells p left told.0 there left2) c.self.view_is told.2.is)
