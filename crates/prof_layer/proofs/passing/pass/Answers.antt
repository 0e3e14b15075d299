use Rattle.std.proofs.Common.{◌≡◌, ◌<◌, length, map, ap, ◌∙◌, sym, subst, arith}
use Rattle.std.specs.Prelude.{IfSome}
use Rattle.prof_tables.specs.Building.{Building}
use Rattle.prof_layer.specs.declared.passing.Place.{Place}
use Rattle.std.specs.List.{All}
use Rattle.prof_tables.specs.Ties.{IsStackRow}
use Rattle.prof_layer.specs.Rewritten.{IsRewritten}
use Rattle.prof_layer.specs.Passing.{place_of}
use Rattle.prof_layer.proofs.PassLaws.{pass-more, pass-done, above-out}
use Rattle.prof_layer.proofs.passing.pass.Goals as goal

pub place_after-place-requires-clause-out : goal.place_after-place-requires-clause-out
place_after-place-requires-clause-out g c =
    let is : c.place_of-above.result ≡ place_of c.loop-i.places.items c.row-row.result.prefix = c.place_of-above.ensures ∙ ap (λ ps. place_of ps c.row-row.result.prefix) c.deref.ensures.value in
    subst (λ (p : Place). IfSome p.out (λ q. q < length c.loop-i.rows.rows)) (sym is)
    (above-out c.args.thread.now.shared c.args.t.now c.args.top.now c.loop-i.i c.loop-i.rows.rows c.loop-i.places.items c.row-row.result.prefix c.loop-i.invariant.passed c.row-row.ensures.below)

pub loop-i-preserved : goal.loop-i-preserved
loop-i-preserved g c = record {
  passed = pass-more c.args.thread.now.shared c.args.t.now c.args.top.now c.loop-i.i c.loop-i.rows.rows c.place_after-place.new.rows.rows c.loop-i.places.items c.push.new.self.items c.row-row.result c.place_of-above.result c.place_after-place.result
      c.requires.stepwise c.requires.rows.prefixes c.row-row.ensures.row c.loop-i.invariant.passed
      (c.place_of-above.ensures ∙ ap (λ ps. place_of ps c.row-row.result.prefix) c.deref.ensures.value)
      c.place_after-place.ensures.place
      (ap (λ (b : Building). b.rows) c.place_after-place.ensures.rows)
      c.in_ok-push.ensures.items;
  room = ap (λ (b : Building). b.room) c.place_after-place.ensures.rows ∙ c.loop-i.invariant.room;
  funcs = ap (λ (b : Building). b.funcs) c.place_after-place.ensures.rows ∙ c.loop-i.invariant.funcs;
  categories = ap (λ (b : Building). b.categories) c.place_after-place.ensures.rows ∙ c.loop-i.invariant.categories;
  reads = omega arith;
}

pub returns-clause-rewritten : goal.returns-clause-rewritten
returns-clause-rewritten g c =
    let all : c.loop-i.i ≡ length c.args.top.now = omega arith in
    let outs : c.in_ok-outs.outs.items ≡ map (λ (p : Place). p.out) c.loop-i.places.items = c.in_ok-outs.ensures ∙ ap (map (λ (p : Place). p.out)) c.deref-2.ensures.value in
    subst (λ rows. IsRewritten c.args.thread.now.shared c.args.t.now c.args.top.now rows c.in_ok-outs.outs.items) (sym c.done.ensures.rows)
    (pass-done c.args.thread.now.shared c.args.t.now c.args.top.now c.loop-i.i c.loop-i.rows.rows c.loop-i.places.items c.in_ok-outs.outs.items all outs c.loop-i.invariant.passed
    (subst (λ n. All (IsStackRow n c.args.thread.now.shared.categories) c.loop-i.rows.rows) c.loop-i.invariant.funcs
    (subst (λ n. All (IsStackRow c.loop-i.rows.funcs n) c.loop-i.rows.rows) c.loop-i.invariant.categories c.done.ensures.steps)))
