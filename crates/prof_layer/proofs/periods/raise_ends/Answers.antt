use Rattle.std.proofs.Common.{◌≡◌, get_or, refl, ◌∙◌, ◌-◌, arith, to_z, of_z, pos, rules}
use mir.Syntax.{w64}
use mir.Val.{SFits}
use Rattle.std.specs.Int.{int_max}
use Rattle.std.proofs.lemmas.Int.{to_z-of_z}
use Rattle.prof_path.specs.declared.lists.Span.{Span}
use Rattle.prof_layer.proofs.PeriodLaws.{raised-starts, raised-ends, raised-same}
use Rattle.prof_layer.proofs.periods.raise_ends.Goals as goal

-- what a read outside the list gives
abbrev outside : Span
outside = record { start = pos 0; end = pos 0 }

-- the end that is written
end : (c : goal.After-spans-1) → to_z w64 (of_z w64 c.max.result) ≡ int_max (get_or c.loop-i.spans c.loop-i.i outside).end (get_or c.loop-i.spans (c.loop-i.i - 1) outside).end
end c =
    let own : SFits w64 (get_or c.loop-i.spans c.loop-i.i outside).end = search rules in
    let before : SFits w64 (get_or c.loop-i.spans (c.loop-i.i - 1) outside).end = search rules in
    let most : SFits w64 c.max.result = search rules in
    grind (arith, to_z-of_z, c.max.ensures.value)

pub loop-i-preserved : goal.loop-i-preserved
loop-i-preserved c = record {
  starts = raised-starts c.loop-i.spans c.loop-i.i _ _ (omega arith) refl c.loop-i.invariant.starts;
  ends = raised-ends c.loop-i.spans c.loop-i.i _ outside c.loop-i.auto.i (omega arith) (end c) c.loop-i.invariant.ends;
  same = λ m. raised-same m c.loop-i.spans c.loop-i.i _ _ c.loop-i.auto.i (omega arith) c.loop-i.invariant.starts refl (end c) ∙ c.loop-i.invariant.same m;
}
