use Rattle.std.proofs.Common.{◌≡◌, ◌-◌, get_or, true, false, List, sym, ap, subst, ◌∙◌, rules}
use mir.Syntax.{w64}
use mir.Val.{SFits}
use borrow.Author.Tests.{le-ltb}
use Rattle.std.proofs.lemmas.Int.{to_z-of_z}
use Rattle.std.specs.Prelude.{int_le}
use Rattle.std.specs.List.{list_any}
use Rattle.std.specs.List.Sorted.{IsPartitionPoint}
use Rattle.std.proofs.lemmas.List.Sorted.{IsPartitionPoint-from_clause}
use Rattle.prof_path.specs.declared.lists.Span.{Span}
use Rattle.prof_path.specs.Rewriting.{is_during}
use Rattle.prof_layer.specs.Periods.{AreByStart, AreAscending}
use Rattle.prof_layer.proofs.PeriodLaws.{parted, looked-up, looked-none}
use Rattle.prof_layer.proofs.periods.Periods.has.Goals as goal

pub returns-then-begun-gt0 : goal.returns-then-begun-gt0
returns-then-begun-gt0 c =
    let starts : AreByStart c.deref.result.now = subst AreByStart (sym c.deref.ensures.value) c.self.invariant.starts in
    let point : IsPartitionPoint (λ (s : Span). int_le s.start c.args.moment ≡ true) (λ (s : Span). int_le s.start c.args.moment ≡ false) c.deref.result.now c.partition_point-begun.result =
    IsPartitionPoint-from_clause (λ (s : Span). int_le s.start c.args.moment) c.deref.result.now c.partition_point-begun.result c.partition_point-begun.ensures.partitioned (parted c.args.moment c.deref.result.now starts) (λ a r q k. search rules) in
    let last : SFits w64 c.index.result.now.end = search rules in
    let moment : SFits w64 c.args.moment = search rules in
    let found = looked-up c.args.moment c.deref.result.now c.partition_point-begun.result c.index.result.now (subst AreAscending (sym c.deref.ensures.value) c.self.invariant) c.partition_point-begun.ensures.bound point c.if-begun-gt0.true (c.index.ensures ∙ ap (λ (xs : List Span). get_or xs (c.partition_point-begun.result - 1) c.index.result.now) (sym c.deref.ensures.value)) in
    simp to_z-of_z (found ∙ ap (list_any (is_during c.args.moment)) (c.deref.ensures.value ∙ c.self.view_is))

pub returns-else-begun-gt0 : goal.returns-else-begun-gt0
returns-else-begun-gt0 c =
    let starts : AreByStart c.deref.result.now = subst AreByStart (sym c.deref.ensures.value) c.self.invariant.starts in
    let point : IsPartitionPoint (λ (s : Span). int_le s.start c.args.moment ≡ true) (λ (s : Span). int_le s.start c.args.moment ≡ false) c.deref.result.now c.partition_point-begun.result =
    IsPartitionPoint-from_clause (λ (s : Span). int_le s.start c.args.moment) c.deref.result.now c.partition_point-begun.result c.partition_point-begun.ensures.partitioned (parted c.args.moment c.deref.result.now starts) (λ a r q k. search rules) in
    let none = looked-none c.args.moment c.deref.result.now c.partition_point-begun.result point c.if-begun-gt0.false in
    le-ltb _ _ c.if-begun-gt0.false ∙ sym none ∙ ap (list_any (is_during c.args.moment)) (c.deref.ensures.value ∙ c.self.view_is)
