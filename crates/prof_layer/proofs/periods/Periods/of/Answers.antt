use Rattle.std.proofs.Common.{◌≡◌, ◌++◌, length, take, drop, sym, ap, subst, ◌∙◌, arith, rules}
use Rattle.std.specs.List.{list_any}
use Rattle.std.proofs.lemmas.Grind.{common_steps}
use Rattle.std.proofs.lemmas.List.Sorted.{answers_always, list_any-IsPermutation}
use Rattle.prof_path.specs.declared.lists.Span.{Span}
use Rattle.prof_path.specs.Rewriting.{is_during}
use Rattle.prof_layer.specs.Periods.{AreByStart}
use Rattle.prof_layer.proofs.PeriodLaws.{by-start}
use Rattle.prof_layer.proofs.periods.Periods.of.Goals as goal

pub raise_ends-requires : goal.raise_ends-requires
raise_ends-requires c = subst AreByStart (sym c.deref_mut.ensures.value) (by-start _ (c.sort_unstable_by_key.ensures.sorted (λ (s : Span). s.start) (answers_always _ _ _ (λ f a r g h. search rules))))

pub returns : goal.returns
returns c = λ m.
    let whole : take c.sort_unstable_by_key.new.self.len (c.raise_ends.new.spans ++ drop (length c.raise_ends.new.spans) c.sort_unstable_by_key.new.self.items) ≡ c.raise_ends.new.spans = grind (arith, common_steps, c.sort_unstable_by_key.new.self.ok.0) in
    ap (list_any (is_during m)) whole ∙ c.raise_ends.ensures.same m ∙ ap (list_any (is_during m)) c.deref_mut.ensures.value
    ∙ sym (list_any-IsPermutation (is_during m) _ _ c.sort_unstable_by_key.ensures.permutation) ∙ ap (list_any (is_during m)) c.in_ok-spans.ensures.items
