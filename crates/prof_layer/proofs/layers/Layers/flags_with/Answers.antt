use Rattle.std.proofs.lemmas.Option.{slice_get_within}
use Rattle.std.proofs.Common.{◌≡◌, ◌+◌, ◌∷◌, [], ◌++◌, length, ap, ◌∙◌, arith, length-append}
use Rattle.prof_tables.specs.Threads.{ThreadTables}
use Rattle.prof_layer.specs.Kept.{found_of, is_kept}
use Rattle.prof_layer.proofs.LayerLaws.{flags-more, is_kept-alike}
use Rattle.prof_layer.proofs.layers.Layers.flags_with.Goals as goal

pub loop-k-preserved : goal.loop-k-preserved
loop-k-preserved c = record {
  count = ap length c.in_ok-push.ensures.items ∙ length-append c.loop-k.flags.items (c.stays.result ∷ []) ∙ ap (λ n. n + 1) c.loop-k.invariant.count;
  each = flags-more c.args.self.now.base.samples (λ s. is_kept (found_of c.args.self.now.settled c.args.self.now.spans ++ c.args.spans.now ∷ []) s.time) c.loop-k.k c.loop-k.flags.items c.push.new.self.items c.stays.result
      c.loop-k.invariant.count c.in_ok-push.ensures.items c.loop-k.invariant.each
      (λ s at. c.stays.ensures s at ∙ is_kept-alike (found_of c.args.self.now.settled c.args.self.now.spans) c.in_ok-periods.periods c.args.spans.now s.time (c.in_ok-periods.ensures s.time));
}

pub returns : goal.returns
returns c =
    let all : c.loop-k.k ≡ c.sample_count-count.result = omega arith in
    let count : c.sample_count-count.result ≡ length c.args.self.now.base.samples = c.sample_count-count.ensures.count ∙ ap (λ (b : ThreadTables). length b.samples) c.base.ensures in
    record {
      count = c.loop-k.invariant.count ∙ all ∙ count;
      each = λ k s at. c.loop-k.invariant.each k s (let within = slice_get_within c.args.self.now.base.samples k s at in omega arith) at;
    }
