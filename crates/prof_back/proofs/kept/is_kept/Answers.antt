use Rattle.std.proofs.Common.{◌≡◌, ◌∙◌, length, ap, subst, arith}
use Rattle.std.specs.Prelude.{All, IsUtf8}
use Rattle.prof_tables.specs.Profiles.{ProfileTables}
use Rattle.prof_back.specs.Texts.{IsThread}
use Rattle.prof_back.proofs.OneMore.{many_made, one_more_made}
use Rattle.prof_back.proofs.kept.is_kept.Goals as goal

pub loop-thread-preserved : goal.loop-thread-preserved
loop-thread-preserved c =
    one_more_made IsThread _ c.profile.inside.threads.items c.deref-thread-items.result.now c.args.profile.now.threads c.loop-thread.thread-index c.thread-item.result c.deref-in-loop-thread.result.now
    (ap (λ (p : ProfileTables). p.threads) c.profile.view_is) c.deref-thread-items.ensures.value c.loop-thread-test.true c.thread-item.is c.loop-thread.invariant c.deref-in-loop-thread.ensures c.thread_is_kept.ensures

pub returns : goal.returns
returns c =
    let many : length c.args.profile.now.threads ≡ length c.deref-thread-items.result.now =
    many_made _ c.profile.inside.threads.items c.deref-thread-items.result.now c.args.profile.now.threads (ap (λ (p : ProfileTables). p.threads) c.profile.view_is) c.deref-thread-items.ensures.value in
    record {
      profile = c.keeps.ensures;
      threads = λ k d less. c.loop-thread.invariant k (omega arith) d;
      names = subst (All IsUtf8) (c.deref.ensures.value ∙ ap (λ (p : ProfileTables). p.categories) c.profile.view_is) c.are_utf8.ensures;
    }
