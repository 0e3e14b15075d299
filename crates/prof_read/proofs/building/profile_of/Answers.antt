use Rattle.std.proofs.Common.{◌≡◌, ℕ, None, Some, true, length, map, sym, subst, ◌∙◌, ap, arith}
use Rattle.std.specs.List.{All}
use Rattle.std.proofs.lemmas.List.{length-map}
use Rattle.std.specs.declared.rc.Rc.{Rc}
use Rattle.std.specs.declared.alloc.Global.{Global}
use Rattle.prof_tables.specs.declared.thread.Thread.{Thread}
use Rattle.prof_tables.specs.Profiles.{CountsIn}
use Rattle.prof_layout.specs.Lists.{items_of}
use Rattle.prof_layout.specs.Profile.{is_processed, broken, categories_broken, base_broken, threads_member, first_thread, thread_fails, category_names, default_category}
use Rattle.prof_layout.proofs.Checking.{broken-categories, broken-base, broken-threads, broken-thread}
use Rattle.prof_read.specs.Bases.{AreCounts, StandsOn}
use Rattle.prof_read.proofs.Refusing.{names, names-on}
use Rattle.prof_read.proofs.Profiling.{has_parts, has_meta, no_profile, no_parts, no_meta, threads_fit, threads_checked, threads_kept, parted, profile_is}
use Rattle.prof_read.proofs.building.profile_of.Goals as goal

pub returns-in_default : goal.returns-in_default
returns-in_default c = record {
  building = rw c.unknown_format.ensures tt;
  profile = λ v is. no_profile (λ (n : ℕ). n ≡ n) c.unknown_format.result v c.unknown_format.ensures (no_parts v c.args.parts c.in_default.not-Object is);
}

pub returns-in_default-meta : goal.returns-in_default-meta
returns-in_default-meta c = record {
  building = rw c.unknown_format-in_default-meta.ensures tt;
  profile = λ v is.
      let p = has_parts v c.args.parts c.in-Object.parts c.in-Object.is is in
      no_profile (λ (n : ℕ). n ≡ n) c.unknown_format-in_default-meta.result v c.unknown_format-in_default-meta.ensures (no_meta v c.in-Object.parts.meta c.in_default-meta.not-Object p.meta);
}

pub returns-then-not-processed-clause-profile : goal.returns-then-not-processed-clause-profile
returns-then-not-processed-clause-profile c = λ v is.
    let p = has_parts v c.args.parts c.in-Object.parts c.in-Object.is is in
    let m = has_meta v c.in-Object.parts.meta c.in-Object-meta.meta c.in-Object-meta.is p.meta in
    no_profile (λ (n : ℕ). n ≡ n) c.unknown_format-then-not-processed.result v c.unknown_format-then-not-processed.ensures (sym m.processed ∙ c.if-not-processed.true)

pub invariant_of-result : goal.invariant_of-result
invariant_of-result c = record {
  few = (let l = length-map c.in_ok-threads.threads.items (λ (t : Rc Thread Global). t.value) in let e = c.in_ok-threads.threads.ok.0 in let f = c.in_ok-threads.ensures.few in omega arith);
  default = (let e = c.in_ok-names.names.ok.0 in let w = c.in_ok-names.ensures.ok.0 in omega arith);
  threads = subst (λ (n : ℕ). All (CountsIn n c.in_ok-names.default) (map (λ t. t.value) c.in_ok-threads.threads.items)) (c.len-categories.ensures ∙ c.in_ok-names.names.ok.0) c.in_ok-threads.ensures.counts;
}

pub returns-in_err-names-clause-profile : goal.returns-in_err-names-clause-profile
returns-in_err-names-clause-profile c = λ v is.
    let p = has_parts v c.args.parts c.in-Object.parts c.in-Object.is is in
    let m = has_meta v c.in-Object.parts.meta c.in-Object-meta.meta c.in-Object-meta.is p.meta in
    let processed : is_processed v ≡ true = sym m.processed ∙ c.if-not-processed.false in
    names-on (λ (n : ℕ). n ≡ n) _ c.in_err-names.field-0.0 c.from_residual.result (categories_broken v) (broken v) (c.in_err-names.ensures.categories v m.categories)
    (λ b e. broken-categories v b processed e) c.from_residual.ensures.1

pub returns-in_err-base-clause-profile : goal.returns-in_err-base-clause-profile
returns-in_err-base-clause-profile c = λ v is.
    let p = has_parts v c.args.parts c.in-Object.parts c.in-Object.is is in
    let m = has_meta v c.in-Object.parts.meta c.in-Object-meta.meta c.in-Object-meta.is p.meta in
    let processed : is_processed v ≡ true = sym m.processed ∙ c.if-not-processed.false in
    let told = c.in_ok-names.ensures.categories v m.categories in
    let are = parted c.in_ok-names.names.items (category_names v) c.in_ok-names.default (default_category v) told.1 in
    let counts : AreCounts v c.len-categories.result c.in_ok-names.default = record { categories_are = c.len-categories.ensures ∙ c.in_ok-names.names.ok.0 ∙ ap (λ ns. length ns) are.0; default_is = are.1 } in
    names-on (λ (n : ℕ). n ≡ n) _ c.in_err-base.field-0.0 c.from_residual-in_err-base.result (base_broken v) (broken v) (c.in_err-base.ensures.base v counts p.shared)
    (λ b e. broken-base v b processed told.0 e) c.from_residual-in_err-base.ensures.1

pub returns-in_err-check-clause-profile : goal.returns-in_err-check-clause-profile
returns-in_err-check-clause-profile c = λ v is.
    let p = has_parts v c.args.parts c.in-Object.parts c.in-Object.is is in
    let m = has_meta v c.in-Object.parts.meta c.in-Object-meta.meta c.in-Object-meta.is p.meta in
    let processed : is_processed v ≡ true = sym m.processed ∙ c.if-not-processed.false in
    let told = c.in_ok-names.ensures.categories v m.categories in
    let are = parted c.in_ok-names.names.items (category_names v) c.in_ok-names.default (default_category v) told.1 in
    let counts : AreCounts v c.len-categories.result c.in_ok-names.default = record { categories_are = c.len-categories.ensures ∙ c.in_ok-names.names.ok.0 ∙ ap (λ ns. length ns) are.0; default_is = are.1 } in
    let base = c.in_ok-base.ensures.base v counts p.shared in
    let checked = threads_checked v c.fault.result (c.fault.ensures.is (threads_member v) p.threads) in
    names _ c.from_residual-in_err-check.result c.in_err-check.field-0.0 (broken v)
    (broken-threads v c.in_err-check.field-0.0 processed told.0 base.0 (checked ∙ c.in_err-check.ensures)) c.from_residual-in_err-check.ensures.1

pub returns-in_err-threads-clause-profile : goal.returns-in_err-threads-clause-profile
returns-in_err-threads-clause-profile c = λ v is.
    let p = has_parts v c.args.parts c.in-Object.parts c.in-Object.is is in
    let m = has_meta v c.in-Object.parts.meta c.in-Object-meta.meta c.in-Object-meta.is p.meta in
    let processed : is_processed v ≡ true = sym m.processed ∙ c.if-not-processed.false in
    let told = c.in_ok-names.ensures.categories v m.categories in
    let are = parted c.in_ok-names.names.items (category_names v) c.in_ok-names.default (default_category v) told.1 in
    let counts : AreCounts v c.len-categories.result c.in_ok-names.default = record { categories_are = c.len-categories.ensures ∙ c.in_ok-names.names.ok.0 ∙ ap (λ ns. length ns) are.0; default_is = are.1 } in
    let base = c.in_ok-base.ensures.base v counts p.shared in
    let checked = threads_checked v c.fault.result (c.fault.ensures.is (threads_member v) p.threads) in
    let stands : StandsOn v c.len-categories.result c.in_ok-names.default c.in_ok-base.base = record { counts = counts; whole = base.0; base_is = base.1 } in
    let whole = checked ∙ c.in_ok-check.ensures in
    names-on (λ (n : ℕ). n ≡ n) _ c.in_err-threads.field-0.0 c.from_residual-in_err-threads.result (first_thread (thread_fails v) 0 (items_of (threads_member v))) (broken v)
    (c.in_err-threads.ensures.threads v (items_of (threads_member v)) stands (threads_fit v whole) (threads_kept v c.in-Object.parts.threads.threads.items whole p.threads.threads))
    (λ b e. broken-thread v (Some b) processed told.0 base.0 whole e) c.from_residual-in_err-threads.ensures.1

pub returns-clause-profile : goal.returns-clause-profile
returns-clause-profile c = λ v is.
    let p = has_parts v c.args.parts c.in-Object.parts c.in-Object.is is in
    let m = has_meta v c.in-Object.parts.meta c.in-Object-meta.meta c.in-Object-meta.is p.meta in
    let processed : is_processed v ≡ true = sym m.processed ∙ c.if-not-processed.false in
    let told = c.in_ok-names.ensures.categories v m.categories in
    let are = parted c.in_ok-names.names.items (category_names v) c.in_ok-names.default (default_category v) told.1 in
    let counts : AreCounts v c.len-categories.result c.in_ok-names.default = record { categories_are = c.len-categories.ensures ∙ c.in_ok-names.names.ok.0 ∙ ap (λ ns. length ns) are.0; default_is = are.1 } in
    let base = c.in_ok-base.ensures.base v counts p.shared in
    let checked = threads_checked v c.fault.result (c.fault.ensures.is (threads_member v) p.threads) in
    let stands : StandsOn v c.len-categories.result c.in_ok-names.default c.in_ok-base.base = record { counts = counts; whole = base.0; base_is = base.1 } in
    let whole = checked ∙ c.in_ok-check.ensures in
    let built = c.in_ok-threads.ensures.threads v (items_of (threads_member v)) stands (threads_fit v whole) (threads_kept v c.in-Object.parts.threads.threads.items whole p.threads.threads) in (
      broken-thread v None processed told.0 base.0 whole built.0,
      profile_is v (map (λ t. t.value) c.in_ok-threads.threads.items) c.in_ok-names.names.items c.in_ok-names.default built.1 are.0 are.1,
    )
