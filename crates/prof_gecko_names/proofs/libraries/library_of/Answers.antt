use Rattle.std.proofs.Common.{◌≡◌, length, refl, sym, ◌∙◌, arith}
use Rattle.std.proofs.lemmas.List.{get_or_read_under}
use Rattle.prof_gecko_names.specs.Libraries.{lib_at, no_lib}
use Rattle.prof_gecko_names.proofs.FirstLibrary.{found}
use Rattle.prof_gecko_names.proofs.libraries.library_of.Goals as goal

pub returns-then-has_address-clause-value : goal.returns-then-has_address-clause-value
returns-then-has_address-clause-value c =
    let same : c.index-libs-l.result ≡ lib_at c.args.libs.now c.loop-l.l = get_or_read_under c.args.libs.now c.loop-l.l (length c.args.libs.now) c.index-libs-l.result no_lib c.index-libs-l.is (omega arith) refl in
    found c.args.address c.args.libs.now c.loop-l.l (omega arith) c.loop-l.invariant (rw (← same) (sym c.has_address.ensures.value ∙ c.if-has_address.true))
