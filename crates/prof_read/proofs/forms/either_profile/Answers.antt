use Rattle.std.proofs.Common.{◌∙◌, ℕ, ◌≡◌, true, false, ap, subst, sym}
use Rattle.prof_gather.specs.declared.objects.Found.TheVariants as found
use Rattle.prof_gather.specs.Taking.{IsFound}
use Rattle.prof_grammar.specs.Value.{Value}
use Rattle.prof_layout.specs.Profile.{broken, categories_member, is_processed}
use Rattle.prof_gecko_layout.specs.GeckoProfile.{broken_of, entries, gecko_broken, is_gecko}
use Rattle.prof_members.specs.Gathered.{AreParts, IsCategoryList}
use Rattle.prof_processes.specs.Processes.{KeepEntries}
use Rattle.prof_read.proofs.Forming.{members_found, no_object, unknown_named}
use Rattle.prof_read.proofs.Profiles.{broken-gecko, broken-unknown, profile-gecko}
use Rattle.prof_read.proofs.Refusing.{names-on}
use Rattle.prof_read.proofs.Texts.{broken-processed, profile-processed}
use Rattle.prof_read.proofs.forms.either_profile.Goals as goal

pub returns-in_default : goal.returns-in_default
returns-in_default c = record {
  building = rw c.unknown_format.ensures tt;
  profile = λ v is. unknown_named (λ (n : ℕ). n ≡ n) c.unknown_format.result (broken_of v) c.unknown_format.ensures (no_object v c.args.parts c.in_default.not-Object is);
  form = λ v is. tt;
}

pub returns-in_err-profile-clause-profile : goal.returns-in_err-profile-clause-profile
returns-in_err-profile-clause-profile c = λ v is.
    let m = members_found v c.args.parts c.in-Object.parts c.in-Object.is is in
    let processed : is_processed v ≡ true = ap is_processed m.is ∙ sym (c.is_processed.ensures m.members m.are) ∙ c.if-is_processed.true in
    let gathered : IsFound AreParts v (found.Object c.processed.result) = subst (λ (w : Value). IsFound AreParts w (found.Object c.processed.result)) (sym m.is) (c.processed.ensures m.members m.are) in
    names-on (λ (n : ℕ). n ≡ n) _ c.in_err-profile.field-0.0 c.from_residual.result (broken v) (broken_of v) (c.in_err-profile.ensures.profile v gathered)
    (λ b e. broken-processed v processed ∙ e) c.from_residual.ensures.1

pub returns-then-is_processed-clause-profile : goal.returns-then-is_processed-clause-profile
returns-then-is_processed-clause-profile c = λ v is.
    let m = members_found v c.args.parts c.in-Object.parts c.in-Object.is is in
    let processed : is_processed v ≡ true = ap is_processed m.is ∙ sym (c.is_processed.ensures m.members m.are) ∙ c.if-is_processed.true in
    let gathered : IsFound AreParts v (found.Object c.processed.result) = subst (λ (w : Value). IsFound AreParts w (found.Object c.processed.result)) (sym m.is) (c.processed.ensures m.members m.are) in
    let told = c.in_ok-profile.ensures.profile v gathered in (
      broken-processed v processed ∙ told.0,
      told.1 ∙ sym (profile-processed v processed),
    )

pub returns-then-not-has_version-clause-profile : goal.returns-then-not-has_version-clause-profile
returns-then-not-has_version-clause-profile c = λ v is.
    let m = members_found v c.args.parts c.in-Object.parts c.in-Object.is is in
    let processed : is_processed v ≡ false = ap is_processed m.is ∙ sym (c.is_processed.ensures m.members m.are) ∙ c.if-is_processed.false in
    let gecko : is_gecko v ≡ false = ap is_gecko m.is ∙ sym (c.has_version.ensures m.members m.are) ∙ c.if-not-has_version.true in
    unknown_named (λ (n : ℕ). n ≡ n) c.unknown_format-then-not-has_version.result (broken_of v) c.unknown_format-then-not-has_version.ensures (broken-unknown v processed gecko)

pub returns-in_err-profile-2-clause-profile : goal.returns-in_err-profile-2-clause-profile
returns-in_err-profile-2-clause-profile c = λ v is.
    let m = members_found v c.args.parts c.in-Object.parts c.in-Object.is is in
    let processed : is_processed v ≡ false = ap is_processed m.is ∙ sym (c.is_processed.ensures m.members m.are) ∙ c.if-is_processed.false in
    let gecko : is_gecko v ≡ true = ap is_gecko m.is ∙ sym (c.has_version.ensures m.members m.are) ∙ c.if-not-has_version.false in
    let categories = subst (λ (w : Value). IsCategoryList (categories_member w) c.gecko.result.categories) (sym m.is) (c.gecko.ensures.categories m.members m.are) in
    let keeps = subst (λ (w : Value). KeepEntries (entries w) c.gecko.result.root) (sym m.is) (c.gecko.ensures.root m.members m.are) in
    names-on (λ (n : ℕ). n ≡ n) _ c.in_err-profile-2.field-0.0 c.from_residual-in_err-profile-2.result (gecko_broken v) (broken_of v) (c.in_err-profile-2.ensures.profile v categories keeps)
    (λ b e. broken-gecko v processed gecko ∙ e) c.from_residual-in_err-profile-2.ensures.1

pub returns-clause-profile : goal.returns-clause-profile
returns-clause-profile c = λ v is.
    let m = members_found v c.args.parts c.in-Object.parts c.in-Object.is is in
    let processed : is_processed v ≡ false = ap is_processed m.is ∙ sym (c.is_processed.ensures m.members m.are) ∙ c.if-is_processed.false in
    let gecko : is_gecko v ≡ true = ap is_gecko m.is ∙ sym (c.has_version.ensures m.members m.are) ∙ c.if-not-has_version.false in
    let categories = subst (λ (w : Value). IsCategoryList (categories_member w) c.gecko.result.categories) (sym m.is) (c.gecko.ensures.categories m.members m.are) in
    let keeps = subst (λ (w : Value). KeepEntries (entries w) c.gecko.result.root) (sym m.is) (c.gecko.ensures.root m.members m.are) in
    let told = c.in_ok-profile-2.ensures.profile v categories keeps in (
      broken-gecko v processed gecko ∙ told.0,
      told.1 ∙ sym (profile-gecko v processed),
    )
