-- Laws of the machine
use Rattle.std.proofs.Common.{◌≡◌, ℕ, ◌+◌, ◌<◌, eqb, Bool, true, false, not, ◌&&◌, List, [], ◌∷◌, map, length, Option, Some, None, unwrap_or, refl, sym, ap, ◌∙◌, arith}
use Rattle.std.specs.Prelude.{Result, Ok, Err}
use Rattle.std.specs.List.{All}
use Rattle.std.specs.Option.{option_map}
use Rattle.std.specs.Result.{result_unwrap_or}
use Rattle.std.proofs.lemmas.List.Elements.{All-drop}
use Rattle.prof_io.specs.Named.{value_at}
use Rattle.prof_io.proofs.NamedLemmas.{names_same}
use Rattle.prof_path.specs.Views.{ViewLists}
use Rattle.prof_address.specs.declared.kind.Form.TheVariants.{Second}
use Rattle.prof_keep.specs.Saved.{IsSaved, saved_text}
use Rattle.prof_keep.proofs.SavedLemmas.{saved_of, saved_back}
use Rattle.prof_request.specs.declared.request.Command.{Command}
use Rattle.prof_request.specs.declared.request.Command.TheVariants as ask
use Rattle.prof_machine.specs.declared.refusal.Refusal.TheVariants.{Stale, OtherProfile, BadSaved}
use Rattle.prof_machine.specs.declared.refusal.Reply.TheVariants.{Done, Refused}
use Rattle.prof_machine.specs.Known.{Known, no_profile}
use Rattle.prof_machine.specs.Session.{Session, opened, is_change, at_of, changed, is_last}
use Rattle.prof_machine.specs.Machine.{change, change_refusal, stays, step, asked, acted, made, open_refusal, load_refusal, read_refusal, view_refusal, first_of, when, restored, saved, saved_in, no_saved}
use Rattle.prof_machine.proofs.RuleLemmas.{both_none}
use Rattle.prof_machine.proofs.SameLemmas.{own_change}
use Rattle.prof_session.specs.Seated.{profile_named}
use Rattle.prof_session.proofs.ChangeLemmas.{change_acts, change_again, change_stale, other_number}
use Rattle.prof_session.proofs.KeptLemmas.{text_load}

pub acts_once : (p : Known) (s : Session) (kept : Option (List ℕ)) (c : Command) → is_change c ≡ true → at_of c ≡ s.version → change_refusal p s c ≡ None
    → (change p s kept c ≡ stays (Some (changed s c)) kept (Done (s.version + 1))) × (change p (changed s c) kept c ≡ stays (Some (changed s c)) kept (Done (s.version + 1)))
acts_once p s kept c is at h =
    (change_acts p s c at kept ∙ ap (acted s kept c) h, change_again p (changed s c) c (ap (λ n. n + 1) at) (own_change c is) kept)

pub is_stale : (p : Known) (s : Session) (kept : Option (List ℕ)) (c : Command) → at_of c + 1 < s.version → change p s kept c ≡ stays (Some s) kept (Refused (Stale s.version))
is_stale p s kept c h =
    change_stale p s c (λ e. absurd (omega arith)) (ap (λ b. b && is_last s.last c) (other_number (at_of c + 1) s.version (λ e. absurd (omega arith)))) kept

pub own_parts : (ps qs : List (List ℕ × Known)) (count : ℕ) (own : Option Session) (kept : Option (List ℕ)) (c : Command)
    → ((name : List ℕ) → profile_named own c ≡ Some name → value_at ps name ≡ value_at qs name) → step ps count own kept c ≡ step qs count own kept c
own_parts ps qs count (Some s) kept c h = ap (λ o. asked (unwrap_or o no_profile) s kept c) (h s.profile refl)
own_parts ps qs count None kept (ask.OpenOn profile thread) h = ap (λ o. made kept (opened profile thread) (open_refusal o thread count)) (h profile refl)
own_parts ps qs count None kept (ask.LoadOn profile) h = ap (λ o. made kept (restored profile (saved_in kept)) (load_refusal o count kept)) (h profile refl)
own_parts ps qs count None kept c h = refl

-- ---- what was saved is loaded

none_refused : (p : Known) (vs : List ViewLists) → All (λ v. view_refusal p v ≡ None) vs → first_of (map (view_refusal p) vs) ≡ None
none_refused p [] h = refl
none_refused p (v ∷ vs) h = both_none _ _ (h 0 v (omega arith)) (none_refused p vs (All-drop (λ v. view_refusal p v ≡ None) 1 (v ∷ vs) h))

own_digest : (p : Known) (s : Session) (size : ℕ) → All (λ v. view_refusal p v ≡ None) s.views → read_refusal p size (Ok (saved p s)) ≡ None
own_digest p s size h =
    ap (λ b. first_of (when (not b) (OtherProfile p.digest p.digest) ∷ option_map (λ _. BadSaved size) (first_of (map (view_refusal p) s.views)) ∷ [])) (names_same p.digest p.digest refl)
    ∙ ap (λ o. first_of (None ∷ option_map (λ _. BadSaved size) o ∷ [])) (none_refused p s.views h)

pub loads_saved : (profiles : List (List ℕ × Known)) (count : ℕ) (p : Known) (s : Session) → value_at profiles s.profile ≡ Some p → count < 1000 → All (λ v. view_refusal p v ≡ None) s.views → IsSaved Second (saved p s)
    → step profiles count None (Some (saved_text Second (saved p s))) (ask.LoadOn s.profile) ≡ stays (Some (restored s.profile (saved p s))) (Some (saved_text Second (saved p s))) (Done s.version)
loads_saved profiles count p s known few accepted fits =
    let text = saved_text Second (saved p s) in
    let back : saved_of text ≡ Ok (saved p s) = saved_back Second (saved p s) fits in
    let none : load_refusal (value_at profiles s.profile) count (Some text) ≡ None =
    ap (λ o. load_refusal o count (Some text)) known ∙ (text_load p count (Some text) few ∙ (ap (read_refusal p (length text)) back ∙ own_digest p s (length text) accepted)) in
    ap (made (Some text) (restored s.profile (saved_in (Some text)))) none
    ∙ ap (λ r. let q : Session = restored s.profile (result_unwrap_or r no_saved) in stays (Some q) (Some text) (Done q.version)) back
