-- Laws of requests that were answered
use Rattle.std.proofs.Common.{◌≡◌, ℕ, ◌+◌, ◌<◌, ◌&&◌, eqb, Bool, true, false, cond, List, length, Option, Some, None, unwrap_or, refl, sym, ap, ◌∙◌, arith}
use Rattle.std.specs.Str.{bytes_eq}
use Rattle.std.specs.List.{All}
use Rattle.prof_io.specs.Named.{value_at}
use Rattle.prof_io.specs.Shelf.{Shelf, file_at}
use Rattle.prof_io.proofs.NamedLemmas.{names_same, value_at-with_own}
use Rattle.prof_address.specs.declared.kind.Form.TheVariants.{Second}
use Rattle.prof_keep.specs.Saved.{IsSaved, saved_text}
use Rattle.prof_request.specs.declared.request.Command.{Command}
use Rattle.prof_request.specs.declared.request.Command.TheVariants as ask
use Rattle.prof_request.specs.declared.request.Request.{Request}
use Rattle.prof_machine.specs.declared.refusal.Refusal.{Refusal}
use Rattle.prof_machine.specs.declared.refusal.Refusal.TheVariants.{Stale}
use Rattle.prof_machine.specs.declared.refusal.Reply.{Reply}
use Rattle.prof_machine.specs.declared.refusal.Reply.TheVariants.{Done, Refused}
use Rattle.prof_machine.specs.Known.{Known, no_profile}
use Rattle.prof_machine.specs.Session.{Session, is_change, at_of, changed, is_last}
use Rattle.prof_machine.specs.Machine.{After, step, stays, change, acted, change_refusal, asked, unopened, profile_of, restored, saved, view_refusal}
use Rattle.prof_machine.proofs.SameLemmas.{own_change}
use Rattle.prof_session.proofs.ChangeLemmas.{asked_change, change_again}
use Rattle.prof_session.proofs.LawLemmas.{own_parts, is_stale, loads_saved}
use Rattle.prof_session_desk.specs.Desk.{AreAlike, DeskLists, Follows, IsStep, desk_step, own_of, sessions_of}
use Rattle.prof_session_desk.proofs.DeskLemmas.{step_there, step_lacking, cond_other}

-- the own session after a step
pub own_after : (old new : DeskLists) (name : List ℕ) (a : After) (reply : Reply) → Follows old new name a reply → own_of new name ≡ a.session
own_after old new name a reply f =
    ap (λ l. value_at l name) f.sessions ∙ (value_at-with_own name a.session (sessions_of old) name ∙ ap (λ t. cond t a.session (value_at (sessions_of old) name)) (names_same name name refl))

-- what a step gives, where that is known
pub gives : (old new : DeskLists) (before now : Option Shelf) (got : Option (List ℕ)) (request : Request) (reply : Reply) (h : IsStep old new before now got request reply) (a : After)
    → desk_step old request.session h.kept request.command ≡ a → (reply ≡ a.reply) × (own_of new request.session ≡ a.session)
gives old new before now got request reply h a e =
    (h.follows.reply ∙ ap (λ (x : After). x.reply) e, own_after old new request.session _ reply h.follows ∙ ap (λ (x : After). x.session) e)

pub alike : (old other : DeskLists) (name : List ℕ) (kept : Option (List ℕ)) (c : Command) → AreAlike old other name c → desk_step old name kept c ≡ desk_step other name kept c
alike old other name kept c h =
    own_parts old.profiles other.profiles (length old.seats) (own_of old name) kept c h.profile
    ∙ (ap (λ n. step other.profiles n (own_of old name) kept c) h.count ∙ ap (λ o. step other.profiles (length other.seats) o kept c) h.own)

pub answer_alike : (old new other next : DeskLists) (before now first then : Option Shelf) (got gave : Option (List ℕ)) (request : Request) (reply answer : Reply)
    → (a : IsStep old new before now got request reply) → (b : IsStep other next first then gave request answer)
    → AreAlike old other request.session request.command → a.kept ≡ b.kept → (reply ≡ answer) × (own_of new request.session ≡ own_of next request.session)
answer_alike old new other next before now first then got gave request reply answer a b h same =
    let e = alike old other request.session a.kept request.command h ∙ ap (λ k. desk_step other request.session k request.command) same in
    let x = gives old new before now got request reply a _ e in
    (x.0 ∙ sym b.follows.reply, x.1 ∙ sym (own_after other next request.session _ answer b.follows))

-- ---- repeats

-- a change of a session that isn't there isn't done
not_made : (profiles : List (List ℕ × Known)) (count : ℕ) (kept : Option (List ℕ)) (c : Command) (version : ℕ) → is_change c ≡ true → (unopened profiles count kept c).reply ≡ Done version → ⊥
not_made profiles count kept (ask.OpenOn p t) version is h = cc
not_made profiles count kept (ask.LoadOn p) version is h = cc
not_made profiles count kept c version is h = cc

-- a session in which a change was the last one to act, so that it is answered again
record Again (c : Command) (s : Session) (version : ℕ) : Type 0 where
  pub before : at_of c + 1 ≡ s.version
  pub last : is_last s.last c ≡ true
  pub answer : version ≡ s.version

same_eqb : (a b : ℕ) → eqb a b ≡ true → a ≡ b
same_eqb a b h = grind arith

both : (a b : Bool) → (a && b) ≡ true → (a ≡ true) × (b ≡ true)
both true true h = (refl, refl)
both true false h = cc
both false b h = cc

some_session : (s t : Session) → Some s ≡ Some t → s ≡ t
some_session s t h = cc

done_version : (m n : ℕ) → Done m ≡ Done n → m ≡ n
done_version m n h = cc

refused : (r : Refusal) (n : ℕ) → Refused r ≡ Done n → ⊥
refused r n h = cc

-- after a change that was done the session is one in which it is answered again
done_again : (p : Known) (s : Session) (kept : Option (List ℕ)) (c : Command) (version : ℕ) → is_change c ≡ true → (change p s kept c).reply ≡ Done version
    → (t : Session) × ((change p s kept c).session ≡ Some t) × Again c t version
done_again p s kept c version is = at (eqb (at_of c) s.version) (eqb (at_of c + 1) s.version && is_last s.last c) (change_refusal p s c) refl refl
  where
    at : (x y : Bool) (o : Option Refusal) → eqb (at_of c) s.version ≡ x → (eqb (at_of c + 1) s.version && is_last s.last c) ≡ y
        → (cond x (acted s kept c o) (cond y (stays (Some s) kept (Done s.version)) (stays (Some s) kept (Refused (Stale s.version))))).reply ≡ Done version
        → (t : Session) × ((cond x (acted s kept c o) (cond y (stays (Some s) kept (Done s.version)) (stays (Some s) kept (Refused (Stale s.version))))).session ≡ Some t) × Again c t version
    at true y (Some r) e f h = absurd (refused r version h)
    at true y None e f h = (changed s c, refl, record { before = ap (λ n. n + 1) (same_eqb (at_of c) s.version e); last = own_change c is; answer = sym (done_version (s.version + 1) version h) })
    at false true o e f h = let g = both (eqb (at_of c + 1) s.version) (is_last s.last c) f in (s, refl, record { before = same_eqb (at_of c + 1) s.version g.0; last = g.1; answer = sym (done_version s.version version h) })
    at false false o e f h = absurd (refused (Stale s.version) version h)

answered_again : (p : Known) (t : Session) (kept : Option (List ℕ)) (c : Command) (version : ℕ) → is_change c ≡ true → Again c t version → asked p t kept c ≡ stays (Some t) kept (Done version)
answered_again p t kept c version is h =
    asked_change p t kept c is ∙ (change_again p t c h.before h.last kept ∙ ap (λ n. stays (Some t) kept (Done n)) (sym h.answer))

module _ (old new : DeskLists) (before now : Option Shelf) (got : Option (List ℕ)) (request : Request) where
  -- a change that was done leaves a session in which it is answered again
  done_leaves : (version : ℕ) → is_change request.command ≡ true → IsStep old new before now got request (Done version) → (t : Session) × (own_of new request.session ≡ Some t) × Again request.command t version
  done_leaves version is h = at (own_of old request.session) refl
    where
      name : List ℕ
      name = request.session

      c : Command
      c = request.command

      at : (o : Option Session) → own_of old name ≡ o → (t : Session) × (own_of new name ≡ Some t) × Again c t version
      at None e = absurd (not_made old.profiles (length old.seats) h.kept c version is (ap (λ (x : After). x.reply) (sym (step_lacking old name h.kept c e)) ∙ sym h.follows.reply))
      at (Some s) e =
          let p = profile_of old.profiles s in
          let st : desk_step old name h.kept c ≡ change p s h.kept c = step_there old name h.kept s c e ∙ asked_change p s h.kept c is in
          let x = gives old new before now got request (Done version) h (change p s h.kept c) st in
          let d = done_again p s h.kept c version is (sym x.0) in
          (d.0, x.1 ∙ d.1, d.2)

  again_there : (t : Session) (version : ℕ) (reply : Reply) → is_change request.command ≡ true → own_of old request.session ≡ Some t → Again request.command t version → IsStep old new before now got request reply
      → (reply ≡ Done version) × (own_of new request.session ≡ own_of old request.session)
  again_there t version reply is own again h =
      let x = gives old new before now got request reply h (stays (Some t) h.kept (Done version))
      (step_there old request.session h.kept t request.command own ∙ answered_again (profile_of old.profiles t) t h.kept request.command version is again) in
      (x.0, x.1 ∙ sym own)

  pub stale_there : (reply : Reply) (s : Session) → is_change request.command ≡ true → own_of old request.session ≡ Some s → at_of request.command + 1 < s.version → IsStep old new before now got request reply
      → (reply ≡ Refused (Stale s.version)) × (own_of new request.session ≡ Some s)
  stale_there reply s is own past h =
      let p = profile_of old.profiles s in
      gives old new before now got request reply h (stays (Some s) h.kept (Refused (Stale s.version)))
      (step_there old request.session h.kept s request.command own ∙ (asked_change p s h.kept request.command is ∙ is_stale p s h.kept request.command past))

pub repeat_again : (old new later last : DeskLists) (before now first then : Option Shelf) (got gave : Option (List ℕ)) (request : Request) (version : ℕ) (reply : Reply)
    → is_change request.command ≡ true → IsStep old new before now got request (Done version)
    → own_of later request.session ≡ own_of new request.session → IsStep later last first then gave request reply
    → (reply ≡ Done version) × (own_of last request.session ≡ own_of later request.session)
repeat_again old new later last before now first then got gave request version reply is done same h =
    let d = done_leaves old new before now got request version is done in
    again_there later last first then gave request d.0 version reply is (same ∙ d.1) d.2 h

-- ---- saved and loaded

pub others_kept : (old new : DeskLists) (before now : Shelf) (got : Option (List ℕ)) (request : Request) (reply : Reply) (other : List ℕ)
    → IsStep old new (Some before) (Some now) got request reply → bytes_eq request.session other ≡ false → file_at now other ≡ file_at before other
others_kept old new before now got request reply other h apart = h.texts other ∙ cond_other _ _ _ apart

pub loaded_again : (old new later last : DeskLists) (before kept texts : Shelf) (then : Option Shelf) (got gave : Option (List ℕ)) (save load : Request) (reply : Reply) (profile : List ℕ) (s : Session) (p : Known) (version : ℕ)
    → save.command ≡ ask.Save → own_of old save.session ≡ Some s → value_at old.profiles s.profile ≡ Some p → All (λ v. view_refusal p v ≡ None) s.views → IsSaved Second (saved p s)
    → IsStep old new (Some before) (Some kept) got save (Done version)
    → file_at texts save.session ≡ file_at kept save.session
    → load.session ≡ save.session → load.command ≡ ask.LoadOn profile → own_of later load.session ≡ None → length later.seats < 1000 → value_at later.profiles profile ≡ Some p
    → IsStep later last (Some texts) then gave load reply
    → (reply ≡ Done version) × (own_of last load.session ≡ Some (restored profile (saved p s)))
loaded_again old new later last before kept texts then got gave save load reply profile s p version is own known accepted fits saves still name loads none few there h =
    let text = saved_text Second (saved p s) in
    let st : desk_step old save.session saves.kept save.command ≡ stays (Some s) (Some text) (Done s.version) =
    ap (desk_step old save.session saves.kept) is ∙ (step_there old save.session saves.kept s ask.Save own ∙ ap (λ o. asked (unwrap_or o no_profile) s saves.kept ask.Save) known) in
    let put : file_at kept save.session ≡ Some text =
    saves.texts save.session ∙ (ap (λ t. cond t (desk_step old save.session saves.kept save.command).kept (file_at before save.session)) (names_same save.session save.session refl) ∙ ap (λ (a : After). a.kept) st) in
    let shown : h.kept ≡ Some text = h.text ∙ (ap (file_at texts) name ∙ (still ∙ put)) in
    let on : Session = record s { profile = profile } in
    let step : desk_step later load.session h.kept load.command ≡ stays (Some (restored profile (saved p s))) (Some text) (Done s.version) =
    ap (desk_step later load.session h.kept) loads ∙ (ap (λ k. desk_step later load.session k (ask.LoadOn profile)) shown
    ∙ (ap (λ o. step_of o) none ∙ loads_saved later.profiles (length later.seats) p on there few accepted fits)) in
    let x = gives later last (Some texts) then gave load reply h _ step in
    let v : version ≡ s.version = done_version version s.version (saves.follows.reply ∙ ap (λ (a : After). a.reply) st) in
    (x.0 ∙ ap Done (sym v), x.1)
  where
    step_of : Option Session → After
    step_of o = step later.profiles (length later.seats) o (Some (saved_text Second (saved p s))) (ask.LoadOn profile)
