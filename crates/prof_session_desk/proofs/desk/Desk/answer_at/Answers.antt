use Rattle.std.proofs.Common.{◌≡◌, ◌≢◌, ◌∙◌, sym, refl, set, subst, length, ◌<◌, true, List, ℕ, Option}
use Rattle.prof_machine.specs.declared.refusal.Reply.TheVariants.{NoMemory}
use Rattle.prof_machine.specs.Memory.{is_lean}
use Rattle.prof_session_desk.specs.Desk.{DeskLists, desk_step, own_of}
use Rattle.prof_session_desk.proofs.DeskLemmas.{desk_with, seat_of, profile_is, sound_at, seated_new, answered, name_set}
use Rattle.prof_session_desk.proofs.AnswerLemmas.{stays_at, lays_at, reads_at, lean_at}
use Rattle.prof_session_desk.proofs.desk.Desk.answer_at.Goals as goal

pub answer-requires-clause-sound : goal.answer-requires-clause-sound
answer-requires-clause-sound g c =
    let ps = c.self.inside.profiles.items in
    let es = c.self.inside.seats.items in
    let b = c.index_mut.result.now in
    let k = c.index.result.now in
    let s = seat_of ps es c.args.self.now c.args.name.now c.args.place b c.self.view_is c.self.invariant.0 c.requires.place c.requires.within c.index_mut.ensures.value in
    let e = profile_is ps es c.args.self.now c.args.name.now c.args.place b c.profile_at-at_profile.result k c.self.view_is s c.index_mut.ensures.value c.profile_at-at_profile.ensures.known c.index.ensures in
    sound_at ps b.1 k.1 s.seated e

pub invariant_of-self : goal.invariant_of-self
invariant_of-self g c =
    let ps = c.self.inside.profiles.items in
    let es = c.self.inside.seats.items in
    let b = c.index_mut.result.now in
    let k = c.index.result.now in
    let s = seat_of ps es c.args.self.now c.args.name.now c.args.place b c.self.view_is c.self.invariant.0 c.requires.place c.requires.within c.index_mut.ensures.value in
    let e = profile_is ps es c.args.self.now c.args.name.now c.args.place b c.profile_at-at_profile.result k c.self.view_is s c.index_mut.ensures.value c.profile_at-at_profile.ensures.known c.index.ensures in (
      desk_with ps es (set es c.args.place (b.0, c.answer.new.self)) c.args.name.now c.answer.new.self c.self.invariant.0 (seated_new ps b.1 c.answer.new.self k.1 s.seated e c.answer.ensures.profile c.answer.ensures.sound) (s.put c.answer.new.self),
      c.self.invariant.1 ∙ sym (name_set es c.args.place b c.answer.new.self (subst (λ (d : DeskLists). c.args.place < length d.seats) (sym c.self.view_is) c.requires.within) c.index_mut.ensures.value),
    )

pub returns-clause-step : goal.returns-clause-step
returns-clause-step g c =
    let ps = c.self.inside.profiles.items in
    let es = c.self.inside.seats.items in
    let b = c.index_mut.result.now in
    let k = c.index.result.now in
    let s = seat_of ps es c.args.self.now c.args.name.now c.args.place b c.self.view_is c.self.invariant.0 c.requires.place c.requires.within c.index_mut.ensures.value in
    let e = profile_is ps es c.args.self.now c.args.name.now c.args.place b c.profile_at-at_profile.result k c.self.view_is s c.index_mut.ensures.value c.profile_at-at_profile.ensures.known c.index.ensures in
    λ some kept. rw (← c.self.view_is) (answered ps es (set es c.args.place (b.0, c.answer.new.self)) c.args.name.now c.args.place b k.1 c.answer.new.self c.args.command.now c.answer.result kept s e refl (c.answer.ensures.step some kept))

pub returns-clause-starved : goal.returns-clause-starved
returns-clause-starved g c =
    let ps = c.self.inside.profiles.items in
    let es = c.self.inside.seats.items in
    let b = c.index_mut.result.now in
    let k = c.index.result.now in
    let s = seat_of ps es c.args.self.now c.args.name.now c.args.place b c.self.view_is c.self.invariant.0 c.requires.place c.requires.within c.index_mut.ensures.value in
    let e = profile_is ps es c.args.self.now c.args.name.now c.args.place b c.profile_at-at_profile.result k c.self.view_is s c.index_mut.ensures.value c.profile_at-at_profile.ensures.known c.index.ensures in
    λ none before. rw (← c.self.view_is) (stays_at ps es c.args.name.now c.args.place b k.1 s e c.answer.new.self before (c.answer.ensures.starved none))

pub returns-clause-layers : goal.returns-clause-layers
returns-clause-layers g c =
    let ps = c.self.inside.profiles.items in
    let es = c.self.inside.seats.items in
    let b = c.index_mut.result.now in
    let k = c.index.result.now in
    let s = seat_of ps es c.args.self.now c.args.name.now c.args.place b c.self.view_is c.self.invariant.0 c.requires.place c.requires.within c.index_mut.ensures.value in
    let e = profile_is ps es c.args.self.now c.args.name.now c.args.place b c.profile_at-at_profile.result k c.self.view_is s c.index_mut.ensures.value c.profile_at-at_profile.ensures.known c.index.ensures in
    rw (← c.self.view_is) (lays_at ps es c.args.name.now c.args.place b k.1 s e c.answer.new.self c.args.command.now c.answer.result c.answer.ensures.layers)

pub returns-clause-reads : goal.returns-clause-reads
returns-clause-reads g c =
    let ps = c.self.inside.profiles.items in
    let es = c.self.inside.seats.items in
    let b = c.index_mut.result.now in
    let k = c.index.result.now in
    let s = seat_of ps es c.args.self.now c.args.name.now c.args.place b c.self.view_is c.self.invariant.0 c.requires.place c.requires.within c.index_mut.ensures.value in
    let e = profile_is ps es c.args.self.now c.args.name.now c.args.place b c.profile_at-at_profile.result k c.self.view_is s c.index_mut.ensures.value c.profile_at-at_profile.ensures.known c.index.ensures in
    rw (← c.self.view_is) (reads_at ps es c.args.name.now c.args.place b k.1 s e c.args.command.now c.args.reads.now c.answer.new.reads c.answer.ensures.reads)

pub returns-clause-lean : goal.returns-clause-lean
returns-clause-lean g c =
    let ps = c.self.inside.profiles.items in
    let es = c.self.inside.seats.items in
    let b = c.index_mut.result.now in
    let k = c.index.result.now in
    let s = seat_of ps es c.args.self.now c.args.name.now c.args.place b c.self.view_is c.self.invariant.0 c.requires.place c.requires.within c.index_mut.ensures.value in
    let e = profile_is ps es c.args.self.now c.args.name.now c.args.place b c.profile_at-at_profile.result k c.self.view_is s c.index_mut.ensures.value c.profile_at-at_profile.ensures.known c.index.ensures in
    let d : DeskLists = record { profiles = ps; seats = es } in
    let at_kept : (kept : Option (List ℕ)) → is_lean c.args.command.now (own_of d c.args.name.now) (desk_step d c.args.name.now kept c.args.command.now) ≡ true → c.answer.result ≢ NoMemory =
    λ kept h. c.answer.ensures.lean kept (sym (lean_at ps es c.args.name.now c.args.place b k.1 s e c.args.command.now kept) ∙ h) in
    rw (← c.self.view_is) at_kept
