use Rattle.std.proofs.Common.{◌∙◌}
use Rattle.prof_session_desk.proofs.DeskLemmas.{seat_of, profile_is, sound_at}
use Rattle.prof_session_desk.proofs.AnswerLemmas.{saves_at}
use Rattle.prof_session_desk.proofs.desk.Desk.save_at.Goals as goal

pub saved-requires : goal.saved-requires
saved-requires g c =
    let ps = c.self.inside.profiles.items in
    let es = c.self.inside.seats.items in
    let b = c.index-2.result.now in
    let k = c.index.result.now in
    let s = seat_of ps es c.args.self.now c.args.name.now c.args.place b c.self.view_is c.self.invariant.0 c.requires.place c.requires.within c.index-2.ensures in
    let e = profile_is ps es c.args.self.now c.args.name.now c.args.place b c.profile_at-at_profile.result k c.self.view_is s c.index-2.ensures c.profile_at-at_profile.ensures.known c.index.ensures in
    sound_at ps b.1 k.1 s.seated e

pub returns-in-Ok-put-clause-step : goal.returns-in-Ok-put-clause-step
returns-in-Ok-put-clause-step g c =
    let ps = c.self.inside.profiles.items in
    let es = c.self.inside.seats.items in
    let b = c.index-2.result.now in
    let k = c.index.result.now in
    let s = seat_of ps es c.args.self.now c.args.name.now c.args.place b c.self.view_is c.self.invariant.0 c.requires.place c.requires.within c.index-2.ensures in
    let e = profile_is ps es c.args.self.now c.args.name.now c.args.place b c.profile_at-at_profile.result k c.self.view_is s c.index-2.ensures c.profile_at-at_profile.ensures.known c.index.ensures in
    λ _ _ kept. rw (← c.self.view_is) (saves_at ps es c.args.name.now c.args.place b k.1 c.version.result (g.K.Keeper.texts c.args.keeper.now) (g.K.Keeper.texts c.put.new.self) c.as_str.result.now
    s e c.version.ensures c.in-Ok-put.ensures.ok (c.as_str.ensures ∙ c.in-Ok.ensures) kept)
