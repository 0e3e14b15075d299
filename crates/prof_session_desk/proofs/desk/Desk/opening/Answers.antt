use Rattle.std.proofs.Common.{arith, ◌≡◌, ◌∙◌, ap, subst, length, ◌≤◌, Some}
use Rattle.prof_io.specs.Named.{place_of, value_at}
use Rattle.prof_io.proofs.NamedLemmas.{value_lacks}
use Rattle.prof_machine.specs.Machine.{open_refusal}
use Rattle.prof_session_desk.proofs.DeskLemmas.{value_here}
use Rattle.prof_session_desk.proofs.MakeLemmas.{no_thread_there, no_room_there, room_there}
use Rattle.prof_session_desk.proofs.desk.Desk.opening.Goals as goal

pub returns-then-at-len-clause-refused : goal.returns-then-at-len-clause-refused
returns-then-at-len-clause-refused c =
    let ps = c.self.inside.profiles.items in
    let found : c.find-at.result ≡ place_of ps c.args.profile.now = c.find-at.ensures ∙ ap (λ l. place_of l c.args.profile.now) c.deref.ensures.value in
    let past : length ps ≤ place_of ps c.args.profile.now = subst (λ n. length ps ≤ n) found (omega (arith, c.self.inside.profiles.ok.0)) in
    rw (← c.self.view_is) (ap (λ o. open_refusal o c.args.thread (length c.self.inside.seats.items)) (value_lacks ps c.args.profile.now past))

pub returns-then-thread-threads-clause-refused : goal.returns-then-thread-threads-clause-refused
returns-then-thread-threads-clause-refused c =
    let ps = c.self.inside.profiles.items in
    let found : c.find-at.result ≡ place_of ps c.args.profile.now = c.find-at.ensures ∙ ap (λ l. place_of l c.args.profile.now) c.deref.ensures.value in
    let there : value_at ps c.args.profile.now ≡ Some c.index.result.now.1 = value_here ps c.args.profile.now c.find-at.result c.index.result.now found (omega (arith, c.self.inside.profiles.ok.0)) c.index.ensures in
    rw (← c.self.view_is) (ap (λ o. open_refusal o c.args.thread (length c.self.inside.seats.items)) there ∙ no_thread_there c.index.result.now.1 c.args.thread _ c.count-threads.result c.count-threads.ensures.count (omega arith))

pub returns-then-len-ge-MOST_SESSIONS-clause-refused : goal.returns-then-len-ge-MOST_SESSIONS-clause-refused
returns-then-len-ge-MOST_SESSIONS-clause-refused c =
    let ps = c.self.inside.profiles.items in
    let found : c.find-at.result ≡ place_of ps c.args.profile.now = c.find-at.ensures ∙ ap (λ l. place_of l c.args.profile.now) c.deref.ensures.value in
    let there : value_at ps c.args.profile.now ≡ Some c.index.result.now.1 = value_here ps c.args.profile.now c.find-at.result c.index.result.now found (omega (arith, c.self.inside.profiles.ok.0)) c.index.ensures in
    rw (← c.self.view_is) (ap (λ o. open_refusal o c.args.thread (length c.self.inside.seats.items)) there
    ∙ no_room_there c.index.result.now.1 c.args.thread _ c.count-threads.result c.count-threads.ensures.count (omega arith) (omega (arith, c.self.inside.seats.ok.0)))

pub returns-clause-none : goal.returns-clause-none
returns-clause-none c =
    let ps = c.self.inside.profiles.items in
    let found : c.find-at.result ≡ place_of ps c.args.profile.now = c.find-at.ensures ∙ ap (λ l. place_of l c.args.profile.now) c.deref.ensures.value in
    let there : value_at ps c.args.profile.now ≡ Some c.index.result.now.1 = value_here ps c.args.profile.now c.find-at.result c.index.result.now found (omega (arith, c.self.inside.profiles.ok.0)) c.index.ensures in
    rw (← c.self.view_is) (ap (λ o. open_refusal o c.args.thread (length c.self.inside.seats.items)) there
    ∙ room_there c.index.result.now.1 c.args.thread _ c.count-threads.result c.count-threads.ensures.count (omega arith) (omega (arith, c.self.inside.seats.ok.0)))
