use Rattle.std.proofs.Common.{arith, ◌≡◌, ◌<◌, ◌∙◌, [], ap, subst, length, get_or, ◌≤◌, ℕ, List, Option}
use Rattle.prof_io.specs.Named.{place_of, value_at}
use Rattle.prof_io.proofs.NamedLemmas.{value_lacks, value_there}
use Rattle.prof_machine.specs.Known.{Known, no_profile}
use Rattle.prof_machine.specs.Machine.{load_refusal, text_refusal}
use Rattle.prof_session_desk.proofs.DeskLemmas.{value_here}
use Rattle.prof_session.proofs.KeptLemmas.{text_load}
use Rattle.prof_session_desk.proofs.MakeLemmas.{full_load, asks_there, asks_nothing, asks_full}
use Rattle.prof_session_desk.proofs.desk.Desk.loading.Goals as goal

pub returns-then-at-len-clause-refused : goal.returns-then-at-len-clause-refused
returns-then-at-len-clause-refused c =
    let ps = c.self.inside.profiles.items in
    let found : c.find-at.result ≡ place_of ps c.args.profile.now = c.find-at.ensures ∙ ap (λ l. place_of l c.args.profile.now) c.deref.ensures.value in
    let past : length ps ≤ place_of ps c.args.profile.now = subst (λ n. length ps ≤ n) found (omega (arith, c.self.inside.profiles.ok.0)) in
    λ kept. rw (← c.self.view_is) (ap (λ o. load_refusal o (length c.self.inside.seats.items) kept) (value_lacks ps c.args.profile.now past))

pub returns-then-len-ge-MOST_SESSIONS-clause-refused : goal.returns-then-len-ge-MOST_SESSIONS-clause-refused
returns-then-len-ge-MOST_SESSIONS-clause-refused c =
    let ps = c.self.inside.profiles.items in
    let none : List ℕ × Known = ([], no_profile) in
    let found : c.find-at.result ≡ place_of ps c.args.profile.now = c.find-at.ensures ∙ ap (λ l. place_of l c.args.profile.now) c.deref.ensures.value in
    let within : place_of ps c.args.profile.now < length ps = subst (λ n. n < length ps) found (omega (arith, c.self.inside.profiles.ok.0)) in
    let there = value_there ps c.args.profile.now none within in
    λ kept. rw (← c.self.view_is) (ap (λ o. load_refusal o (length c.self.inside.seats.items) kept) there ∙ full_load _ (length c.self.inside.seats.items) kept (omega (arith, c.self.inside.seats.ok.0)))

pub returns-clause-asks : goal.returns-clause-asks
returns-clause-asks c =
    let ps = c.self.inside.profiles.items in
    let none : List ℕ × Known = ([], no_profile) in
    let found : c.find-at.result ≡ place_of ps c.args.profile.now = c.find-at.ensures ∙ ap (λ l. place_of l c.args.profile.now) c.deref.ensures.value in
    let within : place_of ps c.args.profile.now < length ps = subst (λ n. n < length ps) found (omega (arith, c.self.inside.profiles.ok.0)) in
    rw (← c.self.view_is) (asks_there (value_at ps c.args.profile.now) _ (length c.self.inside.seats.items) (value_there ps c.args.profile.now none within) (omega (arith, c.self.inside.seats.ok.0)))

pub returns-clause-text : goal.returns-clause-text
returns-clause-text c =
    let ps = c.self.inside.profiles.items in
    let es = c.self.inside.seats.items in
    let found : c.find-at.result ≡ place_of ps c.args.profile.now = c.find-at.ensures ∙ ap (λ l. place_of l c.args.profile.now) c.deref.ensures.value in
    let within : c.find-at.result < length ps = omega (arith, c.self.inside.profiles.ok.0) in
    let few : length es < 1000 = omega (arith, c.self.inside.seats.ok.0) in
    let all : (e : List ℕ × Known) (kept : Option (List ℕ)) → e ≡ get_or ps c.find-at.result e → load_refusal (value_at ps c.args.profile.now) (length es) kept ≡ text_refusal e.1 kept =
    λ e kept y. ap (λ o. load_refusal o (length es) kept) (value_here ps c.args.profile.now c.find-at.result e found within y) ∙ text_load e.1 (length es) kept few in
    rw (← c.self.view_is) all

pub returns-then-at-len-clause-unasked : goal.returns-then-at-len-clause-unasked
returns-then-at-len-clause-unasked c =
    let ps = c.self.inside.profiles.items in
    let found : c.find-at.result ≡ place_of ps c.args.profile.now = c.find-at.ensures ∙ ap (λ l. place_of l c.args.profile.now) c.deref.ensures.value in
    let past : length ps ≤ place_of ps c.args.profile.now = subst (λ n. length ps ≤ n) found (omega (arith, c.self.inside.profiles.ok.0)) in
    rw (← c.self.view_is) (asks_nothing (value_at ps c.args.profile.now) (length c.self.inside.seats.items) (value_lacks ps c.args.profile.now past))

pub returns-then-len-ge-MOST_SESSIONS-clause-unasked : goal.returns-then-len-ge-MOST_SESSIONS-clause-unasked
returns-then-len-ge-MOST_SESSIONS-clause-unasked c =
    let ps = c.self.inside.profiles.items in
    let none : List ℕ × Known = ([], no_profile) in
    let found : c.find-at.result ≡ place_of ps c.args.profile.now = c.find-at.ensures ∙ ap (λ l. place_of l c.args.profile.now) c.deref.ensures.value in
    let within : place_of ps c.args.profile.now < length ps = subst (λ n. n < length ps) found (omega (arith, c.self.inside.profiles.ok.0)) in
    rw (← c.self.view_is) (asks_full (value_at ps c.args.profile.now) _ (length c.self.inside.seats.items) (value_there ps c.args.profile.now none within) (omega (arith, c.self.inside.seats.ok.0)))
