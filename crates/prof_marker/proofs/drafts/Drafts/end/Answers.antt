use Rattle.std.proofs.Common.{◌≡◌, ℕ, List, length, set, Option, sym, ap, ◌∙◌, refl, get_or, Result, Ok, Err}
use Rattle.std.specs.Prelude.{slice_get, OnOk}
use Rattle.prof_marker.specs.declared.drafts.Standing.TheVariants.{Whole}
use Rattle.prof_marker.specs.Markers.{closed_by}
use Rattle.prof_marker.specs.Kept.{behind_of}
use Rattle.prof_marker.proofs.Keeping.{IsRead, keeps_along, struck_within, struck_made, struck_draft, read_close, read_closed, read_unstarted}
use Rattle.prof_marker.proofs.drafts.Drafts.end.Goals as goal

pub close-requires-clause-place : goal.close-requires-clause-place
close-requires-clause-place c =
    let n = c.name_place-name in
    let r : IsRead c.args.strings.now c.args.self.now.markers.items c.args.self.now.standings.items c.args.self.now.latest.items c.args.self.now.firsts.items n.new.self.firsts.items c.args.row.name n.result c.index.result.now =
    record { kept = c.requires.kept; many = n.ensures.many; firsts = n.ensures.firsts; placed = c.requires.name; first = n.ensures.place; within = n.ensures.within; latest = c.index.ensures ∙ ap (λ (l : List (Option ℕ)). get_or l n.result c.index.result.now) n.ensures.latest }
    in
    rw n.ensures.markers (struck_within r c.in-Some.place c.in-Some.is).0

pub returns-in-Some-clause-kept : goal.returns-in-Some-clause-kept
returns-in-Some-clause-kept c =
    let n = c.name_place-name in
    let r : IsRead c.args.strings.now c.args.self.now.markers.items c.args.self.now.standings.items c.args.self.now.latest.items c.args.self.now.firsts.items n.new.self.firsts.items c.args.row.name n.result c.index.result.now =
    record { kept = c.requires.kept; many = n.ensures.many; firsts = n.ensures.firsts; placed = c.requires.name; first = n.ensures.place; within = n.ensures.within; latest = c.index.ensures ∙ ap (λ (l : List (Option ℕ)). get_or l n.result c.index.result.now) n.ensures.latest }
    in
    let made = struck_made r c.in-Some.place c.in-Some.is in
    let new = (closed_by c.args.row (struck_draft r c.in-Some.place c.in-Some.is)).marker in
    keeps_along
    (c.close.ensures.markers _ (ap (λ l. slice_get l c.in-Some.place) n.ensures.markers ∙ made.marker_at) ∙ ap (λ l. set l c.in-Some.place new) n.ensures.markers)
    (c.close.ensures.standings ∙ ap (λ l. set l c.in-Some.place Whole) n.ensures.standings)
    (c.close.ensures.latest made.standing (ap (λ l. slice_get l c.in-Some.place) n.ensures.standings ∙ made.standing_at) ∙ ap (λ l. set l n.result (behind_of made.standing)) n.ensures.latest)
    c.close.ensures.firsts
    (read_close r c.in-Some.place c.in-Some.is new refl)

pub returns-in-Some-clause-drafts : goal.returns-in-Some-clause-drafts
returns-in-Some-clause-drafts c =
    let n = c.name_place-name in
    let r : IsRead c.args.strings.now c.args.self.now.markers.items c.args.self.now.standings.items c.args.self.now.latest.items c.args.self.now.firsts.items n.new.self.firsts.items c.args.row.name n.result c.index.result.now =
    record { kept = c.requires.kept; many = n.ensures.many; firsts = n.ensures.firsts; placed = c.requires.name; first = n.ensures.place; within = n.ensures.within; latest = c.index.ensures ∙ ap (λ (l : List (Option ℕ)). get_or l n.result c.index.result.now) n.ensures.latest }
    in
    let made = struck_made r c.in-Some.place c.in-Some.is in
    let markers = c.close.ensures.markers (struck_draft r c.in-Some.place c.in-Some.is).marker (ap (λ l. slice_get l c.in-Some.place) n.ensures.markers ∙ made.marker_at) in
    rw (markers, c.close.ensures.standings, n.ensures.markers, n.ensures.standings) (read_closed r c.in-Some.place c.in-Some.is c.args.times.first c.args.row refl)

-- a fact on success, from another
on_ok : {T E A B : Type 0} (r : Result T E) → OnOk r A → (A → B) → OnOk r B
on_ok (Ok x) a f = f a
on_ok (Err e) a f = tt

pub returns-in-None-clause-drafts : goal.returns-in-None-clause-drafts
returns-in-None-clause-drafts c =
    let n = c.name_place-name in
    let r : IsRead c.args.strings.now c.args.self.now.markers.items c.args.self.now.standings.items c.args.self.now.latest.items c.args.self.now.firsts.items n.new.self.firsts.items c.args.row.name n.result c.index.result.now =
    record { kept = c.requires.kept; many = n.ensures.many; firsts = n.ensures.firsts; placed = c.requires.name; first = n.ensures.place; within = n.ensures.within; latest = c.index.ensures ∙ ap (λ (l : List (Option ℕ)). get_or l n.result c.index.result.now) n.ensures.latest }
    in
    let many : length n.new.self.standings.items ≡ length n.new.self.markers.items = ap length n.ensures.standings ∙ (c.requires.kept.many ∙ sym (ap length n.ensures.markers)) in
    on_ok c.add_whole.result (c.add_whole.ensures.drafts many) (λ e. e ∙ rw (n.ensures.markers, n.ensures.standings, c.unstarted.ensures) (read_unstarted r c.in-None.is c.args.times.first c.args.row refl))
