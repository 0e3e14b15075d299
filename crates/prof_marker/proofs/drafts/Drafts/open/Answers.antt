use Rattle.std.proofs.Common.{◌≡◌, ℕ, List, [], ◌∷◌, ◌++◌, length, set, Option, Some, ap, ◌∙◌, get_or}
use Rattle.prof_marker.specs.declared.list.Marker.{Marker}
use Rattle.prof_marker.specs.declared.drafts.Standing.TheVariants.{Waiting}
use Rattle.prof_marker.specs.Markers.{unended}
use Rattle.prof_marker.proofs.Drafted.{drafts-push}
use Rattle.prof_marker.proofs.Keeping.{IsRead, keeps_along, read_open}
use Rattle.prof_marker.proofs.drafts.Drafts.open.Goals as goal

pub returns-clause-kept : goal.returns-clause-kept
returns-clause-kept c =
    let n = c.name_place-name in
    let r : IsRead c.args.strings.now c.args.self.now.markers.items c.args.self.now.standings.items c.args.self.now.latest.items c.args.self.now.firsts.items n.new.self.firsts.items c.args.row.name n.result c.index-behind.result.now =
    record { kept = c.requires.kept; many = n.ensures.many; firsts = n.ensures.firsts; placed = c.requires.name; first = n.ensures.place; within = n.ensures.within; latest = c.index-behind.ensures ∙ ap (λ (l : List (Option ℕ)). get_or l n.result c.index-behind.result.now) n.ensures.latest }
    in
    let place : c.len-place.result ≡ length c.args.self.now.markers.items = c.len-place.ensures ∙ (n.new.self.markers.ok.0 ∙ ap length n.ensures.markers) in
    keeps_along
    (c.in_ok-add.ensures.markers ∙ ap (λ l. l ++ c.unended.result ∷ []) n.ensures.markers)
    (c.in_ok-add.ensures.standings ∙ ap (λ l. l ++ Waiting c.index-behind.result.now ∷ []) n.ensures.standings)
    (ap (λ l. set l n.result (Some c.len-place.result)) (c.in_ok-add.ensures.latest ∙ n.ensures.latest) ∙ ap (λ i. set c.args.self.now.latest.items n.result (Some i)) place)
    c.in_ok-add.ensures.firsts
    (read_open r c.unended.result (ap (λ (m : Marker). m.name) c.unended.ensures))

pub returns-clause-drafts : goal.returns-clause-drafts
returns-clause-drafts c =
    let n = c.name_place-name in
    rw (c.in_ok-add.ensures.markers, c.in_ok-add.ensures.standings, n.ensures.markers, n.ensures.standings, c.unended.ensures)
    (drafts-push c.args.self.now.markers.items c.args.self.now.standings.items (unended c.args.times.last c.args.row).marker (Waiting c.index-behind.result.now) c.requires.kept.many)
