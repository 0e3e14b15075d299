use Rattle.std.proofs.Common.{◌<◌, get_or, ◌≡◌, pos, [], ◌∷◌, ◌++◌, length, map, sym, ap, subst, ◌∙◌, arith}
use Rattle.std.specs.List.{All}
use Rattle.std.proofs.lemmas.List.{take_all}
use Rattle.prof_tables.specs.Threads.{MarkerRows}
use Rattle.prof_marker.specs.declared.list.Marker.{Marker}
use Rattle.prof_marker.specs.Markers.{pair}
use Rattle.prof_marker.specs.Found.{is_found}
use Rattle.prof_marker.specs.Ties.{IsPlaced}
use Rattle.prof_marker.proofs.Placed.{pair_placed, pair_few}
use Rattle.prof_marker.specs.Found.{places}
use Rattle.prof_marker.proofs.Passing.{places_pass, places_fail, places_within}
use Rattle.prof_marker.proofs.searching.search.Goals as goal
use Rattle.prof_marker.proofs.searching.search.Goals.{then-branch+in_ok-push, else-branch}

pub loop-place-init : goal.loop-place-init
loop-place-init c = record { ready = c.in_ok-seeker.ensures.ready; terms = c.in_ok-seeker.ensures.terms; places = c.new-places.ensures.items }

abbrev blank : Marker
blank = record { name = 0; start = pos 0; end = pos 0; texts = (0, 0); more = (0, 0) }

pub finds-requires-clause-placed : goal.finds-requires-clause-placed
finds-requires-clause-placed c =
    let t = c.args.thread.now in
    let same : c.as_slice-marker-items.result.now ≡ pair t = c.as_slice-marker-items.ensures ∙ c.requires in
    let texts : c.as_slice-texts.result.now ≡ t.markers.texts = c.as_slice-texts.ensures.value ∙ ap (λ (m : MarkerRows). m.texts) (c.behind-thread.view_is ∙ c.markers.ensures.rows) in
    let all : All (IsPlaced (length t.shared.strings) (length t.markers.texts)) c.as_slice-marker-items.result.now =
    subst (All (IsPlaced (length t.shared.strings) (length t.markers.texts))) (sym same) (pair_placed t c.markers.ensures.tied) in
    let x = get_or c.as_slice-marker-items.result.now c.loop-place.place blank in
    subst (λ s. IsPlaced (length s) (length c.as_slice-texts.result.now) x) (sym c.strings-strings.ensures)
    (subst (λ y. IsPlaced (length t.shared.strings) (length y) x) (sym texts) (all c.loop-place.place blank c.loop-place-test.true))

pub overflow_cast-place : goal.overflow_cast-place
overflow_cast-place c =
    let same = ap length (c.as_slice-marker-items.ensures ∙ c.requires) in
    omega (arith, same, pair_few c.args.thread.now, c.markers.ensures.few, c.loop-place-test.true)

pub loop-place-preserved : goal.loop-place-preserved
loop-place-preserved c =
    let test = is_found c.strings-strings.result.now c.as_slice-texts.result.now c.args.terms.now c.args.ranges.now in
    let items = c.as_slice-marker-items.result.now in
    let terms = c.in_ok-finds.ensures.terms ∙ c.loop-place.invariant.terms in
    let found = c.in_ok-finds.ensures.value c.args.terms.now c.loop-place.invariant.terms in
    elim c.if-branch.branch [
      | then-branch+in_ok-push w ↦ record {
        ready = c.in_ok-finds.ensures.ready;
        terms = terms;
        places = ap (λ v. v.items) w.places-is
            ∙ (w.in_ok-push.ensures.items
            ∙ (ap (λ l. l ++ c.loop-place.place ∷ []) c.loop-place.invariant.places
            ∙ sym (places_pass test items c.loop-place.place blank c.loop-place-test.true (sym found ∙ w.if-branch.true))));
      }
      | else-branch w ↦ record {
        ready = c.in_ok-finds.ensures.ready;
        terms = terms;
        places = ap (λ v. v.items) w.places-is
            ∙ (c.loop-place.invariant.places
            ∙ sym (places_fail test items c.loop-place.place blank c.loop-place-test.true (sym found ∙ w.if-branch.false)));
      }
    ]

pub returns-clause-places : goal.returns-clause-places
returns-clause-places c =
    let t = c.args.thread.now in
    let terms = c.args.terms.now in
    let ranges = c.args.ranges.now in
    let texts = c.as_slice-texts.ensures.value ∙ ap (λ (m : MarkerRows). m.texts) (c.behind-thread.view_is ∙ c.markers.ensures.rows) in
    let items = take_all c.loop-place.place c.as_slice-marker-items.result.now c.loop-place-test.false ∙ c.as_slice-marker-items.ensures in
    c.loop-place.invariant.places
    ∙ (ap (places (is_found c.strings-strings.result.now c.as_slice-texts.result.now terms ranges)) items
    ∙ (ap (λ s. places (is_found s c.as_slice-texts.result.now terms ranges) c.args.markers.now) c.strings-strings.ensures
    ∙ ap (λ x. places (is_found t.shared.strings x terms ranges) c.args.markers.now) texts))

pub returns-clause-within : goal.returns-clause-within
returns-clause-within c =
    let t = c.args.thread.now in
    subst (All (λ k. k < length c.args.markers.now)) (sym (returns-clause-places c))
    (places_within (is_found t.shared.strings t.markers.texts c.args.terms.now c.args.ranges.now) c.args.markers.now)
