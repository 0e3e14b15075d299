use Rattle.std.proofs.Common.{get_or, ◌≡◌, pos, [], ◌∷◌, ◌++◌, length, map, take, sym, ap, subst, ◌∙◌}
use Rattle.std.specs.List.{All}
use Rattle.std.proofs.lemmas.List.{take_all}
use Rattle.prof_tables.specs.Threads.{MarkerRows}
use Rattle.prof_marker.specs.declared.list.Marker.{Marker}
use Rattle.prof_marker.specs.Markers.{pair}
use Rattle.prof_marker.specs.Found.{is_found}
use Rattle.prof_marker.specs.Ties.{IsPlaced}
use Rattle.prof_marker.proofs.Placed.{pair_placed}
use Rattle.std.specs.Str.{str_to_ascii_lowercase}
use Rattle.prof_path.specs.Terms.{terms_of}
use Rattle.std.specs.List.{filter}
use Rattle.std.proofs.lemmas.List.{map-append}
use Rattle.prof_marker.specs.Found.{span_of}
use Rattle.prof_marker.proofs.Passing.{filter_pass, filter_fail}
use Rattle.prof_marker.proofs.searching.spans.Goals as goal
use Rattle.prof_marker.proofs.searching.spans.Goals.{then-branch+in_ok-push, else-branch}

pub loop-marker-init : goal.loop-marker-init
loop-marker-init c = record { ready = c.in_ok-seeker.ensures.ready; terms = c.in_ok-seeker.ensures.terms ∙ ap (map str_to_ascii_lowercase) c.in_ok-terms.ensures; spans = c.new-list.ensures }

abbrev blank : Marker
blank = record { name = 0; start = pos 0; end = pos 0; texts = (0, 0); more = (0, 0) }

pub finds-requires-clause-placed : goal.finds-requires-clause-placed
finds-requires-clause-placed c =
    let t = c.args.thread.now in
    let same : c.as_slice-marker-items.result.now ≡ pair t = c.as_slice-marker-items.ensures ∙ c.requires in
    let texts : c.as_slice-texts.result.now ≡ t.markers.texts = c.as_slice-texts.ensures.value ∙ ap (λ (m : MarkerRows). m.texts) (c.behind-thread.view_is ∙ c.markers.ensures.rows) in
    let all : All (IsPlaced (length t.shared.strings) (length t.markers.texts)) c.as_slice-marker-items.result.now =
    subst (All (IsPlaced (length t.shared.strings) (length t.markers.texts))) (sym same) (pair_placed t c.markers.ensures.tied) in
    let x = get_or c.as_slice-marker-items.result.now c.loop-marker.marker-index blank in
    subst (λ s. IsPlaced (length s) (length c.as_slice-texts.result.now) x) (sym c.strings-strings.ensures)
    (subst (λ y. IsPlaced (length t.shared.strings) (length y) x) (sym texts) (all c.loop-marker.marker-index blank c.loop-marker-test.true))

pub loop-marker-preserved : goal.loop-marker-preserved
loop-marker-preserved c =
    let test = is_found c.strings-strings.result.now c.as_slice-texts.result.now (terms_of c.args.search.now) [] in
    let items = c.as_slice-marker-items.result.now in
    let i = c.loop-marker.marker-index in
    let terms = c.in_ok-finds.ensures.terms ∙ c.loop-marker.invariant.terms in
    let found = c.in_ok-finds.ensures.value (terms_of c.args.search.now) c.loop-marker.invariant.terms in
    elim c.if-branch.branch [
      | then-branch+in_ok-push w ↦ record {
        ready = c.in_ok-finds.ensures.ready;
        terms = terms;
        spans = w.list-is
            ∙ (w.in_ok-push.ensures.ok
            ∙ (ap (λ x. c.loop-marker.list ++ x ∷ []) w.span_of.ensures
            ∙ (ap (λ l. l ++ span_of (get_or items i blank) ∷ []) c.loop-marker.invariant.spans
            ∙ sym (ap (map span_of) (filter_pass test items i blank c.loop-marker-test.true (sym found ∙ w.if-branch.true))
            ∙ map-append span_of (filter test (take i items)) (get_or items i blank ∷ [])))));
      }
      | else-branch w ↦ record {
        ready = c.in_ok-finds.ensures.ready;
        terms = terms;
        spans = w.list-is
            ∙ (c.loop-marker.invariant.spans
            ∙ sym (ap (map span_of) (filter_fail test items i blank c.loop-marker-test.true (sym found ∙ w.if-branch.false))));
      }
    ]

pub returns : goal.returns
returns c =
    let t = c.args.thread.now in
    let terms = terms_of c.args.search.now in
    let texts = c.as_slice-texts.ensures.value ∙ ap (λ (m : MarkerRows). m.texts) (c.behind-thread.view_is ∙ c.markers.ensures.rows) in
    let items = take_all c.loop-marker.marker-index c.as_slice-marker-items.result.now c.loop-marker-test.false ∙ c.as_slice-marker-items.ensures in
    c.loop-marker.invariant.spans
    ∙ (ap (λ l. map span_of (filter (is_found c.strings-strings.result.now c.as_slice-texts.result.now terms []) l)) items
    ∙ (ap (λ s. map span_of (filter (is_found s c.as_slice-texts.result.now terms []) c.args.markers.now)) c.strings-strings.ensures
    ∙ ap (λ x. map span_of (filter (is_found t.shared.strings x terms []) c.args.markers.now)) texts))
