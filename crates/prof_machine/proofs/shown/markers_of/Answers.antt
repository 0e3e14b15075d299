use Rattle.std.proofs.Common.{◌≡◌, ◌<◌, List, length, map, pos, ap, ◌∙◌, subst}
use Rattle.std.specs.List.{All}
use Rattle.std.proofs.lemmas.List.Elements.{All-filter}
use Rattle.prof_path.specs.Terms.{terms_of}
use Rattle.prof_path.specs.Views.{ViewLists}
use Rattle.prof_marker.specs.declared.list.Marker.{Marker}
use Rattle.prof_marker.specs.Markers.{pair}
use Rattle.prof_marker.specs.Found.{found, is_found}
use Rattle.prof_machine.specs.Known.{marker_at, markers_of}
use Rattle.prof_machine.proofs.MarkerLemmas.{items-places, ok_same, ok_holds}
use Rattle.prof_machine.proofs.shown.markers_of.Goals as goal

pub returns : goal.returns
returns c =
    let t = c.args.thread.now in
    let v = c.args.view.now in
    let terms = terms_of c.args.text.now in
    let none : Marker = record { name = 0; start = pos 0; end = pos 0; texts = (0, 0); more = (0, 0) } in
    let own : c.in_ok-markers.markers ≡ pair t = c.in_ok-markers.ensures.list in
    let list : c.as_slice.result.now ≡ pair t = c.as_slice.ensures ∙ own in
    let ranges : c.deref.result.now ≡ v.ranges = c.deref.ensures.value ∙ ap (λ (w : ViewLists). w.ranges) c.view.view_is in
    let places : c.deref-2.result.now ≡ found t terms v.ranges (pair t) =
    c.deref-2.ensures.value ∙ (c.in_ok-places.ensures.places
    ∙ (ap (λ ts. found t ts c.deref.result.now c.in_ok-markers.markers) c.in_ok-terms.ensures
    ∙ (ap (λ rs. found t terms rs c.in_ok-markers.markers) ranges ∙ ap (found t terms v.ranges) own))) in
    let all : map (marker_at c.as_slice.result.now) c.deref-2.result.now ≡ markers_of t v c.args.text.now =
    ap (λ l. map (marker_at l) c.deref-2.result.now) list
    ∙ (ap (map (marker_at (pair t))) places ∙ items-places (is_found t.shared.strings t.markers.texts terms v.ranges) none (pair t)) in
    let Named : Marker → Type 0 = λ m. m.name < length t.shared.strings in
    let named : All Named (pair t) = subst (λ (l : List Marker). All Named l) own c.in_ok-markers.ensures.names in
    record {
      list = ok_same c.picked.result _ (markers_of t v c.args.text.now) c.picked.ensures all;
      names = ok_holds (All Named) c.picked.result _ (ok_same c.picked.result _ (markers_of t v c.args.text.now) c.picked.ensures all)
          (All-filter (is_found t.shared.strings t.markers.texts terms v.ranges) Named (pair t) named);
    }
