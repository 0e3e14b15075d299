use Rattle.std.proofs.Common.{◌∙◌, ◌<◌, ◌^◌, ap, subst}
use Rattle.std.specs.Prelude.{All, IsUtf8}
use Rattle.prof_tables.specs.declared.markers.RawMarker.{RawMarker}
use Rattle.prof_tables.specs.Threads.{MarkerRows}
use Rattle.prof_back.proofs.kept.thread_is_kept.Goals as goal

pub returns : goal.returns
returns c =
    let markers = c.markers.view_is ∙ c.markers-markers.ensures.rows in
    record {
      shared = c.keeps.ensures.shared;
      own = c.keeps.ensures.own;
      name = subst IsUtf8 c.name.ensures c.is_utf8.ensures;
      strings = subst (All IsUtf8) c.strings.ensures c.strings_are_utf8.ensures;
      texts = subst (All IsUtf8) (c.deref.ensures.value ∙ ap (λ (m : MarkerRows). m.texts) markers) c.are_utf8.ensures;
      ranges = subst (All (λ (m : RawMarker). m.texts.1 < 2 ^ 32)) (c.deref-2.ensures.value ∙ ap (λ (m : MarkerRows). m.rows) markers) c.are_ranges.ensures;
    }
