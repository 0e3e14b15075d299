use Rattle.std.proofs.Common.{◌≡◌, ◌∙◌, ℕ, List, [], None, Some, inl, inr, sym, ap}
use Rattle.std.specs.Prelude.{slice_get, slice_index_or}
use Rattle.std.proofs.lemmas.List.{get_or_past}
use Rattle.std.proofs.lemmas.Option.{slice_get_cases}
use Rattle.prof_reply.proofs.markers.marker_name.Goals as goal

no_text : (text : List ℕ) → None ≡ Some text → ⊥
no_text text e = cc

-- past the last string there is no text
nameless : (strings : List (List ℕ)) (i : ℕ) → None ≡ slice_get strings i → [] ≡ slice_index_or strings i []
nameless strings i none =
    elim (slice_get_cases strings i).1 [
      | inl w ↦ absurd (no_text w.0 (none ∙ w.2))
      | inr w ↦ sym (get_or_past strings i [] w.0)
    ]

pub returns-in-None : goal.returns-in-None
returns-in-None c =
    nameless c.args.thread.now.shared.strings c.args.marker.now.name (c.in-None.ensures ∙ ap (λ l. slice_get l c.args.marker.now.name) c.strings.ensures)
