-- What a keeper in memory finds under a name.
use Rattle.std.specs.Prelude.{ℕ, List, [], ◌∷◌}
use Rattle.prof_io.specs.Shelf.{Shelf}

-- the texts under a name: none under the empty name, and else those that there are
abbrev pub texts_under : List ℕ → Shelf → Shelf
texts_under [] kept = []
texts_under (c ∷ name) kept = kept
