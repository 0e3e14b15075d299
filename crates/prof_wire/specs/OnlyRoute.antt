-- The one route of this program, as its router keeps it.
use Rattle.std.specs.Prelude.{ℕ, List, [], ◌∷◌, ◌++◌, codes}
use Rattle.matchit.specs.Rows.{RowsOf, param_token}
use Rattle.matchit.specs.Router.{RouteOf}

-- "/sessions/", a parameter, "/" and a parameter
abbrev pub only_pattern : List ℕ
only_pattern = codes "/sessions/" ++ param_token ∷ 47 ∷ param_token ∷ []

abbrev pub the_route : RouteOf ℕ
the_route = record { pattern = only_pattern; text = codes "/sessions/{session}/{command}"; names = (11, 18) ∷ (21, 28) ∷ []; value = 0 }

abbrev pub only_route : RowsOf (RouteOf ℕ)
only_route = (only_pattern, the_route) ∷ []
