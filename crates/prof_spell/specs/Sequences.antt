-- Two texts, one behind the other.
use Rattle.std.specs.Prelude.{◌++◌}
use Rattle.prof_spell.specs.Spelling.{Language}

-- a text and one behind it, of which the first value says the kind
abbrev pub followed_by : {A B : Type 0} → Language A → (A → Language B) → Language (A × B)
followed_by L M = record { text = λ p. L.text p.0 ++ (M p.0).text p.1; Fits = λ p. L.Fits p.0 × (M p.0).Fits p.1; goes = λ p. (M p.0).goes p.1 }
