-- First lines.
use Rattle.std.specs.Prelude.{ℕ, ◌==◌, List, [], ◌∷◌, if◌then◌else◌}

-- the bytes up to the first line feed, and that
abbrev pub first_line : List ℕ → List ℕ
first_line [] = []
first_line (b ∷ text) = b ∷ (if b == 10 then [] else first_line text)
