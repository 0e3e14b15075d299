-- Threads that are built one after another.
use Rattle.std.proofs.Common.{◌≡◌, List, [], ◌∷◌, ◌++◌, map}
use Rattle.std.specs.List.{All}
use Rattle.std.proofs.lemmas.List.{map-append}
use Rattle.std.proofs.lemmas.List.Elements.{All-push}

pub all_more : {X Y : Type 0} (P : Y → Type 0) (f : X → Y) (xs ys : List X) (x : X) → ys ≡ xs ++ x ∷ [] → All P (map f xs) → P (f x) → All P (map f ys)
all_more P f xs ys x e h p = rw (e, map-append f xs (x ∷ [])) (All-push P (map f xs) (f x) h p)
