-- What is left of a list of bytes after a part was given.
use Rattle.std.proofs.Common.{◌≡◌, ℕ, ◌+◌, List, ◌++◌, take, drop, sym, ap, ◌∙◌}
use Rattle.std.proofs.lemmas.List.{take-append-drop, drop-drop}

pub left_split : (xs got : List ℕ) (at n : ℕ) → got ≡ take n (drop at xs) → drop at xs ≡ got ++ drop (at + n) xs
left_split xs got at n e =
    sym (take-append-drop n (drop at xs)) ∙ ap (λ l. l ++ drop n (drop at xs)) (sym e) ∙ ap (λ l. got ++ l) (drop-drop n at xs)
