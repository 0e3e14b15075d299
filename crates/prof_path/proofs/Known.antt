-- At first nothing is known of the strings
use Rattle.std.proofs.Common.{◌≡◌, ◌<◌, ℕ, Bool, List, length, replicate, Option, Some, None, sym, ap, ◌∙◌, arith}
use Rattle.std.specs.Prelude.{slice_get}
use Rattle.std.proofs.lemmas.List.{length-replicate, get_or-replicate}
use Rattle.std.proofs.lemmas.Option.{none-some, same_Some, slice_get_within, slice_get-get_or}
use Rattle.prof_path.specs.Lowered.{Knows}

pub knows-none : (strings terms : List (List ℕ)) (n : ℕ) → n ≡ length strings → Knows strings terms (replicate n None)
knows-none strings terms n many = record {
  many = length-replicate n None ∙ many;
  right = λ m b g.
      let within : m < length {A = Option Bool} (replicate n None) = slice_get_within (replicate n None) m (Some b) g in
      let none : slice_get {X = Option Bool} (replicate n None) m ≡ Some None =
      slice_get-get_or (replicate n None) m None within ∙ ap (λ (o : Option Bool). Some o) (get_or-replicate n m None None (omega (arith, length-replicate {A = Option Bool} n None))) in
      absurd (none-some b (same_Some None (Some b) (sym none ∙ g)));
}
