-- What was written to the connections that were served before.
use Rattle.std.proofs.Common.{◌≡◌, ℕ, ◌≤◌, ◌-◌, suc, List, [], ◌∷◌, ◌++◌, length, slice_index_or, take, drop, map, refl, ap, ◌∙◌, arith, length-drop}
use Rattle.std.proofs.lemmas.List.{take-append-le, drop-append-le}
use Rattle.prof_io.specs.Shelf.{Served}
use Rattle.prof_memory.specs.Halls.{served_in, AreWithin}
use Rattle.prof_memory.specs.declared.seats.Ended.{Ended}

range_kept : (bytes more : List ℕ) (start end : ℕ) → start ≤ end → end ≤ length bytes → take (end - start) (drop start (bytes ++ more)) ≡ take (end - start) (drop start bytes)
range_kept bytes more start end p q =
    let inside : end - start ≤ length (drop start bytes) = omega (arith, length-drop start bytes) in
    ap (take (end - start)) (drop-append-le start bytes more (omega arith)) ∙ take-append-le (end - start) (drop start bytes) more inside

abbrev one_served : Ended → List ℕ → Served
one_served ended answered = record { came = ended.came.items; answered = answered; first = ended.first; second = ended.second }

-- more bytes change no answer
pub answers_kept : (bytes more : List ℕ) (ended : List Ended) → AreWithin (length bytes) ended → map (served_in (bytes ++ more)) ended ≡ map (served_in bytes) ended
answers_kept bytes more [] within = refl
answers_kept bytes more (x ∷ xs) within =
    let here : (x.start ≤ x.end) × (x.end ≤ length bytes) = within 0 x (omega arith) in
    let later : AreWithin (length bytes) xs = λ k d h. within (suc k) d (omega arith) in
    let same : served_in (bytes ++ more) x ≡ served_in bytes x =
    ap (λ (l : List ℕ). one_served x l) (range_kept bytes more x.start x.end here.0 here.1) in
    ap (λ (s : Served). s ∷ map (served_in (bytes ++ more)) xs) same ∙ ap (λ (l : List Served). served_in bytes x ∷ l) (answers_kept bytes more xs later)

pub kept_answers : (bytes more all : List ℕ) (count : ℕ) (ended : List Ended) → all ≡ bytes ++ more → count ≡ length bytes → AreWithin count ended
    → map (served_in all) ended ≡ map (served_in bytes) ended
kept_answers bytes more all count ended a e within =
    ap (λ (l : List ℕ). map (served_in l) ended) a ∙ answers_kept bytes more ended (λ k d h. let w : ((slice_index_or ended k d).start ≤ (slice_index_or ended k d).end) × ((slice_index_or ended k d).end ≤ count) = within k d h in (w.0, omega arith))
