-- Texts that are added one after another, with a comma between.
use Rattle.std.proofs.Common.{ℕ, ◌+◌, ◌<◌, ◌≤◌, List, [], ◌++◌, Result, Ok, Err, IsErr, length, take, drop, get_or, nat_lt, sym, ap}
use Rattle.std.specs.List.{join_with_byte}
use Rattle.std.proofs.lemmas.List.{take_all}
use Rattle.prof_io.specs.Outside.{Seen}
use Rattle.prof_page.specs.Gathering.{Gathers}
use Rattle.prof_page.proofs.Joined.{behind, joined_at, joined_more}
use Rattle.prof_page.proofs.Pages.{gathers_ok, gathers_on, gathers_same, gathers_stopped}
use Rattle.prof_writer.specs.Writing.{comma_text}

-- the next text was to be added
pub item_stopped : {T U E F G : Type 0} (old mid now : Seen) (x : T) (e : E) (r : Result U F) (xs : List (List ℕ)) (i : ℕ) (p q s : List ℕ) → i < length xs → IsErr r →
    Gathers {T = T} {E = G} old mid (Ok x) p (join_with_byte 44 (take i xs)) q → Gathers {T = T} {E = E} mid now (Err e) q (comma_text (nat_lt 0 i) ++ get_or xs i []) s →
    Gathers old now r p (join_with_byte 44 xs) s
item_stopped old mid now x e r xs i p q s within is so_far next =
    gathers_same _ _ _ _ _ _ _
    (gathers_on _ _ _ x _ _ _ _ _ _ so_far (gathers_stopped _ _ _ _ _ _ (behind (drop (i + 1) xs)) _ _ is next))
    (sym (joined_at xs i within))

-- the next text was added
pub item_added : {T U F G : Type 0} (old mid now : Seen) (x : T) (y : U) (xs : List (List ℕ)) (i : ℕ) (p q s : List ℕ) → i < length xs →
    Gathers {T = T} {E = G} old mid (Ok x) p (join_with_byte 44 (take i xs)) q → Gathers {T = U} {E = F} mid now (Ok y) q (comma_text (nat_lt 0 i) ++ get_or xs i []) s →
    Gathers {T = T} {E = G} old now (Ok x) p (join_with_byte 44 (take (i + 1) xs)) s
item_added old mid now x y xs i p q s within so_far next =
    gathers_same _ _ _ _ _ _ _
    (gathers_on _ _ _ x _ _ _ _ _ _ so_far (gathers_ok _ _ y x _ _ _ next))
    (sym (joined_more xs i within))

-- all texts were added
pub all_added : {T U E F : Type 0} (old now : Seen) (x : T) (y : U) (xs : List (List ℕ)) (i : ℕ) (p q : List ℕ) → length xs ≤ i →
    Gathers {T = T} {E = E} old now (Ok x) p (join_with_byte 44 (take i xs)) q → Gathers {T = U} {E = F} old now (Ok y) p (join_with_byte 44 xs) q
all_added old now x y xs i p q all so_far =
    gathers_same _ _ _ _ _ _ _ (gathers_ok _ _ x y _ _ _ so_far) (ap (join_with_byte 44) (take_all i xs all))
