-- What the router of the one route finds.
use Rattle.std.proofs.Common.{◌≡◌, ◌≢◌, ◌∙◌, ℕ, zero, suc, ◌+◌, ◌-◌, ◌<◌, ◌≤◌, List, [], ◌∷◌, ◌++◌, length, drop, take, Option, Some, None, Bool, true, false, not, cond, refl, sym, ap, subst, arith, nat_eq, nat_lt, ◌==◌, ◌&&◌, codes, is_some, ltb, length-append, IsTrue, get_or, append_assoc}
use Rattle.std.proofs.lemmas.Bool.Decides.{nat_tests}
use Rattle.std.proofs.lemmas.Slice.Eq.{bytes_eq-Decides}
use Rattle.std.specs.List.{ends_with, list_any, list_all}
use Rattle.std.specs.Str.{bytes_eq}
use Rattle.std.specs.Cmp.Lexicographic.{pointwise}
use Rattle.std.proofs.Math.Seq.{drop-append_seam, drop-length}
use Rattle.matchit.specs.Rows.{Rows}
use Rattle.matchit.specs.Seek.{seek, first, param_step, has_slash, segment, cuts}
use Rattle.matchit.specs.Router.{map_key}
use Rattle.matchit.proofs.SeekLemmas.{seek-empty, seek-drop, first-prefix, or_else-none}
use Rattle.matchit.proofs.RenameLemmas.{first-rename}
use Rattle.prof_wire.specs.OnlyRoute.{only_pattern, only_route, the_route}
use Rattle.prof_wire.specs.Routing.{IsTarget, is_session, is_among, commands}

abbrev r0 : Rows
r0 = ([], 0) ∷ []

abbrev r1 : Rows
r1 = (256 ∷ [], 0) ∷ []

abbrev r2 : Rows
r2 = (47 ∷ 256 ∷ [], 0) ∷ []

abbrev r3 : Rows
r3 = (256 ∷ 47 ∷ 256 ∷ [], 0) ∷ []

abbrev whole : Rows
whole = (only_pattern, 0) ∷ []

drop_all : (b : ℕ) (q : List ℕ) → drop (length (b ∷ q) - 1) q ≡ []
drop_all b q =
    let n : length (b ∷ q) - 1 ≡ length q = omega arith in
    ap (λ (k : ℕ). drop k q) n ∙ drop-length q

-- the command: what is left, which isn't empty and has no slash
last_found : (b : ℕ) (q : List ℕ) → b < 256 → has_slash (b ∷ q) ≡ false → first r1 (b ∷ q) ≡ Some 0
unfolding seek param_step
last_found b q h e =
    let n : (256 == b) ≡ false = grind (arith, nat_tests) in
    let z = seek-empty 0 q in
    let d = seek-drop (length (b ∷ q) - 1) r0 q in
    let a = drop_all b q in
    simp (n, e, z, d, a)

-- a slash, and then the command
middle_found : (b : ℕ) (q : List ℕ) → b < 256 → has_slash (b ∷ q) ≡ false → first r2 (47 ∷ b ∷ q) ≡ Some 0
middle_found b q h e = first-prefix (47 ∷ []) r1 (47 ∷ b ∷ q) (omega arith, tt) ∙ last_found b q h e

-- one step into the route behind `/sessions/`
head_step : (b : ℕ) (q : List ℕ) → b < 256 → first r3 (b ∷ q) ≡ seek ((param_step r2 (b ∷ q)).0 - 1) (param_step r2 (b ∷ q)).1 q
unfolding seek
head_step b q h =
    let n : (256 == b) ≡ false = grind (arith, nat_tests) in
    let z = seek-empty 0 q in
    simp (n, z, or_else-none)

param_cut : (p : List ℕ) → cuts (segment p) (47 ∷ []) ≡ true → param_step r2 p ≡ (length (segment p) - 1, r2)
unfolding param_step
param_cut p e = simp e

-- behind a session the route goes on at its slash
cut_found : (b : ℕ) (s more : List ℕ) → b < 256 → segment (b ∷ (s ++ 47 ∷ more)) ≡ b ∷ (s ++ 47 ∷ [])
    → first r3 (b ∷ (s ++ 47 ∷ more)) ≡ first r2 (47 ∷ more)
cut_found b s more h seg =
    let len : length (b ∷ (s ++ 47 ∷ [])) ≡ length s + 2 = omega (arith, length-append s (47 ∷ [])) in
    let one : length (b ∷ (s ++ 47 ∷ [])) - 1 ≡ suc (length s) = omega (arith, len) in
    let tail : drop (length (b ∷ (s ++ 47 ∷ [])) - 1) (b ∷ (s ++ 47 ∷ [])) ≡ 47 ∷ [] =
    ap (λ (k : ℕ). drop k (b ∷ (s ++ 47 ∷ []))) one ∙ drop-append_seam s (47 ∷ []) in
    let long : ltb 1 (length (b ∷ (s ++ 47 ∷ []))) ≡ true = grind (arith, nat_tests, len) in
    let ends : ends_with nat_eq (b ∷ (s ++ 47 ∷ [])) (47 ∷ []) ≡ true = ap (λ (l : List ℕ). pointwise nat_eq (47 ∷ []) l) tail in
    let yes : cuts (b ∷ (s ++ 47 ∷ [])) (47 ∷ []) ≡ true = rw (long, ends) refl in
    let back : drop (length s) (s ++ 47 ∷ more) ≡ 47 ∷ more = drop-append_seam s (47 ∷ more) in
    let skip : length (segment (b ∷ (s ++ 47 ∷ more))) - 1 - 1 ≡ length s = ap (λ (l : List ℕ). length l - 1 - 1) seg ∙ omega (arith, len) in
    head_step b (s ++ 47 ∷ more) h
    ∙ ap (λ (x : ℕ × Rows). seek (x.0 - 1) x.1 (s ++ 47 ∷ more)) (param_cut (b ∷ (s ++ 47 ∷ more)) (ap (λ (l : List ℕ). cuts l (47 ∷ [])) seg ∙ yes))
    ∙ ap (λ (n : ℕ). seek n r2 (s ++ 47 ∷ more)) skip
    ∙ seek-drop (length s) r2 (s ++ 47 ∷ more) ∙ ap (λ (t : List ℕ). seek 0 r2 t) back

-- the texts of sessions have no slash
abbrev pub no_slash : List ℕ → Bool
no_slash name = list_all (λ b. not (b == 47)) name

and_front : (a b : Bool) → (a && b) ≡ true → a ≡ true
and_front true b e = refl
and_front false b e = cc e

and_back : (a b : Bool) → (a && b) ≡ true → b ≡ true
and_back true b e = e
and_back false b e = cc e

both_true : (a b : Bool) → a ≡ true → b ≡ true → (a && b) ≡ true
both_true true b ea eb = eb
both_true false b ea eb = cc ea

all_weaker : (name : List ℕ) → list_all (λ b. not (b == 47) && not (b == 63)) name ≡ true → no_slash name ≡ true
all_weaker [] e = refl
all_weaker (b ∷ name) e =
    let rest = list_all (λ c. not (c == 47) && not (c == 63)) name in
    let here : (not (b == 47) && not (b == 63)) ≡ true = and_front (not (b == 47) && not (b == 63)) rest e in
    both_true (not (b == 47)) (no_slash name) (and_front (not (b == 47)) (not (b == 63)) here) (all_weaker name (and_back (not (b == 47) && not (b == 63)) rest e))

pub unslashed : (name : List ℕ) → is_session name ≡ true → no_slash name ≡ true
unslashed name e = all_weaker name (and_back (nat_lt 0 (length name)) _ e)

segment_at : (s more : List ℕ) → no_slash s ≡ true → segment (s ++ 47 ∷ more) ≡ s ++ 47 ∷ []
segment_at [] more e = refl
segment_at (b ∷ s) more e =
    let rest = segment_at s more (and_back _ _ e) in
    let other : (b == 47) ≡ false = flip (b == 47) (and_front _ _ e) in
    rw (other, rest) refl
  where
    flip : (t : Bool) → not t ≡ true → t ≡ false
    flip true h = cc h
    flip false h = refl

-- a word that isn't empty and has no slash
abbrev is_plain : List ℕ → Bool
is_plain [] = false
is_plain (b ∷ q) = nat_lt b 256 && not (has_slash (b ∷ q))

among_plain : (words : List (List ℕ)) (word : List ℕ) → list_all is_plain words ≡ true → is_among words word ≡ true → is_plain word ≡ true
among_plain [] word all e = cc e
among_plain (first ∷ words) word all e = go (bytes_eq word first) refl (among_plain words word (and_back _ _ all))
  where
    go : (t : Bool) → bytes_eq word first ≡ t → (is_among words word ≡ true → is_plain word ≡ true) → is_plain word ≡ true
    go true h more = let same : word ≡ first = (bytes_eq-Decides word first).0 h in ap is_plain same ∙ and_front _ _ all
    go false h more = more (rw h at e)

behind : (path : List ℕ) → first whole (codes "/sessions/" ++ path) ≡ first r3 path
behind path =
    first-prefix (codes "/sessions/") r3 (codes "/sessions/" ++ path)
    (omega arith, (omega arith, (omega arith, (omega arith, (omega arith, (omega arith, (omega arith, (omega arith, (omega arith, (omega arith, tt))))))))))

plain_found : (s c : List ℕ) (b : ℕ) → b < 256 → no_slash (b ∷ s) ≡ true → is_plain c ≡ true → first r3 (b ∷ (s ++ 47 ∷ c)) ≡ Some 0
plain_found s [] b h ns e = cc e
plain_found s (d ∷ c) b h ns e =
    let small : d < 256 = grind (arith, nat_tests) in
    let unbroken : has_slash (d ∷ c) ≡ false = flip (has_slash (d ∷ c)) (and_back (nat_lt d 256) _ e) in
    cut_found b s (d ∷ c) h (segment_at (b ∷ s) (d ∷ c) ns) ∙ middle_found d c small unbroken
  where
    flip : (t : Bool) → not t ≡ true → t ≡ false
    flip true h = cc h
    flip false h = refl

-- the router finds each target
pub target_found : (target session command : List ℕ) → get_or target 10 0 < 256 → IsTarget target session command → is_some (first only_route target) ≡ true
target_found target [] command byte is = cc is.has_session
target_found target (b ∷ s) command byte is =
    let head : get_or target 10 0 ≡ b = ap (λ (l : List ℕ). get_or l 10 0) is.whole in
    let small : b < 256 = omega (arith, head, byte) in
    let plain : is_plain command ≡ true = among_plain commands command refl is.has_command in
    let found : first whole target ≡ Some 0 =
    ap (λ (l : List ℕ). first whole l) is.whole ∙ behind (b ∷ (s ++ 47 ∷ command)) ∙ plain_found s command b small (unslashed (b ∷ s) is.has_session) plain in
    ap is_some (first-rename (λ (n : ℕ). the_route) whole target ∙ ap (map_key (λ (n : ℕ). the_route)) found)
