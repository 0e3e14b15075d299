-- Targets cut into a session and a command.
use Rattle.std.proofs.Common.{◌≡◌, ◌≢◌, ◌∙◌, ℕ, suc, ◌+◌, ◌<◌, List, [], ◌∷◌, ◌++◌, length, drop, take, Option, Some, None, MatchOption, IfSome, IfNone, Bool, true, false, not, ◌&&◌, ◌==◌, refl, sym, ap, subst, arith, codes, Bor}
use Rattle.std.proofs.lemmas.Bool.Decides.{nat_tests}
use Rattle.std.proofs.lemmas.Str.Pattern.{IsSplitOnceResult, split_once_first}
use Rattle.std.specs.List.{list_all, position_or_len, before_first, after_first}
use Rattle.std.specs.Str.Pattern.{FindsTextPrefix}
use Rattle.prof_wire.specs.Routing.{IsTarget, is_session, is_among, commands}
use Rattle.prof_wire.proofs.OneRoute.{no_slash, unslashed}

abbrev is_slash : ℕ → Bool
is_slash b = b == 47

-- a text cut at its first slash
record IsCut (bs front back : List ℕ) : Type 0 where
  whole : bs ≡ front ++ 47 ∷ back
  clear : no_slash front ≡ true

cut_first : (bs : List ℕ) → position_or_len is_slash bs < length bs → IsCut bs (before_first is_slash bs) (after_first is_slash bs)
cut_first [] h = absurd (omega arith)
cut_first (b ∷ bs) h = go (b == 47) refl (cut_first bs)
  where
    go : (t : Bool) → (b == 47) ≡ t → (position_or_len is_slash bs < length bs → IsCut bs (before_first is_slash bs) (after_first is_slash bs))
        → IsCut (b ∷ bs) (before_first is_slash (b ∷ bs)) (after_first is_slash (b ∷ bs))
    go true e more = let is : b ≡ 47 = grind (arith, nat_tests) in rw e (record { whole = ap (λ (x : ℕ). x ∷ bs) is; clear = refl })
    go false e more =
        let within : 1 + position_or_len is_slash bs < length (b ∷ bs) = rw e at h in
        let rest = more (omega (arith, within)) in
        let one : 1 + position_or_len is_slash bs ≡ suc (position_or_len is_slash bs) = omega arith in
        let next : suc (position_or_len is_slash bs) + 1 ≡ suc (position_or_len is_slash bs + 1) = omega arith in
        rw (e, one, next) (record { whole = ap (λ (l : List ℕ). b ∷ l) rest.whole; clear = rw e rest.clear })

-- a text with a slash has a first one
never_uncut : (a b : List ℕ) → position_or_len is_slash (a ++ 47 ∷ b) ≡ length (a ++ 47 ∷ b) → ⊥
never_uncut [] b e = omega arith
never_uncut (x ∷ a) b e = go (x == 47) refl (never_uncut a b)
  where
    go : (t : Bool) → (x == 47) ≡ t → (position_or_len is_slash (a ++ 47 ∷ b) ≡ length (a ++ 47 ∷ b) → ⊥) → ⊥
    go true h more = let none : 0 ≡ length ((x ∷ a) ++ 47 ∷ b) = rw h at e in omega (arith, none)
    go false h more = let rest : 1 + position_or_len is_slash (a ++ 47 ∷ b) ≡ length ((x ∷ a) ++ 47 ∷ b) = rw h at e in more (omega (arith, rest))

abbrev prefix : List ℕ
prefix = codes "/sessions/"

-- what `strip_prefix` gives
pub stripped : (target rest : List ℕ) → (n : ℕ) × FindsTextPrefix prefix target (Some n) × (rest ≡ drop n target) × (length rest + n ≡ length target) → target ≡ prefix ++ rest
stripped target rest (n, finds, is, len) = finds.1 ∙ ap (λ (l : List ℕ). prefix ++ l) (sym is)

pub unstripped : (target : List ℕ) → FindsTextPrefix prefix target None → (session command : List ℕ) → target ≢ prefix ++ session ++ 47 ∷ command
unstripped target lacks session command = lacks (session ++ 47 ∷ command)

-- what `split_once` gives behind the prefix
pub split_some : (target rest : List ℕ) (r : Option (Bor (List ℕ) × Bor (List ℕ))) → target ≡ prefix ++ rest → IsSplitOnceResult 47 rest r
    → IfSome r (λ x. target ≡ prefix ++ x.0.now ++ 47 ∷ x.1.now)
split_some target rest None e h = tt
split_some target rest (Some x) e h =
    let parts = split_once_first 47 rest (Some x) h (omega arith) in
    let cut = cut_first rest parts.0 in
    let front : before_first is_slash rest ≡ x.0.now = sym parts.1 in
    let back : after_first is_slash rest ≡ x.1.now = sym parts.2 in
    e ∙ ap (λ (l : List ℕ). prefix ++ l) (cut.whole ∙ ap (λ (l : List ℕ). l ++ 47 ∷ after_first is_slash rest) front ∙ ap (λ (l : List ℕ). x.0.now ++ 47 ∷ l) back)

pub split_clear : (rest : List ℕ) (r : Option (Bor (List ℕ) × Bor (List ℕ))) → IsSplitOnceResult 47 rest r → IfSome r (λ x. no_slash x.0.now ≡ true)
split_clear rest None h = tt
split_clear rest (Some x) h =
    let parts = split_once_first 47 rest (Some x) h (omega arith) in
    subst (λ (l : List ℕ). no_slash l ≡ true) (sym parts.1) (cut_first rest parts.0).clear

pub split_none : (target rest : List ℕ) (r : Option (Bor (List ℕ) × Bor (List ℕ))) → target ≡ prefix ++ rest → IsSplitOnceResult 47 rest r
    → IfNone r ((session command : List ℕ) → target ≢ prefix ++ session ++ 47 ∷ command)
split_none target rest (Some x) e h = tt
split_none target rest None e h = λ session command is.
    let over = split_once_first 47 rest None h (omega arith) in
    let same : prefix ++ rest ≡ prefix ++ (session ++ 47 ∷ command) = sym e ∙ is in
    let tail : rest ≡ session ++ 47 ∷ command = ap (λ (l : List ℕ). drop 10 l) same in
    never_uncut session command (subst (λ (l : List ℕ). position_or_len is_slash l ≡ length l) tail over)

and_front : (a b : Bool) → (a && b) ≡ true → a ≡ true
and_front true b e = refl
and_front false b e = cc e

and_back : (a b : Bool) → (a && b) ≡ true → b ≡ true
and_back true b e = e
and_back false b e = cc e

-- not both
pub neither : (a b : Bool) → a ≡ false → (a && b) ≡ false
neither true b e = cc e
neither false b e = refl

pub nor_second : (a b : Bool) → b ≡ false → (a && b) ≡ false
nor_second true b e = e
nor_second false b e = refl

-- a text is cut at its first slash in one way
one_cut : (s t more other : List ℕ) → no_slash s ≡ true → no_slash t ≡ true → s ++ 47 ∷ more ≡ t ++ 47 ∷ other → (s ≡ t) × (more ≡ other)
one_cut [] [] more other ns nt e = (refl, cc e)
one_cut [] (y ∷ t) more other ns nt e = let bad : y ≡ 47 = cc e in absurd (grind (arith, nat_tests))
one_cut (x ∷ s) [] more other ns nt e = let bad : x ≡ 47 = cc e in absurd (grind (arith, nat_tests))
one_cut (x ∷ s) (y ∷ t) more other ns nt e =
    let same : x ≡ y = cc e in
    let rest : s ++ 47 ∷ more ≡ t ++ 47 ∷ other = cc e in
    let both = one_cut s t more other (and_back _ _ ns) (and_back _ _ nt) rest in
    (ap (λ z. z ∷ s) same ∙ ap (λ l. y ∷ l) both.0, both.1)

-- a target names nothing but the parts around that slash
pub names_only : (target s c : List ℕ) → target ≡ prefix ++ s ++ 47 ∷ c → no_slash s ≡ true → (session command : List ℕ) → IsTarget target session command
    → (session ≡ s) × (command ≡ c)
names_only target s c e clear session command is =
    let same : prefix ++ (session ++ 47 ∷ command) ≡ prefix ++ (s ++ 47 ∷ c) = sym is.whole ∙ e in
    one_cut session s command c (unslashed session is.has_session) clear (ap (λ (l : List ℕ). drop 10 l) same)

pub names_nothing : (target s c : List ℕ) → target ≡ prefix ++ s ++ 47 ∷ c → no_slash s ≡ true → (is_session s && is_among commands c) ≡ false
    → (session command : List ℕ) → ¬ (IsTarget target session command)
names_nothing target s c e clear unlike session command is =
    let same = names_only target s c e clear session command is in
    let there : is_session s ≡ true = subst (λ (l : List ℕ). is_session l ≡ true) same.0 is.has_session in
    let known : is_among commands c ≡ true = subst (λ (l : List ℕ). is_among commands l ≡ true) same.1 is.has_command in
    go (is_session s) (is_among commands c) there known unlike
  where
    go : (a b : Bool) → a ≡ true → b ≡ true → (a && b) ≡ false → ⊥
    go true true ea eb h = cc h
    go true false ea eb h = cc eb
    go false b ea eb h = cc ea
