-- The sizes of weights together
use Rattle.std.proofs.Common.{◌≡◌, ℕ, zero, suc, ◌+◌, ◌*◌, ◌^◌, ◌<◌, ◌≤◌, ℤ, pos, negsuc, ◌+ℤ◌, neg_ℤ, ◌≤ℤ◌, FitsSigned, Bool, true, false, cond, List, [], ◌∷◌, length, take, get_or, Option, Some, None, sym, ◌∙◌, subst, refl, lit<, arith}
use Rattle.std.specs.Prelude.{unsigned_abs}
use Rattle.std.specs.Int.{w128}
use Rattle.std.specs.List.{filter}
use Rattle.std.proofs.lemmas.Int.{ints, fits_signed_from_abs}
use Rattle.prof_tables.specs.declared.rows.Step.{Step}
use Rattle.prof_tree.specs.Nodes.{Weighed, total}
use Rattle.prof_view_tree.specs.Weighing.{held, mass, weight_at, with_more}

-- the sums of weights of 2^23 samples have less than 2^87
abbrev pub most : ℕ
most = 8388608 * 9223372036854775808

pub size-add : (a b : ℤ) → unsigned_abs (a +ℤ b) ≤ unsigned_abs a + unsigned_abs b
size-add (pos a) (pos b) = omega arith
size-add (pos a) (negsuc b) = omega (arith, ints)
size-add (negsuc a) (pos b) = omega (arith, ints)
size-add (negsuc a) (negsuc b) = omega arith

pub fits_within : (z : ℤ) (m : ℕ) → unsigned_abs z ≤ m → m ≤ most → FitsSigned w128 z
fits_within z m h k =
    let far : most < 2 ^ 127 = lit< tt in
    fits_signed_from_abs w128 z (omega arith)

pub fits_sum : (a b : ℤ) (m : ℕ) → unsigned_abs a + unsigned_abs b ≤ m → m ≤ most → FitsSigned w128 (a +ℤ b)
fits_sum a b m h k = fits_within (a +ℤ b) m (omega (arith, size-add a b)) k

-- a sum that the least number of 128 bits is too far for
pub small_sum : (a b : ℤ) (m : ℕ) → unsigned_abs a + unsigned_abs b ≤ m → m ≤ most → unsigned_abs (a +ℤ b) < 2 ^ 127
small_sum a b m h k =
    let far : most < 2 ^ 127 = lit< tt in
    omega (arith, size-add a b, far)

pub size_small : (z : ℤ) → neg_ℤ (pos 9223372036854775808) ≤ℤ z → z ≤ℤ pos 9223372036854775808 → unsigned_abs z ≤ 9223372036854775808
size_small (pos n) low high = omega (arith, ints)
size_small (negsuc n) low high = omega (arith, ints)

pub at-mass : (ws : List (Option ℤ)) (row : ℕ) → unsigned_abs (weight_at ws row) ≤ mass ws
at-mass [] row = omega arith
at-mass (None ∷ ws) zero = omega arith
at-mass (Some v ∷ ws) zero = omega arith
at-mass (None ∷ ws) (suc row) = at-mass ws row
at-mass (Some v ∷ ws) (suc row) = omega (arith, at-mass ws row)

pub mass-more : (ws : List (Option ℤ)) (row : ℕ) (w : ℤ) → row < length ws → mass (with_more ws row w) ≤ mass ws + unsigned_abs w
mass-more [] row w h = absurd (omega arith)
mass-more (None ∷ ws) zero w h = omega (arith, size-add (pos 0) w)
mass-more (Some v ∷ ws) zero w h = omega (arith, size-add v w)
mass-more (None ∷ ws) (suc row) w h = mass-more ws row w (omega arith)
mass-more (Some v ∷ ws) (suc row) w h = omega (arith, mass-more ws row w (omega arith))

-- the weight that is read of a row
pub read_at : (ws : List (Option ℤ)) (row : ℕ) (v got : Option ℤ) → row < length ws → v ≡ get_or ws row v → got ≡ v → get_or ws row None ≡ got
read_at ws row v got h is same = sym (same ∙ is ∙ any ws row h)
  where
    any : (ws : List (Option ℤ)) (row : ℕ) → row < length ws → get_or ws row v ≡ get_or ws row None
    any [] row h = absurd (omega arith)
    any (o ∷ ws) zero h = refl
    any (o ∷ ws) (suc row) h = any ws row (omega arith)

-- the first so many and one more
pub mass-take : (ws : List (Option ℤ)) (row : ℕ) → row < length ws → mass (take (suc row) ws) ≡ mass (take row ws) + unsigned_abs (weight_at ws row)
mass-take [] row h = absurd (omega arith)
mass-take (None ∷ ws) zero h = omega arith
mass-take (Some v ∷ ws) zero h = omega arith
mass-take (None ∷ ws) (suc row) h = mass-take ws row (omega arith)
mass-take (Some v ∷ ws) (suc row) h = omega (arith, mass-take ws row (omega arith))

pub weight_at-take : (ws : List (Option ℤ)) (n row : ℕ) → row < n → weight_at (take n ws) row ≡ weight_at ws row
weight_at-take [] zero row h = absurd (omega arith)
weight_at-take [] (suc n) row h = refl
weight_at-take (o ∷ ws) zero row h = absurd (omega arith)
weight_at-take (o ∷ ws) (suc n) zero h = refl
weight_at-take (o ∷ ws) (suc n) (suc row) h = weight_at-take ws n row (omega arith)

pub mass_within : (ws : List (Option ℤ)) (n : ℕ) → mass (take n ws) ≤ mass ws
mass_within [] zero = omega arith
mass_within [] (suc n) = omega arith
mass_within (o ∷ ws) zero = omega arith
mass_within (None ∷ ws) (suc n) = mass_within ws n
mass_within (Some v ∷ ws) (suc n) = omega (arith, mass_within ws n)

-- a weight and an earlier one
pub two_weights : (ws : List (Option ℤ)) (before row : ℕ) → before < row → row < length ws → unsigned_abs (weight_at ws before) + unsigned_abs (weight_at ws row) ≤ mass (take (suc row) ws)
two_weights ws before row h k =
    let e : weight_at (take row ws) before ≡ weight_at ws before = weight_at-take ws row before h in
    let b : unsigned_abs (weight_at ws before) ≤ mass (take row ws) = subst (λ z. unsigned_abs z ≤ mass (take row ws)) e (at-mass (take row ws) before) in
    omega (arith, mass-take ws row k)

-- the sums at a node
pub held-mass : (test : Weighed → Bool) (path_at : ℕ → List Step) (first : ℕ) (ws : List (Option ℤ)) → unsigned_abs (total (filter test (held path_at first ws))) ≤ mass ws
held-mass test path_at first [] = omega arith
held-mass test path_at first (None ∷ ws) = held-mass test path_at (suc first) ws
held-mass test path_at first (Some v ∷ ws) =
    let rest = filter test (held path_at (suc first) ws) in
    let h : unsigned_abs (total rest) ≤ mass ws = held-mass test path_at (suc first) ws in
    elim (test (record { steps = path_at first; weight = v })) as (λ b. unsigned_abs (total (cond b (record { steps = path_at first; weight = v } ∷ rest) rest)) ≤ unsigned_abs v + mass ws) [
      | true ↦ omega (arith, size-add v (total rest))
      | false ↦ omega arith
    ]
