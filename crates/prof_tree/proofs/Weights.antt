-- Paths with their weights, one by one
use Rattle.std.proofs.Common.{◌≡◌, ℕ, zero, suc, ◌+◌, ◌<◌, ◌≤◌, ℤ, List, [], ◌∷◌, ◌++◌, length, take, get_or, Option, Some, None, sym, ap, ◌∙◌, refl, add-one, arith}
use Rattle.prof_tables.specs.declared.rows.Step.{Step}
use Rattle.std.proofs.lemmas.List.{length-reverse}
use Rattle.prof_tree.specs.declared.growing.End.{End}
use Rattle.prof_tree.specs.declared.growing.End.TheVariants.{Root, Leaf}
use Rattle.prof_tree.specs.Growing.{steps_from}
use Rattle.prof_tree.specs.Nodes.{Weighed, weighed}
use Rattle.prof_tree.specs.Forest.{EachOf}
use Rattle.prof_tree.specs.Growing.{IsGrown, IsSmall}
use Rattle.prof_tree.proofs.Order.{EachOf-append}

pub weighed-more : (xs : List (List Step)) (ws : List ℤ) (i : ℕ) (x : List Step) (w : ℤ) → i < length xs → length ws ≡ length xs → get_or xs i x ≡ x → get_or ws i w ≡ w
    → weighed (take (i + 1) xs) (take (i + 1) ws) ≡ weighed (take i xs) (take i ws) ++ record { steps = x; weight = w } ∷ []
weighed-more xs ws i x w h e at_x at_w = ap (λ n. weighed (take n xs) (take n ws)) (add-one i) ∙ go xs ws i h e at_x at_w
  where
    go : (xs : List (List Step)) (ws : List ℤ) (i : ℕ) → i < length xs → length ws ≡ length xs → get_or xs i x ≡ x → get_or ws i w ≡ w → weighed (take (suc i) xs) (take (suc i) ws) ≡ weighed (take i xs) (take i ws) ++ record { steps = x; weight = w } ∷ []
    go [] ws i h e p q = absurd (omega arith)
    go (y ∷ xs) [] i h e p q = absurd (omega arith)
    go (y ∷ xs) (v ∷ ws) zero h e p q = ap (λ z. record { steps = z; weight = v } ∷ []) p ∙ ap (λ z. record { steps = x; weight = z } ∷ []) q
    go (y ∷ xs) (v ∷ ws) (suc i) h e p q = ap (λ z. record { steps = y; weight = v } ∷ z) (go xs ws i (omega arith) (omega arith) p q)

pub length-weighed : (xs : List (List Step)) (ws : List ℤ) → length (weighed xs ws) ≤ length xs
length-weighed [] ws = omega arith
length-weighed (x ∷ xs) [] = omega arith
length-weighed (x ∷ xs) (w ∷ ws) = omega (arith, length-weighed xs ws)

pub small-more : (xs : List Weighed) (x : List Step) (w : ℤ) → EachOf IsSmall xs → IsSmall (record { steps = x; weight = w }) → EachOf IsSmall (xs ++ record { steps = x; weight = w } ∷ [])
small-more xs x w h k = EachOf-append IsSmall xs (record { steps = x; weight = w } ∷ []) h (k, tt)

-- nothing has grown from no paths
pub IsGrown-none : (look : Option ℕ × ℕ → Option ℕ) → ((q : Option ℕ × ℕ) → look q ≡ None) → IsGrown [] [] [] look
IsGrown-none look none = record {
  table = record {
    len = refl;
    keys = λ r h. absurd (omega arith);
    above = λ r p h e. absurd (omega arith);
    apart = λ q r h k e. absurd (omega arith);
    depths = λ r h. absurd (omega arith);
    has = λ r h. absurd (omega arith);
    finds = λ o f r e. (let k : None ≡ Some r = sym (none _) ∙ e in cc);
  };
  adds = record { totals = λ r h. absurd (omega arith); categories = λ r h. absurd (omega arith); in_paths = λ r h. absurd (omega arith); whole = λ p n h. absurd h };
  owns = λ r h. absurd (omega arith);
}

pub get_or-any : (ws : List ℤ) (i : ℕ) (d e : ℤ) → i < length ws → get_or ws i d ≡ get_or ws i e
get_or-any [] i d e h = absurd (omega arith)
get_or-any (w ∷ ws) zero d e h = refl
get_or-any (w ∷ ws) (suc i) d e h = get_or-any ws i d e (omega arith)

pub length-steps_from : (from : End) (x : List Step) → length (steps_from from x) ≡ length x
length-steps_from Root x = refl
length-steps_from Leaf x = length-reverse x
