-- What was read last. What was ahead and left before is what was read, and what is ahead and left now.
use Rattle.std.specs.Prelude.{◌≡◌, ℕ, List, ◌∷◌, ◌++◌, false, Option, ◌⊎◌}
use Rattle.prof_token.specs.Ahead.{Knows}
use Rattle.prof_token.specs.Bytes.{is_space}

-- the last byte that was read is no blank
pub record EndsOwn (before after : List ℕ) : Type 0 where
  pub others : List ℕ
  pub last : ℕ
  pub split : before ≡ others ++ last ∷ after
  pub own : is_space last ≡ false

-- so it is, where the source tells its bytes
pub record Owns (ahead : List ℕ) (left : Option (List ℕ)) (ahead' : List ℕ) (left' : Option (List ℕ)) : Type 0 where
  pub is : Knows (λ l m. EndsOwn (ahead ++ l) (ahead' ++ m)) left left'

-- so it is, or nothing was read
pub record OwnsAny (ahead : List ℕ) (left : Option (List ℕ)) (ahead' : List ℕ) (left' : Option (List ℕ)) : Type 0 where
  pub is : Knows (λ l m. (ahead ++ l ≡ ahead' ++ m) ⊎ EndsOwn (ahead ++ l) (ahead' ++ m)) left left'

-- these bytes were read
pub record ReadsOff (bytes ahead : List ℕ) (left : Option (List ℕ)) (ahead' : List ℕ) (left' : Option (List ℕ)) : Type 0 where
  pub is : Knows (λ l m. ahead ++ l ≡ bytes ++ (ahead' ++ m)) left left'
