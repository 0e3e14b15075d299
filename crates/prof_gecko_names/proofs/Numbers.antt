-- Keys numbered by their first use: each number is that of a use, and each use has one row.
use Rattle.std.proofs.Common.{◌≡◌, ℕ, ◌+◌, ◌<◌, ◌≤◌, Bool, true, false, List, [], ◌∷◌, ◌++◌, length, refl, ◌∙◌, arith, length-append}
use Rattle.std.specs.Prelude.{if◌then◌else◌, fold, All}
use Rattle.std.specs.List.{list_any, position_or_len}
use Rattle.std.proofs.lemmas.List.Elements.{All-nil, All-push, All-weaker}
use Rattle.prof_gecko_names.specs.FirstUses.{Numbered, use_key, numbered}
use Rattle.prof_gecko_names.proofs.Growing.{any_below, place_le}

-- what each numbering keeps
pub record IsCounted {K : Type 0} (n : Numbered K) : Type 0 where
  pub rows : length n.rows ≡ length n.uses
  pub numbers : All (λ i. i < length n.uses) n.numbers
  pub firsts : All (λ i. i < length n.numbers) n.rows
  pub few : length n.rows ≤ length n.numbers

use_by : {K : Type 0} (uses : List K) (rows numbers : List ℕ) (key : K) (place : ℕ) (known : Bool) → (known ≡ true → place < length uses) → place ≤ length uses → IsCounted (record { uses = uses; rows = rows; numbers = numbers })
    → IsCounted (record { uses = if known then uses else uses ++ key ∷ []; rows = if known then rows else rows ++ length numbers ∷ []; numbers = numbers ++ place ∷ [] })
use_by uses rows numbers key place true below most h =
    let next = length-append numbers (place ∷ []) in
    let few = h.few in
    record {
      rows = h.rows;
      numbers = All-push (λ i. i < length uses) numbers place h.numbers (below refl);
      firsts = All-weaker (λ i. i < length numbers) (λ i. i < length (numbers ++ place ∷ [])) (λ i lt. omega arith) rows h.firsts;
      few = omega arith;
    }
use_by uses rows numbers key place false below most h =
    let next = length-append numbers (place ∷ []) in
    let more = length-append uses (key ∷ []) in
    let many = length-append rows (length numbers ∷ []) in
    let same = h.rows in
    let few = h.few in
    record {
      rows = omega arith;
      numbers = All-push (λ i. i < length (uses ++ key ∷ [])) numbers place (All-weaker (λ i. i < length uses) (λ i. i < length (uses ++ key ∷ [])) (λ i lt. omega arith) numbers h.numbers) (omega arith);
      firsts = All-push (λ i. i < length (numbers ++ place ∷ [])) rows (length numbers) (All-weaker (λ i. i < length numbers) (λ i. i < length (numbers ++ place ∷ [])) (λ i lt. omega arith) rows h.firsts) (omega arith);
      few = omega arith;
    }

use_counts : {K : Type 0} (eq : K → K → Bool) (n : Numbered K) (key : K) → IsCounted n → IsCounted (use_key eq n key)
use_counts eq n key h = use_by n.uses n.rows n.numbers key (position_or_len (eq key) n.uses) (list_any (eq key) n.uses) (any_below (eq key) n.uses) (place_le (eq key) n.uses) h

fold_counts : {K : Type 0} (eq : K → K → Bool) (keys : List K) (n : Numbered K) → IsCounted n → IsCounted (fold (use_key eq) n keys)
fold_counts eq [] n h = h
fold_counts eq (key ∷ keys) n h = fold_counts eq keys (use_key eq n key) (use_counts eq n key h)

pub numbered_counts : {K : Type 0} (eq : K → K → Bool) (keys : List K) → IsCounted (numbered eq keys)
numbered_counts eq keys = fold_counts eq keys (record { uses = []; rows = []; numbers = [] }) (record { rows = refl; numbers = All-nil _; firsts = All-nil _; few = omega arith })

fold_numbers : {K : Type 0} (eq : K → K → Bool) (keys : List K) (n : Numbered K) → length (fold (use_key eq) n keys).numbers ≡ length n.numbers + length keys
fold_numbers eq [] n = omega arith
fold_numbers eq (key ∷ keys) n =
    let rest = fold_numbers eq keys (use_key eq n key) in
    let one = length-append n.numbers (position_or_len (eq key) n.uses ∷ []) in
    rest ∙ omega arith

-- each row has a number
pub numbered_numbers : {K : Type 0} (eq : K → K → Bool) (keys : List K) → length (numbered eq keys).numbers ≡ length keys
numbered_numbers eq keys = fold_numbers eq keys (record { uses = []; rows = []; numbers = [] }) ∙ omega arith
