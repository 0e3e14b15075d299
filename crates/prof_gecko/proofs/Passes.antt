-- Lists of checks that pass.
use Rattle.std.proofs.Common.{◌≡◌, ℕ, ◌≤◌, Option, None, Some, List, [], ◌∷◌, refl, arith}
use Rattle.std.specs.Option.{option_map, option_or}
use Rattle.std.proofs.lemmas.Bool.Decides.{nat_tests}
use Rattle.prof_raw.specs.declared.column.Size.TheVariants.{AtMost}
use Rattle.prof_raw.specs.declared.rule.ListFault.{ListFault}
use Rattle.prof_raw.specs.declared.rule.Broken.{Broken}
use Rattle.prof_raw.specs.declared.rule.Table.{Table}
use Rattle.prof_raw.specs.declared.rule.Column.{Column}
use Rattle.prof_raw.specs.Rules.{size_rule, whole_fault}
use Rattle.prof_raw.specs.Checks.{named, first_of}
use Rattle.prof_raw.proofs.FirstRowLemmas.{or_none, map_none}

-- nothing behind a check
pub or_nothing : {A : Type 0} (o : Option A) → option_or o None ≡ o
or_nothing None = refl
or_nothing (Some x) = refl

-- each check of a list passes
abbrev pub AllPass : List (Option Broken) → Type 0
AllPass [] = Unit {0}
AllPass (check ∷ checks) = (check ≡ None) × AllPass checks

pub all_pass : (checks : List (Option Broken)) → first_of checks ≡ None → AllPass checks
all_pass [] h = tt
all_pass (check ∷ checks) h = let p = or_none check (first_of checks) h in (p.0, all_pass checks p.1)

pub none_fails : (checks : List (Option Broken)) → AllPass checks → first_of checks ≡ None
none_fails [] h = refl
none_fails (check ∷ checks) h = let e = h.0 in rw e (none_fails checks h.1)

pub named_back : (thread : Option ℕ) (t : Table) (c : Column) (f : Option ListFault) → named thread t c f ≡ None → f ≡ None
named_back thread t c None h = refl
named_back thread t c (Some f) h = cc

pub within : (most n : ℕ) → size_rule (AtMost most) n ≡ None → n ≤ most
within most n h = grind (arith, nat_tests)

-- a number of rows within its limit
pub size_of : (thread : Option ℕ) (t : Table) (c : Column) (most n : ℕ) → named thread t c (option_map whole_fault (size_rule (AtMost most) n)) ≡ None → size_rule (AtMost most) n ≡ None
size_of thread t c most n h = map_none whole_fault (size_rule (AtMost most) n) (named_back thread t c (option_map whole_fault (size_rule (AtMost most) n)) h)
