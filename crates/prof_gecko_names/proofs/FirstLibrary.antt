-- The first library that has an address.
use Rattle.std.proofs.Common.{◌≡◌, ℕ, ◌<◌, ◌≤◌, List, length, None, Some, true, false, refl, arith}
use Rattle.std.specs.Prelude.{nat_lt}
use Rattle.std.specs.List.{position_or_len}
use Rattle.std.proofs.lemmas.Bool.{lt-ltb, le-ltb}
use Rattle.std.proofs.lemmas.List.Sums.{position_or_len_is}
use Rattle.prof_gecko_names.specs.Libraries.{Lib}
use Rattle.prof_gecko_names.specs.Libraries.{has_address, library_of, lib_at, no_lib}

pub found : (a : ℕ) (libs : List Lib) (i : ℕ) → i < length libs → ((k : ℕ) → k < i → has_address a (lib_at libs k) ≡ false) → has_address a (lib_at libs i) ≡ true → Some i ≡ library_of libs a
found a libs i small before at =
    let place : position_or_len (has_address a) libs ≡ i = position_or_len_is (has_address a) libs i no_lib (omega arith) before (λ _. at) in
    let test : nat_lt i (length libs) ≡ true = lt-ltb i (length libs) small in
    rw (place, test) refl

pub missing : (a : ℕ) (libs : List Lib) (i : ℕ) → length libs ≤ i → ((k : ℕ) → k < i → has_address a (lib_at libs k) ≡ false) → None ≡ library_of libs a
missing a libs i all before =
    let place : position_or_len (has_address a) libs ≡ length libs = position_or_len_is (has_address a) libs (length libs) no_lib (omega arith) (λ k l. before k (omega arith)) (λ l. absurd (omega arith)) in
    let test : nat_lt (length libs) (length libs) ≡ false = le-ltb (length libs) (length libs) (omega arith) in
    rw (place, test) refl
