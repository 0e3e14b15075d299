-- An error among the kinds says that there are some.
use Rattle.std.proofs.Common.{◌≡◌, [], ◌∷◌, false, arith}
use Rattle.std.proofs.lemmas.Bool.Decides.{nat_tests}
use Rattle.clap.specs.Kinds.{Kinds, IsAmong}
use Rattle.clap.specs.Walk.{is_empty}
use Rattle.clap.specs.declared.error.kind.ErrorKind.{ErrorKind}

pub some_kinds : (k : ErrorKind) (ks : Kinds) → IsAmong k ks → is_empty ks ≡ false
some_kinds k [] h = absurd h
some_kinds k (x ∷ ks) h = grind (arith, nat_tests)
