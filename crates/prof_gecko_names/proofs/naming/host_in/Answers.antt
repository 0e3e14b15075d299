use Rattle.std.proofs.Common.{ℕ, take, subst, sym}
use Rattle.std.specs.Str.{IsAscii}
use Rattle.std.proofs.lemmas.Str.{IsUtf8-from_ascii}
use Rattle.prof_gecko_names.proofs.Hosts.{host_ascii}
use Rattle.prof_gecko_names.proofs.naming.host_in.Goals as goal

pub unreachable-requires : goal.unreachable-requires
unreachable-requires c =
    let P : ℕ → Type 0 = λ n. IsAscii (take n c.args.rest.now) in
    c.in-Err.ensures.cases.0 (IsUtf8-from_ascii (take c.host_len-n.result c.args.rest.now) (subst P (sym c.host_len-n.ensures.value) (host_ascii c.args.rest.now)))
