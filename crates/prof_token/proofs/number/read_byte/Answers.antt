use Rattle.prof_token.proofs.Utf8.{one_utf8}
use Rattle.prof_token.proofs.number.read_byte.Goals as goal

pub push-requires : goal.push-requires
push-requires c = one_utf8 c.args.byte c.requires.small
