use Rattle.prof_json.proofs.Positions.{last_name, last_str, last_number}
use Rattle.prof_calls.proofs.reading.write_event.Goals as goal

pub text-requires : goal.text-requires
text-requires c = last_name c.requires c.in-Name.is

pub text-requires-in-Str : goal.text-requires-in-Str
text-requires-in-Str c = last_str c.requires c.in-Str.is

pub number_text-digit-items-requires : goal.number_text-digit-items-requires
number_text-digit-items-requires c = last_number c.requires c.in-Number.is
