use Rattle.std.proofs.Common.{inr}
use Rattle.prof_json.proofs.Positions.{last_begins_name, last_begins_array, last_begins_object}
use Rattle.prof_calls.proofs.reading.skip_behind.Goals as goal

pub skip_value-requires : goal.skip_value-requires
skip_value-requires c = inr (last_begins_name (rw c.in-Name.is at c.requires))

pub skip_value-requires-in-ArrayStart : goal.skip_value-requires-in-ArrayStart
skip_value-requires-in-ArrayStart c = inr (last_begins_array (rw c.in-ArrayStart.is at c.requires))

pub skip_value-requires-in-ObjectStart : goal.skip_value-requires-in-ObjectStart
skip_value-requires-in-ObjectStart c = inr (last_begins_object (rw c.in-ObjectStart.is at c.requires))
