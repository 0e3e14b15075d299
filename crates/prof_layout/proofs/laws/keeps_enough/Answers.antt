use Rattle.prof_layout.proofs.KeptValue.{list_kept, shared_breaks, shared_stands, own_breaks, own_stands, thread_breaks, thread_stands}
use Rattle.prof_layout.proofs.laws.keeps_enough.Goals as goal

pub returns : goal.returns
returns c = record { list = list_kept; shared = shared_breaks; shared_whole = shared_stands; own = own_breaks; own_whole = own_stands; thread = thread_breaks; thread_whole = thread_stands }
