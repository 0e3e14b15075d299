use Rattle.prof_write.proofs.samples.add_weight_type.Goals as goal

pub returns-in-Samples : goal.returns-in-Samples
returns-in-Samples g c = rw (← c.in-Samples.ensures) c.add_text.ensures

pub returns-in-Bytes : goal.returns-in-Bytes
returns-in-Bytes g c = rw (← c.in-Bytes.ensures) c.add_text-in-Bytes.ensures

pub returns-in-Ns : goal.returns-in-Ns
returns-in-Ns g c = rw (← c.in-Ns.ensures) c.add_text-in-Ns.ensures
